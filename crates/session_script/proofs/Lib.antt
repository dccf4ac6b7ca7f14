-- What lines say.
mod Texts
mod StringLists
mod JoinedStrings
mod Visible
mod Parts
mod Cuts
mod Words
mod FormulaTexts
mod Lengths
mod SaidAgain
mod LinesAgain
mod SaidForms
mod SaidLines
