use Rattle.cell_refs.proofs.Front.{ascii_cell, ascii_reference, one_cell}
use Rattle.cell_refs.proofs.laws.each_cell_has_its_text.Goals as goal

pub returns-clause-reference : goal.returns-clause-reference
returns-clause-reference c = ascii_reference

pub returns-clause-cell : goal.returns-clause-cell
returns-clause-cell c = ascii_cell

pub returns-clause-one : goal.returns-clause-one
returns-clause-one c = one_cell
