-- Laws of the functions, and lemmas on numbers, divisions, what is gathered, and characters.
mod CharacterFacts
mod CountLaws
mod Division
mod FindFacts
mod Gathers
mod Judging
mod NumberLaws
mod PlainFacts
mod PowerLaws
mod RepeatFacts
mod SumLaws
mod TallyLaws
mod TextAnswers
mod TextLaws
mod TrimFacts
