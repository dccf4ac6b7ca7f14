-- Laws of type texts.
mod TypeFaults
mod TypeLetters
mod TypeTexts
pub mod PublicLaws
