-- Laws of values, and lemmas on digits and texts.
mod ComparisonLaws
mod DigitFacts
mod OperatorLaws
mod Readings
mod TextFacts
mod TopicLaws
mod WordLaws
pub mod PublicLaws
