-- Laws that the proofs of this crate share.
pub mod Acting
pub mod BadWords
pub mod LongLines
pub mod PublicLaws
pub mod Readings
pub mod Replies
pub mod Runs
pub mod SteadyRuns
pub mod Texts
pub mod TurnAnswers
pub mod Turns
