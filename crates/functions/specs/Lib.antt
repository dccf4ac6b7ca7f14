-- What the contracts of this crate cite.
-- What the product means.
pub mod Applied
pub mod Areas
pub mod Arithmetic
pub mod Functions
pub mod Gathering
pub mod Inputs
pub mod Kinds
pub mod Logic
pub mod TextLaws
pub mod Texts
-- What the crate's own functions keep.
pub mod AskedKinds
pub mod Folds
pub mod Tallies
pub mod TextSteps
pub mod Truths
