-- What the product means.
pub mod Jobs
pub mod Outcomes
pub mod Resuming
-- What the crate's own functions keep.
pub mod Added
pub mod Choices
pub mod Inputs
pub mod Steps
