-- Lemmas of this crate, and those that crates above may cite.
mod Accepting
mod Asking
mod Chains
mod Finishing
mod Jobs
mod OpenCells
mod Readings
mod Registered
mod Samples
mod TopicsRead
mod Unknowns
mod Working
pub mod PublicLaws
