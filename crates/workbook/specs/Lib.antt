-- What the product means.
pub mod Agreement
pub mod Book
pub mod Circular
pub mod Desk
pub mod Evaluation
pub mod History
pub mod InForm
pub mod Meaning
pub mod Pulling
pub mod Reads
pub mod Registry
pub mod Stale
pub mod State
pub mod Step
-- What the crate's own functions keep.
pub mod NamedEntries
