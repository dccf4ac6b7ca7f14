-- What the product means.
pub mod Accepting
pub mod Readings
pub mod Rounds
-- What the crate's own functions keep.
pub mod Looks
pub mod Noting
pub mod Samples
