-- What the crate's own functions keep.
pub mod Keeping
