-- What the product means.
pub mod CalcState
-- What the crate's own functions keep.
pub mod Keeping
pub mod Edits
pub mod Begun
pub mod Calling
pub mod Samples
