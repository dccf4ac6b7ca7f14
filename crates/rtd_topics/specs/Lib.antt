-- What the product means.
pub mod RtdState
-- What the crate's own functions keep.
pub mod Dropping
pub mod Parts
