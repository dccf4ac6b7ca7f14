-- What the product means.
pub mod OpenCalls
-- What the crate's own functions keep.
pub mod Tree
