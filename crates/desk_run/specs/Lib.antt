-- What the product means.
pub mod Output
pub mod Run
-- What the crate's own functions keep.
pub mod Session
