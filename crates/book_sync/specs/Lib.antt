-- What the product means.
pub mod Following
-- What the crate's own functions keep.
pub mod Steps
