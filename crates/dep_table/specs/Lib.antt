-- What the product means.
pub mod Steps
pub mod Table
-- What the crate's own functions keep.
pub mod Indexed
