-- What the product means.
pub mod Server
-- What the crate's own functions keep.
pub mod News
