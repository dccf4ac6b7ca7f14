-- What the product means.
pub mod Listening
-- What the crate's own functions keep.
pub mod Seen
