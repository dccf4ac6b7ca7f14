-- What the product means.
pub mod Count
pub mod Server
-- What the crate's own functions keep.
pub mod Board
pub mod Feed
pub mod Links
pub mod Strings
