-- What the product means.
pub mod Table
-- What the crate's own functions keep.
pub mod Linking
pub mod Rows
pub mod TopicKey
