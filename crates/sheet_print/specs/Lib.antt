-- What the product means.
pub mod Records
pub mod Replies
-- What the crate's own functions keep.
pub mod RecordWriter
