-- What the product means.
pub mod CellOrder
-- What the crate's own functions keep.
pub mod Numbering
