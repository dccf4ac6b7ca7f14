-- What the contracts of this crate cite.
-- What the product means.
pub mod Area
pub mod Cell
pub mod Handle
pub mod Reaching
pub mod RefText
pub mod Written
-- What the crate's own functions keep.
pub mod AreaWalk
pub mod CellInput
pub mod HandleReading
pub mod Reading
