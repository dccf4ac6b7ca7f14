-- What the product means.
pub mod Count
pub mod LineReader
pub mod Lines
pub mod Sink
pub mod Source
-- What the crate's own functions keep.
pub mod CallPlan
pub mod LineBuffer
