-- What the crate's own functions keep.
pub mod Forests
pub mod Pairs
pub mod Shapes
pub mod Slots
pub mod Standing
pub mod Walk
