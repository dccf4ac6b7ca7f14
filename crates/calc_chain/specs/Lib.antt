-- What the product means.
pub mod Chain
-- What the crate's own functions keep.
pub mod Due
pub mod Linking
