-- What the product means.
pub mod Output
pub mod Program
pub mod Words
-- What the crate's own functions keep.
pub mod Endings
pub mod Session
