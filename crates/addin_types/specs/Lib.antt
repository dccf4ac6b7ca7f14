-- What the contracts of this crate cite.
-- What the product means.
pub mod Samples
pub mod TypeText
