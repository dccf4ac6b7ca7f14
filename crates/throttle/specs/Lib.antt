-- What the product means.
pub mod Pacing
