-- What the product means.
pub mod Sides
