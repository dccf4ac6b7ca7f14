-- What the product means.
pub mod Source
