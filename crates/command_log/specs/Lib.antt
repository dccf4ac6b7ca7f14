-- What the product means.
pub mod Log
