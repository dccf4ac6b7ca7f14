-- What the contracts of this crate cite.
-- What the product means.
pub mod Coercion
pub mod Comparison
pub mod Digits
pub mod Error
pub mod Name
pub mod SameValue
pub mod Text
pub mod TextFault
pub mod Topic
pub mod Value
pub mod Word
