-- What the product means.
pub mod Arguments
pub mod Contents
pub mod Faults
pub mod Script
pub mod Strings
pub mod Writing
