pub mod Sorting
pub mod Pending
