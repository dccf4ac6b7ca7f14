-- Laws of the dependency table.
mod Readers
mod Indexing
mod Found
pub mod PublicLaws
