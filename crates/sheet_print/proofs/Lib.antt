-- Laws of what is appended, and of records.
mod Appending
mod Arguments
mod Fields
mod OneLine
mod Written
pub mod PublicLaws
