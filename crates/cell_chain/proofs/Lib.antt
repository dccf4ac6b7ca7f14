-- Laws of cells in place of their numbers, and of chains of cells.
mod CellLaws
mod Mapped
mod NumberLaws
mod OrderLaws
pub mod PublicLaws
