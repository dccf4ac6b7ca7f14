-- Laws of the order of cells, and of what is written and read.
mod AmongCells
mod BothWays
mod Capitals
mod CellOrder
mod Columns
mod Following
mod Front
mod HandleText
mod Listing
mod Numbers
mod Numerals
mod SheetWord
pub mod PublicLaws
