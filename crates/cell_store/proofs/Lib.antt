-- Laws of the order of cells, of the cells of areas, and of entries in cell order.
mod AreaOrder
mod AreaPlaces
mod AreaSteps
mod CellsInOrder
mod Entries
mod Gathered
mod Listed
mod Sought
mod Updated
mod Walked
pub mod PublicLaws
