-- Laws of lists whose cells change places, and of rows that are written and emptied.
mod LinkLaws
mod ReaderLaws
mod RowChanges
mod RowLaws
mod Zones
