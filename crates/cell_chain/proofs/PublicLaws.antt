-- The laws that crates above may cite: which cells a chain has after a call, and which are due.
pub use Rattle.cell_chain.proofs.Mapped.{without-none}
pub use Rattle.cell_chain.proofs.OrderLaws.{among-append, among-entries_among, among-moved, among-without, due-among, due-split, first-among}
