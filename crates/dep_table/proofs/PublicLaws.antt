-- The laws that crates above may cite: readers and what they name.
pub use Rattle.dep_table.proofs.Readers.{readers_of-among, reads-reader, precedents-lies_in}
