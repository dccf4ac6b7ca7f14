-- The laws that crates above may cite: entries that look up alike, and what an untouched cell shows.
pub use Rattle.cell_store.proofs.Entries.{equal-alike}
pub use Rattle.cell_store.proofs.Updated.{untouched-shows}
