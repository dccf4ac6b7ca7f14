-- The laws that crates above may cite: which pairs are one.
pub use Rattle.area_index.proofs.Forests.{same_pair_is, same_pairs}
