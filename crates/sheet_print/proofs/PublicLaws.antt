-- The laws that crates above may cite: what a list that was only appended to keeps.
pub use Rattle.sheet_print.proofs.Appending.{prefix-more, OnOk-with}
