-- The laws that crates above may cite: a mark follows an edit.
pub use Rattle.stale_marks.proofs.EditLaws.{edit-marked}
