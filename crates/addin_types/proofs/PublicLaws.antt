-- The laws that crates above may cite: type texts read and written.
pub use Rattle.addin_types.proofs.TypeTexts.{fault_again, fault_takes, one_type, type_again, type_takes}
