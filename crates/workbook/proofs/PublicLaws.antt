-- The laws that crates above may cite: contents of a book, walks, what is reached, answers and the topics that are
-- read, and meanings.
pub use Rattle.workbook.proofs.Accepting.{meaning_stays}
pub use Rattle.workbook.proofs.Agreeing.{answer_alike, answer_over, answer_same, cell_listed, full_needs_none, read_alike, read_enough, read_foretells, read_listed}
pub use Rattle.workbook.proofs.Completing.{all_closed, all_valued}
pub use Rattle.workbook.proofs.Entries.{own_content}
pub use Rattle.workbook.proofs.Evaluations.{evaluated_alike}
pub use Rattle.workbook.proofs.Meanings.{each_leads, none_where, shows_circle, meaning-unfolds}
pub use Rattle.workbook.proofs.Keeping.{meaning-kept_clean, meaning_between, reads_between, topics_between}
pub use Rattle.workbook.proofs.Reaching.{reaches-among, or_false, or_left, reaches-enough, reaches-constant}
pub use Rattle.workbook.proofs.Steps.{formula_cells-has, formula_cells-count, next-shorter, next-formulas}
pub use Rattle.workbook.proofs.Walking.{any_alike, walks-formula, circular-names, any_leads}
pub use Rattle.workbook.proofs.Values.{circular_or_valued}
