use Rattle.cell_values.proofs.TextFacts.{true_is_text, false_is_text, empty_is_text}
use Rattle.cell_values.proofs.coercions.to_text.Goals as goal

pub known-text-requires : goal.known-text-requires
known-text-requires c = true_is_text

pub known-text-requires-in-Bool-false : goal.known-text-requires-in-Bool-false
known-text-requires-in-Bool-false c = false_is_text

pub known-text-requires-in-Blank : goal.known-text-requires-in-Blank
known-text-requires-in-Blank c = empty_is_text
