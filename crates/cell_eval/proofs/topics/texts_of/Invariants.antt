use Rattle.std.proofs.Common.{◌≡◌, map, drop}
use Rattle.cell_values.specs.Coercion.{text_of}
use Rattle.functions.specs.Inputs.{all_ok}
use Rattle.cell_eval.proofs.Gathering.{with_front}
use Rattle.cell_eval.proofs.topics.texts_of.Given as goal

-- the texts so far stand before those of the values that are still to come
abbrev pub invariant-loop-value : goal.invariant-loop-value
invariant-loop-value l = all_ok (map text_of l.values) ≡ with_front l.texts.items (all_ok (map text_of (drop l.value-index l.values)))
