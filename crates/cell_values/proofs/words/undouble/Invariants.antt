use Rattle.std.proofs.Common.{◌≡◌, ◌++◌, List, ℕ, length}
use Rattle.std.specs.Option.{option_map}
use Rattle.cell_values.specs.Word.{before_closing_quote}
use Rattle.cell_values.proofs.words.undouble.Given as goal

abbrev pub invariant-loop-rest : goal.invariant-loop-rest
invariant-loop-rest l = before_closing_quote l.fn.word ≡ option_map (λ (t : List ℕ). l.bytes.items ++ t) (before_closing_quote l.rest)

abbrev pub decreases-loop-rest : goal.decreases-loop-rest
decreases-loop-rest l = length l.rest
