use Rattle.std.proofs.Common.{◌≡◌, ◌∷◌, ◌++◌, take}
use Rattle.std.specs.List.{flat_map}
use Rattle.cell_values.specs.Word.{value_text}
use Rattle.sheet_print.proofs.calls.push_others.Given as goal

-- the arguments so far were appended
abbrev pub invariant-loop-value : goal.invariant-loop-value
invariant-loop-value l = l.out.items ≡ l.fn.out.items ++ flat_map (λ value. 44 ∷ value_text value) (take l.value-index l.args)
