use Rattle.std.proofs.Common.{◌≡◌, ◌∷◌, ◌++◌, take}
use Rattle.std.specs.List.{flat_map}
use Rattle.cell_values.specs.Word.{quotation_of}
use Rattle.session_script.proofs.pushing.push_others.Given as goal

-- the strings so far were appended
abbrev pub invariant-loop-string : goal.invariant-loop-string
invariant-loop-string l =
    l.out.items ≡ l.fn.out.items ++ flat_map (λ string. 44 ∷ quotation_of string) (take l.string-index l.strings)
