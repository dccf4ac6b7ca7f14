use Rattle.std.proofs.Common.{◌≡◌, ◌++◌, map, take, drop}
use Rattle.cell_values.specs.Value.{final_of}
use Rattle.cell_eval.proofs.added.all_finished.Given as goal

-- the values so far have no Blank, and the others are as they were
abbrev pub invariant-loop-value : goal.invariant-loop-value
invariant-loop-value l = l.value-items ≡ map final_of (take l.value-index l.fn.values.items) ++ drop l.value-index l.fn.values.items
