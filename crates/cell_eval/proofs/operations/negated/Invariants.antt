use Rattle.std.proofs.Common.{◌≡◌, ◌-◌}
use Rattle.workbook.specs.Evaluation.{repeated_negation}
use Rattle.cell_eval.proofs.operations.negated.Given as goal

-- the value is still to be negated as often as turns are left
abbrev pub invariant-loop : goal.invariant-loop
invariant-loop l = repeated_negation (l.fn.count - l.counter) l.value ≡ repeated_negation l.fn.count l.fn.value
