use Rattle.cell_eval.proofs.OperationLaws.{one_turn}
use Rattle.std.proofs.Common.{ap, sym, ◌∙◌, arith}
use Rattle.workbook.specs.Evaluation.{repeated_negation}
use Rattle.std.proofs.Common.{◌-◌, ◌+◌}
use Rattle.cell_eval.proofs.operations.negated.Goals as goal

pub loop-preserved : goal.loop-preserved
loop-preserved c =
    ap (repeated_negation (c.args.count - (c.loop.counter + 1))) c.negate-value.ensures
    ∙ sym (one_turn c.args.count c.loop.counter c.loop.value (omega arith))
    ∙ c.loop.invariant
