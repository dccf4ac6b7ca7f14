use Rattle.std.proofs.Common.{◌≡◌, length}
use Rattle.functions.specs.Folds.{fold_of_values}
use Rattle.functions.specs.Logic.{truths}
use Rattle.functions.specs.Truths.{with_truth, NO_TRUTHS}
use Rattle.functions.proofs.logic.see.Given as goal

abbrev pub invariant-loop-left : goal.invariant-loop-left
invariant-loop-left l = fold_of_values with_truth l.seen (truths l.left) ≡ fold_of_values with_truth NO_TRUTHS (truths l.fn.args)

abbrev pub decreases-loop-left : goal.decreases-loop-left
decreases-loop-left l = length l.left
