use Rattle.std.proofs.Common.{◌≡◌, ◌+◌, ◌*◌, ◌≤◌, ◌^◌, length, All}
use Rattle.functions.specs.Folds.{fold_of_values}
use Rattle.functions.specs.Inputs.{IsInput}
use Rattle.functions.specs.Gathering.{numbers_or_error}
use Rattle.functions.proofs.gathering.tally.Given as goal

abbrev pub invariant-loop-left : goal.invariant-loop-left
invariant-loop-left g l = record {
  numbers : fold_of_values g.T.Tally.step l.tally (numbers_or_error l.left) ≡ fold_of_values g.T.Tally.step l.fn.start (numbers_or_error l.fn.args);
  each : All IsInput l.left;
  room : g.T.Tally.size l.tally + 2 ^ 79 * length l.left ≤ 2 ^ 88;
}

abbrev pub decreases-loop-left : goal.decreases-loop-left
decreases-loop-left g l = length l.left
