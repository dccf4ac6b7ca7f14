use Rattle.std.proofs.Common.{◌≡◌, ◌+◌, ◌*◌, ◌≤◌, ◌^◌, length}
use Rattle.std.specs.List.{filter_map}
use Rattle.functions.specs.Folds.{fold_of_values}
use Rattle.functions.specs.Inputs.{all_ok}
use Rattle.functions.specs.Gathering.{number_in_cell}
use Rattle.functions.proofs.gathering.tally_cells.Given as goal

abbrev pub invariant-loop-left : goal.invariant-loop-left
invariant-loop-left g l = record {
  numbers : fold_of_values g.T.Tally.step l.tally (all_ok (filter_map number_in_cell l.left)) ≡ fold_of_values g.T.Tally.step l.fn.start (all_ok (filter_map number_in_cell l.fn.values));
  room : g.T.Tally.size l.tally + 2 ^ 63 * length l.left ≤ g.T.Tally.size l.fn.start + 2 ^ 63 * length l.fn.values;
}

abbrev pub decreases-loop-left : goal.decreases-loop-left
decreases-loop-left g l = length l.left
