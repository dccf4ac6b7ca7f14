use Rattle.std.proofs.Common.{◌≡◌, length}
use Rattle.std.specs.List.{filter_map}
use Rattle.functions.specs.Folds.{fold_of_values}
use Rattle.functions.specs.Inputs.{all_ok}
use Rattle.functions.specs.Logic.{truth_in_cell}
use Rattle.functions.specs.Truths.{with_truth}
use Rattle.functions.proofs.logic.see_cells.Given as goal

abbrev pub invariant-loop-left : goal.invariant-loop-left
invariant-loop-left l =
    fold_of_values with_truth l.seen (all_ok (filter_map truth_in_cell l.left)) ≡ fold_of_values with_truth l.fn.seen (all_ok (filter_map truth_in_cell l.fn.values))

abbrev pub decreases-loop-left : goal.decreases-loop-left
decreases-loop-left l = length l.left
