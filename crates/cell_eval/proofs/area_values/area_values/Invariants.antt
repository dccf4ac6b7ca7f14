use Rattle.std.proofs.Common.{◌≡◌, ◌++◌}
use Rattle.std.specs.List.Sorted.{IsStrictlySortedBy}
use Rattle.std.specs.Map.{keys_of}
use Rattle.cell_refs.specs.Area.{cells_of}
use Rattle.cell_refs.specs.Cell.{cell_cmp}
use Rattle.cell_eval.proofs.InputLaws.{values_along}
use Rattle.cell_eval.proofs.area_values.area_values.Given as goal

-- the values so far stand before those that the other cells find, one after another
abbrev pub invariant-loop-cell : goal.invariant-loop-cell
invariant-loop-cell l = record {
  goes : (goal.iterator-loop-cell).can_next l.cell-iterator;
  ends : (goal.iterator-loop-cell).is_finite l.cell-iterator;
  whole : l.values.items ++ values_along l.rest l.cell-iterator ≡ values_along l.inputs (cells_of l.fn.area);
  ordered : IsStrictlySortedBy cell_cmp (keys_of l.rest);
}
