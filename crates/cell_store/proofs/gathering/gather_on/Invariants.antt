use Rattle.std.proofs.Common.{◌≡◌, Some, ◌++◌}
use Rattle.cell_store.specs.Walking.{entries_from, entries_inside, with_values}
use Rattle.cell_store.proofs.Walked.{IsLeft}
use Rattle.cell_store.proofs.gathering.gather_on.Given as goal

-- what is gathered and what is left lie in the areas from the cell on
abbrev pub invariant-loop-cell : goal.invariant-loop-cell
invariant-loop-cell l = record {
  left : IsLeft l.present.entries l.fn.seek l.cell-iterator;
  gathered : with_values l.entries.items ++ entries_inside l.areas l.cell-iterator ≡ with_values l.fn.entries.items ++ entries_inside l.areas (entries_from (Some l.fn.seek) l.present.entries);
}
