use Rattle.std.proofs.Common.{◌≡◌, Some}
use Rattle.cell_store.specs.Walking.{entries_from, unknowns_inside}
use Rattle.cell_store.proofs.Walked.{IsLeft}
use Rattle.cell_store.proofs.unknowns.unknown_on.Given as goal

-- all cells without a value are among what is left
abbrev pub invariant-loop-cell : goal.invariant-loop-cell
invariant-loop-cell l = record {
  left : IsLeft l.present.entries l.fn.seek l.cell-iterator;
  same : unknowns_inside l.areas l.cell-iterator ≡ unknowns_inside l.areas (entries_from (Some l.fn.seek) l.present.entries);
}
