use Rattle.std.proofs.Common.{◌≡◌, None, Some, if◌then◌else◌, take}
use Rattle.cell_refs.specs.declared.grid.Cell.{Cell}
use Rattle.cell_refs.specs.Cell.{is_among}
use Rattle.cell_store.specs.Store.{KeepsShown, KeepsTouched, present_at}
use Rattle.calc_book.proofs.beginning.empty_all.Given as goal

-- the cells so far have no value
abbrev pub invariant-loop-cell : goal.invariant-loop-cell
invariant-loop-cell l = record {
  present : (q : Cell) → present_at l.store q ≡ (if is_among (take l.cell-index l.cells) q then Some None else present_at l.fn.store q);
  shown : KeepsShown l.fn.store l.store;
  touched : KeepsTouched l.fn.store l.store;
}
