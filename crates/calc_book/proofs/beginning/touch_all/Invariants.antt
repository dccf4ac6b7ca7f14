use Rattle.std.proofs.Common.{◌≡◌, true, take}
use Rattle.cell_refs.specs.declared.grid.Cell.{Cell}
use Rattle.cell_refs.specs.Cell.{is_among}
use Rattle.cell_store.specs.Store.{KeepsPresent, KeepsShown, is_touched}
use Rattle.calc_book.proofs.beginning.touch_all.Given as goal

-- the cells so far are touched
abbrev pub invariant-loop-cell : goal.invariant-loop-cell
invariant-loop-cell l = record {
  present : KeepsPresent l.fn.store l.store;
  shown : KeepsShown l.fn.store l.store;
  touched : (q : Cell) → is_among (take l.cell-index l.cells) q ≡ true → is_touched l.store q ≡ true;
}
