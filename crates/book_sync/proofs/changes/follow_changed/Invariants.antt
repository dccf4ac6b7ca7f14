use Rattle.std.proofs.Common.{◌≡◌, true, false}
use Rattle.cell_refs.specs.declared.grid.Cell.{Cell}
use Rattle.cell_refs.specs.Cell.{is_among}
use Rattle.book_sync.specs.Following.{TableFollows}
use Rattle.book_sync.specs.Steps.{IsInStep, PutsAmong}
use Rattle.book_sync.proofs.changes.follow_changed.Given as goal

-- the changed cells that aren't left are in step
abbrev pub invariant-loop-cell : goal.invariant-loop-cell
invariant-loop-cell l = record {
  follows : TableFollows l.book.contents l.changed.keys l.table;
  store : PutsAmong l.changed.keys l.fn.store l.store;
  left : (q : Cell) → is_among l.cell-iterator q ≡ true → is_among l.changed.keys q ≡ true;
  steps : (q : Cell) → is_among l.changed.keys q ≡ true → is_among l.cell-iterator q ≡ false → IsInStep l.book.contents l.table l.store q;
}
