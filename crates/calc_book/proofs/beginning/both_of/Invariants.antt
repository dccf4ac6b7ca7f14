use Rattle.std.proofs.Common.{◌≡◌, ◌||◌, true}
use Rattle.cell_refs.specs.declared.grid.Cell.{Cell}
use Rattle.cell_refs.specs.Cell.{is_among}
use Rattle.calc_book.proofs.beginning.both_of.Given as goal

-- each changed cell is listed or left
abbrev pub invariant-loop-cell : goal.invariant-loop-cell
invariant-loop-cell l = record {
  marked : (q : Cell) → is_among l.marks q ≡ true → is_among l.both.items q ≡ true;
  all : (q : Cell) → (is_among l.marks q || is_among l.changed.keys q) ≡ (is_among l.both.items q || is_among l.cell-iterator q);
}
