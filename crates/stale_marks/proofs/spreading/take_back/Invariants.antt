use Rattle.std.proofs.Common.{◌≡◌, true, false, take}
use Rattle.std.specs.BTreeSet.{IsOrdered}
use Rattle.cell_refs.specs.declared.grid.Cell.{Cell}
use Rattle.cell_refs.specs.Cell.{cell_cmp, is_among}
use Rattle.stale_marks.proofs.spreading.take_back.Given as goal

-- the cells so far aren't marked, and no other mark is gone
abbrev pub invariant-loop-cell : goal.invariant-loop-cell
invariant-loop-cell l = record {
  ordered : IsOrdered cell_cmp l.marks;
  left : (q : Cell) → is_among l.marks.keys q ≡ true → (is_among l.fn.marks.keys q ≡ true) × (is_among (take l.cell-index l.added) q ≡ false);
  kept : (q : Cell) → is_among l.fn.marks.keys q ≡ true → is_among (take l.cell-index l.added) q ≡ false → is_among l.marks.keys q ≡ true;
}
