use Rattle.std.proofs.Common.{◌≡◌, ◌++◌, List, true, take}
use Rattle.std.specs.BTreeSet.{IsOrdered}
use Rattle.cell_refs.specs.declared.areas.Area.{Area}
use Rattle.cell_refs.specs.declared.grid.Cell.{Cell}
use Rattle.cell_refs.specs.Cell.{cell_cmp, is_among}
use Rattle.stale_marks.specs.Spreading.{AreDependents, HasSpread}
use Rattle.stale_marks.specs.Marks.{KeepsMarks}
use Rattle.stale_marks.proofs.spreading.add_all.Given as goal

-- the cells so far are marked, and nothing else was
abbrev pub invariant-loop-cell : goal.invariant-loop-cell
invariant-loop-cell l = record {
  ordered : IsOrdered cell_cmp l.marks;
  spread : (table : List (Cell × List Area)) (origin : Cell) (old : List Cell) → HasSpread table origin old l.fn.marks.keys l.fn.added.items → AreDependents table origin l.cells → HasSpread table origin old l.marks.keys l.added.items;
  all : (q : Cell) → is_among (take l.cell-index l.cells) q ≡ true → is_among l.marks.keys q ≡ true;
  kept : KeepsMarks l.fn.marks.keys l.marks.keys;
  behind : (more : List Cell) × (l.added.items ≡ l.fn.added.items ++ more);
}
