use Rattle.std.proofs.Common.{◌≤◌, ◌-◌, length, take}
use Rattle.std.specs.BTreeSet.{IsOrdered}
use Rattle.cell_refs.specs.Cell.{cell_cmp}
use Rattle.stale_marks.specs.Spreading.{AreWalked, HasBegun, HasSpread}
use Rattle.stale_marks.proofs.spreading.walk.Given as goal

-- the readers of the cells that were listed first are marked
abbrev pub invariant-loop-next : goal.invariant-loop-next
invariant-loop-next l = record {
  ordered : IsOrdered cell_cmp l.marks;
  spread : HasSpread l.table l.origin l.fn.marks.keys l.marks.keys l.added.items;
  begun : HasBegun l.table l.origin l.marks.keys l.added.items;
  walked : AreWalked l.table l.marks.keys (take l.next l.added.items);
  within : l.next ≤ length l.added.items;
}

-- each cell that is listed is a reader of the table, and stands in the list once
abbrev pub decreases-loop-next : goal.decreases-loop-next
decreases-loop-next l = length l.table - l.next
