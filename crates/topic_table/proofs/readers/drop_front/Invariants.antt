use Rattle.std.proofs.Common.{◌≡◌, ◌≤◌, length, drop}
use Rattle.cell_refs.specs.declared.grid.Cell.{Cell}
use Rattle.cell_refs.specs.Cell.{is_among}
use Rattle.topic_table.proofs.readers.drop_front.Given as goal

-- the cells behind are the same
abbrev pub invariant-loop-left : goal.invariant-loop-left
invariant-loop-left l = (l.left ≤ length l.cells) × ((c : Cell) → is_among (drop l.left l.cells) c ≡ is_among (drop l.count l.fn.cells) c)

abbrev pub decreases-loop-left : goal.decreases-loop-left
decreases-loop-left l = l.left
