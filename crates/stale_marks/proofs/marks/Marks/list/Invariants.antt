use Rattle.std.proofs.Common.{◌≡◌, ◌++◌}
use Rattle.stale_marks.proofs.marks.Marks.list.Given as goal

-- the cells so far and those that are left are all marked ones
abbrev pub invariant-loop-cell : goal.invariant-loop-cell
invariant-loop-cell l = l.cells.items ++ l.cell-iterator ≡ l.self
