use Rattle.std.proofs.Common.{◌≡◌, take}
use Rattle.std.specs.List.{filter}
use Rattle.calc_book.specs.Calling.{has_call_where}
use Rattle.calc_book.proofs.calling.calling.Given as goal

-- of the cells so far those that have a call
abbrev pub invariant-loop-cell : goal.invariant-loop-cell
invariant-loop-cell g l = l.callers.items ≡ filter (has_call_where l.book.contents (g.T.CallTest.passes l.test)) (take l.cell-index l.cells)
