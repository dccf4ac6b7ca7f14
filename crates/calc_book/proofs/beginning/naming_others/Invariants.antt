use Rattle.std.proofs.Common.{◌≡◌, not, take}
use Rattle.std.specs.List.{filter}
use Rattle.calc_book.specs.Begun.{names_itself}
use Rattle.calc_book.proofs.beginning.naming_others.Given as goal

-- of the cells so far those that don't name themselves
abbrev pub invariant-loop-cell : goal.invariant-loop-cell
invariant-loop-cell l = l.due.items ≡ filter (λ q. not (names_itself l.table q)) (take l.cell-index l.cells)
