use Rattle.std.proofs.Common.{◌≡◌, not, take}
use Rattle.std.specs.List.{filter}
use Rattle.cell_refs.specs.Cell.{is_among}
use Rattle.calc_book.proofs.noting.not_noted.Given as goal

-- of the cells so far those that aren't noted
abbrev pub invariant-loop-cell : goal.invariant-loop-cell
invariant-loop-cell l = l.new.items ≡ filter (λ q. not (is_among l.changed.keys q)) (take l.cell-index l.cells)
