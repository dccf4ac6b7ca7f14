use Rattle.std.proofs.Common.{◌≡◌, map, take}
use Rattle.cell_chain.specs.Numbering.{cell_at}
use Rattle.cell_chain.proofs.numbering.Numbering.cells_at.Given as goal

-- the cells of the numbers so far
abbrev pub invariant-loop-number : goal.invariant-loop-number
invariant-loop-number l = l.cells.items ≡ map (cell_at l.self) (take l.number-index l.numbers)
