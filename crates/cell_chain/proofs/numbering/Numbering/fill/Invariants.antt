use Rattle.std.proofs.Common.{◌≡◌, ◌≤◌, ℕ, true, map, take, vec_capacity}
use Rattle.calc_chain.specs.Chain.{has}
use Rattle.cell_chain.specs.Numbering.{cell_at, is_used}
use Rattle.cell_chain.proofs.numbering.Numbering.fill.Given as goal

-- the numbers of the cells so far
abbrev pub invariant-loop-cell : goal.invariant-loop-cell
invariant-loop-cell l = record {
  cells : map (cell_at l.self) l.numbers.items ≡ take l.cell-index l.cells;
  used : (number : ℕ) → has l.numbers.items number ≡ true → is_used l.self number ≡ true;
  room : vec_capacity l.fn.numbers ≤ vec_capacity l.numbers;
}
