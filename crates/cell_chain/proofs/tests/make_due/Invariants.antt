use Rattle.std.proofs.Common.{◌≡◌, true}
use Rattle.std.specs.List.{IsDistinct}
use Rattle.cell_refs.specs.declared.grid.Cell.{Cell}
use Rattle.cell_refs.specs.Cell.{is_among, same_cell}
use Rattle.cell_chain.proofs.tests.make_due.Given as goal

-- the cells so far are entries, each once
abbrev pub invariant-loop-row : goal.invariant-loop-row
invariant-loop-row l = record {
  entries : (cell : Cell) → is_among l.due.items cell ≡ true → is_among l.chain.entries cell ≡ true;
  once : IsDistinct same_cell l.due.items;
}
