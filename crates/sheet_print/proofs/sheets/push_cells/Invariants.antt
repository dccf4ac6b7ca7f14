use Rattle.std.proofs.Common.{◌≡◌, ◌++◌, take}
use Rattle.std.specs.List.{flat_map}
use Rattle.sheet_print.specs.Replies.{cell_line}
use Rattle.sheet_print.proofs.sheets.push_cells.Given as goal

-- the lines of the cells so far were appended
abbrev pub invariant-loop-cell : goal.invariant-loop-cell
invariant-loop-cell l = l.out.items ≡ l.fn.out.items ++ flat_map cell_line (take l.cell-index l.cell-items)
