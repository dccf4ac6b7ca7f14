use Rattle.std.proofs.Common.{◌≡◌, ◌++◌}
use Rattle.cell_store.specs.Listing.{entries_between}
use Rattle.cell_store.proofs.sheets.push_between.Given as goal

-- what was added and what is left are all that lies between
abbrev pub invariant-loop-cell : goal.invariant-loop-cell
invariant-loop-cell l = l.sheet.items ++ l.cell-iterator ≡ l.fn.sheet.items ++ entries_between l.fn.after l.fn.end l.present.entries
