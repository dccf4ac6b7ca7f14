use Rattle.std.proofs.Common.{◌≡◌, None, ◌++◌}
use Rattle.cell_store.specs.Listing.{sheet_from}
use Rattle.cell_store.proofs.Listed.{IsBehind}
use Rattle.cell_store.proofs.sheets.sheet.Given as goal

-- what is listed, and what is shown behind the last cell, are all that is shown
abbrev pub invariant-loop-cell : goal.invariant-loop-cell
invariant-loop-cell l = record {
  listed : l.sheet.items ++ sheet_from l.present.entries l.last l.cell-iterator ≡ sheet_from l.present.entries None l.before.entries;
  behind : IsBehind l.last l.cell-iterator;
}
