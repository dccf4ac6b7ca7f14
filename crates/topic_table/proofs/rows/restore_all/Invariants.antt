use Rattle.std.proofs.Common.{◌≡◌}
use Rattle.indexmap.specs.IndexMap.{spare}
use Rattle.topic_table.specs.Rows.{IsRestored}
use Rattle.topic_table.proofs.RowChanges.{Progress}
use Rattle.topic_table.proofs.rows.restore_all.Given as goal

-- the rows so far
abbrev pub invariant-loop-i : goal.invariant-loop-i
invariant-loop-i l = Progress IsRestored l.i l.fn.rows.entries l.rows.entries × (spare l.rows ≡ spare l.fn.rows)
