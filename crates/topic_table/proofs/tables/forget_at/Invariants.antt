use Rattle.std.proofs.Common.{◌≡◌, ◌&&◌, not, ℕ, take}
use Rattle.std.specs.Prelude.{nat_eq}
use Rattle.std.specs.List.{list_any}
use Rattle.cell_refs.specs.declared.grid.Cell.{Cell}
use Rattle.cell_refs.specs.Cell.{same_cell}
use Rattle.topic_table.specs.Table.{KeepsReaders, KeepsTopics, has_read}
use Rattle.topic_table.proofs.tables.forget_at.Given as goal

-- the ids so far
abbrev pub invariant-loop-id : goal.invariant-loop-id
invariant-loop-id l =
    KeepsTopics l.fn.rows l.rows × KeepsReaders l.fn.rows l.rows
    × ((q : ℕ) (c : Cell) → has_read l.rows q c ≡ (has_read l.fn.rows q c && not (list_any (nat_eq q) (take l.id-index l.ids) && same_cell c l.cell)))
    × (l.rows.room ≡ l.fn.rows.room)
