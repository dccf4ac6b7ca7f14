use Rattle.std.proofs.Common.{◌≡◌, ◌&&◌, not, ℕ, take}
use Rattle.cell_refs.specs.declared.grid.Cell.{Cell}
use Rattle.cell_refs.specs.Cell.{is_among}
use Rattle.topic_table.specs.Table.{KeepsReaders, KeepsTopics, has_read}
use Rattle.topic_table.proofs.tables.Topics.start_round.Given as goal

-- the cells so far
abbrev pub invariant-loop-cell : goal.invariant-loop-cell
invariant-loop-cell l =
    KeepsTopics l.fn.self l.self × KeepsReaders l.fn.self l.self
    × ((q : ℕ) (c : Cell) → has_read l.self q c ≡ (has_read l.fn.self q c && not (is_among (take l.cell-index l.cells) c)))
    × (l.self.room ≡ l.fn.self.room)
