use Rattle.std.proofs.Common.{◌≡◌, take}
use Rattle.std.specs.List.{list_any}
use Rattle.cell_refs.specs.declared.grid.Cell.{Cell}
use Rattle.cell_refs.specs.Cell.{is_among}
use Rattle.topic_table.specs.Table.{has_reader}
use Rattle.rtd_topics.proofs.pulls.readers_of.Given as goal

abbrev pub invariant-loop-id : goal.invariant-loop-id
invariant-loop-id l = (cell : Cell) → is_among l.cells.items cell ≡ list_any (λ id. has_reader l.table id cell) (take l.id-index l.ids)
