use Rattle.std.proofs.Common.{◌≡◌, ℕ, true, Some, length}
use Rattle.cell_refs.specs.declared.grid.Cell.{Cell}
use Rattle.rtd_topics.specs.Dropping.{Drops}
use Rattle.topic_table.specs.Table.{ConnectedTopic, has_reader, topic_at}
use Rattle.rtd_topics.proofs.leaving.disconnect_unread.Given as goal

abbrev pub invariant-loop-topic : goal.invariant-loop-topic
invariant-loop-topic g l = record {
  drops : Drops g.S.RtdServer.state l.fn.servers.items l.servers.items l.fn.table l.table;
  readers : (q : ℕ) (cell : Cell) → has_reader l.table q cell ≡ has_reader l.fn.table q cell;
  kept : (q : ℕ) (cell : Cell) → has_reader l.fn.table q cell ≡ true → topic_at l.table.topics q ≡ topic_at l.fn.table.topics q;
  among : (q : ℕ) (t : ConnectedTopic) → topic_at l.table.topics q ≡ Some t → topic_at l.fn.table.topics q ≡ Some t;
}

abbrev pub decreases-loop-topic : goal.decreases-loop-topic
decreases-loop-topic g l = length l.table.topics
