use Rattle.std.proofs.Common.{◌≡◌, ℕ, true, false, Some, length}
use Rattle.std.specs.Prelude.{filter, nat_eq, not}
use Rattle.cell_refs.specs.declared.grid.Cell.{Cell}
use Rattle.rtd_topics.specs.Dropping.{Drops}
use Rattle.topic_table.specs.Table.{ConnectedTopic, has_reader, topic_at}
use Rattle.rtd_topics.proofs.leaving.disconnect_since.Given as goal

abbrev pub invariant-loop-topic : goal.invariant-loop-topic
invariant-loop-topic g l = record {
  drops : Drops g.S.RtdServer.state l.fn.servers.items l.servers.items l.fn.table l.table;
  topics : filter (λ (t : ConnectedTopic). not (nat_eq l.fn.round t.round)) l.table.topics ≡ filter (λ (t : ConnectedTopic). not (nat_eq l.fn.round t.round)) l.fn.table.topics;
  among : (q : ℕ) (t : ConnectedTopic) → topic_at l.table.topics q ≡ Some t → topic_at l.fn.table.topics q ≡ Some t;
  kept : (q : ℕ) (t : ConnectedTopic) → topic_at l.fn.table.topics q ≡ Some t → nat_eq l.fn.round t.round ≡ false → topic_at l.table.topics q ≡ Some t;
  readers : ((q : ℕ) (t : ConnectedTopic) (cell : Cell) → topic_at l.fn.table.topics q ≡ Some t → nat_eq l.fn.round t.round ≡ true → has_reader l.fn.table q cell ≡ false)
      → (q : ℕ) (cell : Cell) → has_reader l.table q cell ≡ has_reader l.fn.table q cell;
}

abbrev pub decreases-loop-topic : goal.decreases-loop-topic
decreases-loop-topic g l = length l.table.topics
