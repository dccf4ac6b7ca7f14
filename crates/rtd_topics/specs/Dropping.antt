-- For the crate's own functions: topics that leave the table.
use Rattle.std.specs.Prelude.{◌≡◌, ◌<◌, ℕ, true, false, not, AllPairs, List, Some, filter, map, nat_eq}
use Rattle.cell_refs.specs.declared.grid.Cell.{Cell}
use Rattle.cell_values.specs.declared.topics.Topic.{Topic}
use Rattle.known_servers.specs.Server.{ServerParts}
use Rattle.rtd_server.specs.Server.{ServerState}
use Rattle.rtd_topics.specs.Parts.{IsLinked, known_of, published_of}
use Rattle.topic_table.specs.Table.{ConnectedTopic, TableState, TakesOut, has_reader, topic_at}

-- the topic of an id left the table
pub record Leaves (old new : TableState) (topic : Topic) (id : ℕ) : Type 0 where
  pub left : ConnectedTopic
  pub at : topic_at old.topics id ≡ Some left
  pub same : left.topic ≡ topic
  pub rises : AllPairs (λ (a b : ConnectedTopic). a.id < b.id) old.topics
  pub out : TakesOut old new id

-- some cell is kept to read the topic of an id
pub record IsRead (table : TableState) (id : ℕ) : Type 0 where
  pub reader : Cell
  pub reads : has_reader table id reader ≡ true

-- topics were disconnected: servers and table stay linked, and nothing else that shows of the servers changes
pub record Drops {S : Type 0} (state : S → ServerState) (ks ks' : List (ServerParts S)) (table table' : TableState) : Type 0 where
  pub linked : (round : ℕ) → IsLinked state ks table round false → IsLinked state ks' table' round false
  pub known : map known_of ks' ≡ map known_of ks
  pub published : (topic : Topic) → published_of state ks' topic ≡ published_of state ks topic

-- the topics that no cell is kept to read were disconnected
pub record DropsUnread {S : Type 0} (state : S → ServerState) (ks ks' : List (ServerParts S)) (table table' : TableState) : Type 0 where
  pub drops : Drops state ks ks' table table'
  pub readers : (q : ℕ) (cell : Cell) → has_reader table' q cell ≡ has_reader table q cell
  pub kept : (q : ℕ) (cell : Cell) → has_reader table q cell ≡ true → topic_at table'.topics q ≡ topic_at table.topics q
  pub among : (q : ℕ) (t : ConnectedTopic) → topic_at table'.topics q ≡ Some t → topic_at table.topics q ≡ Some t
  pub read : (q : ℕ) (t : ConnectedTopic) → topic_at table'.topics q ≡ Some t → IsRead table' q

-- the topics that were connected in a round were disconnected; where they had no kept reader, no kept reader left
pub record DropsSince {S : Type 0} (state : S → ServerState) (ks ks' : List (ServerParts S)) (table table' : TableState) (round : ℕ) : Type 0 where
  pub drops : Drops state ks ks' table table'
  pub topics : table'.topics ≡ filter (λ (t : ConnectedTopic). not (nat_eq round t.round)) table.topics
  pub among : (q : ℕ) (t : ConnectedTopic) → topic_at table'.topics q ≡ Some t → topic_at table.topics q ≡ Some t
  pub kept : (q : ℕ) (t : ConnectedTopic) → topic_at table.topics q ≡ Some t → nat_eq round t.round ≡ false → topic_at table'.topics q ≡ Some t
  pub readers : ((q : ℕ) (t : ConnectedTopic) (cell : Cell) → topic_at table.topics q ≡ Some t → nat_eq round t.round ≡ true → has_reader table q cell ≡ false)
      → (q : ℕ) (cell : Cell) → has_reader table' q cell ≡ has_reader table q cell
