-- The table of connected topics, and the cells that read them.
use Rattle.std.specs.Prelude.{◌≡◌, ℕ, ◌<◌, ◌≤◌, Bool, true, false, not, ◌&&◌, List, [], ◌∷◌, Option, is_some, if◌then◌else◌, nat_eq, map, find, filter, All, AllPairs}
use Rattle.std.specs.Map.{lookup}
use Rattle.std.specs.Option.{option_map, option_map_or}
use Rattle.cell_refs.specs.declared.grid.Cell.{Cell}
use Rattle.cell_refs.specs.Cell.{is_among}
use Rattle.cell_values.specs.declared.topics.Topic.{Topic}
use Rattle.cell_values.specs.declared.values.Value.{Value}
use Rattle.cell_values.specs.SameValue.{same_value}
use Rattle.cell_values.specs.Topic.{same_topic}

-- a connected topic: its id, itself, its value, and the round in which it was connected
pub record ConnectedTopic : Type 0 where
  pub id : ℕ
  pub topic : Topic
  pub value : Value
  pub round : ℕ

-- the cells that read a topic: those that are kept, and those of the running round
pub record Readings : Type 0 where
  pub kept : List Cell
  pub running : List Cell

-- the topics in the order in which they were connected, the readings of each under its id, the greatest id that was
-- ever given, and how many topics can be connected with the memory that was taken
pub record TableState : Type 0 where
  pub topics : List ConnectedTopic
  pub readings : List (ℕ × Readings)
  pub greatest : ℕ
  pub room : ℕ

-- the topic of an id
abbrev pub topic_at : List ConnectedTopic → ℕ → Option ConnectedTopic
topic_at topics id = find (λ (t : ConnectedTopic). nat_eq id t.id) topics

-- the id of a topic
abbrev pub id_of : List ConnectedTopic → Topic → Option ℕ
id_of topics topic = option_map (λ (t : ConnectedTopic). t.id) (find (λ (t : ConnectedTopic). same_topic topic t.topic) topics)

-- the kept readers of a topic
abbrev pub readers_of : TableState → ℕ → List Cell
readers_of table id = option_map_or (λ (r : Readings). r.kept) (lookup (nat_eq id) table.readings) []

-- the readers of a topic in the running round
abbrev pub running_of : TableState → ℕ → List Cell
running_of table id = option_map_or (λ (r : Readings). r.running) (lookup (nat_eq id) table.readings) []

-- whether a cell is a kept reader of a topic
abbrev pub has_reader : TableState → ℕ → Cell → Bool
has_reader table id cell = is_among (readers_of table id) cell

-- whether a cell has read a topic in the running round
abbrev pub has_read : TableState → ℕ → Cell → Bool
has_read table id cell = is_among (running_of table id) cell

-- whether a list has no cell
abbrev pub is_no_cell : List Cell → Bool
is_no_cell [] = true
is_no_cell (cell ∷ cells) = false

-- the first topic without kept readers
abbrev pub first_unread : TableState → Option ConnectedTopic
first_unread table = find (λ (t : ConnectedTopic). is_no_cell (readers_of table t.id)) table.topics

-- the first topic that was connected in a round
abbrev pub first_since : TableState → ℕ → Option ConnectedTopic
first_since table round = find (λ (t : ConnectedTopic). nat_eq round t.round) table.topics

-- a topic with its id, as it leaves the table
abbrev pub leaving : ConnectedTopic → Topic × ℕ
leaving t = (t.topic, t.id)

-- the topics but for the one of this id
abbrev pub topics_without : List ConnectedTopic → ℕ → List ConnectedTopic
topics_without topics id = filter (λ (t : ConnectedTopic). not (nat_eq id t.id)) topics

-- the topics, where the one of this id has another value
abbrev pub topics_with_value : List ConnectedTopic → ℕ → Value → List ConnectedTopic
topics_with_value topics id value = map (λ (t : ConnectedTopic). if nat_eq id t.id then record t { value = value } else t) topics

-- whether a topic is there and has another value
abbrev pub has_other_value : List ConnectedTopic → ℕ → Value → Bool
has_other_value topics id value = option_map_or (λ (t : ConnectedTopic). not (same_value t.value value)) (topic_at topics id) false

-- the same topics with the same values, and the same greatest id
pub record KeepsTopics (old new : TableState) : Type 0 where
  pub topics : new.topics ≡ old.topics
  pub greatest : new.greatest ≡ old.greatest

-- the same kept readers of each topic
abbrev pub KeepsReaders : TableState → TableState → Type 0
KeepsReaders old new = (id : ℕ) (cell : Cell) → has_reader new id cell ≡ has_reader old id cell

-- the same readers of each topic in the running round
abbrev pub KeepsRunning : TableState → TableState → Type 0
KeepsRunning old new = (id : ℕ) (cell : Cell) → has_read new id cell ≡ has_read old id cell

-- all is as it was; of the room this doesn't speak
pub record KeepsTable (old new : TableState) : Type 0 where
  pub topics : KeepsTopics old new
  pub readers : KeepsReaders old new
  pub running : KeepsRunning old new

-- the topic of this id left the table with its readers, and all else is as it was
pub record TakesOut (old new : TableState) (id : ℕ) : Type 0 where
  pub topics : new.topics ≡ topics_without old.topics id
  pub greatest : new.greatest ≡ old.greatest
  pub readers : (q : ℕ) (cell : Cell) → has_reader new q cell ≡ (not (nat_eq id q) && has_reader old q cell)
  pub running : (q : ℕ) (cell : Cell) → has_read new q cell ≡ (not (nat_eq id q) && has_read old q cell)

-- what holds of each table: the ids rise in the order of connection, and none is 0 or beyond the greatest that was
-- given; no topic stands twice; only a topic that is there has readers
pub record IsTable (table : TableState) : Type 0 where
  pub rising : AllPairs (λ (a b : ConnectedTopic). a.id < b.id) table.topics
  pub within : All (λ (t : ConnectedTopic). (1 ≤ t.id) × (t.id ≤ table.greatest)) table.topics
  pub once : AllPairs (λ (a b : ConnectedTopic). same_topic a.topic b.topic ≡ false) table.topics
  pub read : (id : ℕ) (cell : Cell) → has_reader table id cell ≡ true → is_some (topic_at table.topics id) ≡ true
  pub running : (id : ℕ) (cell : Cell) → has_read table id cell ≡ true → is_some (topic_at table.topics id) ≡ true
