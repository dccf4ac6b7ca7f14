-- The ids that are noted for a cell, and for a topic.
use Rattle.std.specs.Prelude.{◌≡◌, ℕ, Bool, true, ◌||◌, List, [], nat_eq}
use Rattle.std.specs.List.{list_any}
use Rattle.std.specs.Map.{lookup}
use Rattle.std.specs.Option.{option_map_or}
use Rattle.cell_refs.specs.declared.grid.Cell.{Cell}
use Rattle.cell_refs.specs.Cell.{same_cell}
use Rattle.cell_values.specs.declared.topics.Topic.{Topic}
use Rattle.cell_values.specs.Topic.{same_topic}
use Rattle.topic_table.specs.Table.{TableState, has_reader, has_read, id_of}

-- the ids noted for a cell
abbrev pub links_at : List (Cell × List ℕ) → Cell → List ℕ
links_at links cell = option_map_or (λ (ids : List ℕ). ids) (lookup (same_cell cell) links) []

-- whether an id is noted for a cell
abbrev pub has_link : List (Cell × List ℕ) → Cell → ℕ → Bool
has_link links cell id = list_any (nat_eq id) (links_at links cell)

-- each topic that a cell has read, or is kept as a reader of, is noted for the cell
abbrev pub AreLinked : List (Cell × List ℕ) → TableState → Type 0
AreLinked links table = (id : ℕ) (cell : Cell) → (has_reader table id cell || has_read table id cell) ≡ true → has_link links cell id ≡ true

-- the ids of the topics are those that the map has
abbrev pub AreIndexed : List (Topic × ℕ) → TableState → Type 0
AreIndexed ids table = (topic : Topic) → lookup (same_topic topic) ids ≡ id_of table.topics topic
