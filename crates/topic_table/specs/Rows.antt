-- The rows of the table: one under the id of each topic; none where the topic has left.
use Rattle.std.specs.Prelude.{◌≡◌, ℕ, ◌<◌, ◌≤◌, Bool, false, not, ◌&&◌, List, [], ◌∷◌, ◌++◌, Option, None, Some, if◌then◌else◌, nat_eq, nat_lt, map, take}
use Rattle.std.specs.List.{list_any}
use Rattle.std.specs.Map.{lookup}
use Rattle.std.specs.Option.{option_map, option_map_or}
use Rattle.cell_refs.specs.declared.grid.Cell.{Cell}
use Rattle.cell_refs.specs.Cell.{is_among, same_cell}
use Rattle.cell_values.specs.declared.topics.Topic.{Topic}
use Rattle.cell_values.specs.declared.values.Value.{Value}
use Rattle.cell_values.specs.SameValue.{same_value}
use Rattle.cell_values.specs.Topic.{same_topic}
use Rattle.topic_table.specs.declared.places.Row.{Row}
use Rattle.topic_table.specs.declared.rows.Passed.{Passed}
use Rattle.topic_table.specs.declared.rows.Passed.TheVariants.{Unread, Since}
use Rattle.topic_table.specs.Table.{ConnectedTopic, Readings, TableState, is_no_cell}

-- an entry that isn't empty
abbrev pub live_entry : ℕ → Option Row → List (ℕ × Row)
live_entry id None = []
live_entry id (Some row) = (id, row) ∷ []

-- the entries that aren't empty
abbrev pub live : List (ℕ × Option Row) → List (ℕ × Row)
live [] = []
live (e ∷ es) = live_entry e.0 e.1 ++ live es

-- the topic of a row
abbrev pub connected : ℕ × Row → ConnectedTopic
connected r = record { id = r.0; topic = r.1.topic; value = r.1.value; round = r.1.round }

-- the readers of a row, under its id
abbrev pub readings_in : ℕ × Row → ℕ × Readings
readings_in r = (r.0, r.1.readers)

-- how many topics can be connected with the memory that was taken: one, where there are readers in store, room for a
-- row, and an id
abbrev pub room_in : Bool → ℕ → ℕ → ℕ
room_in is_ready spare greatest =
    if is_ready then (if nat_lt 0 spare then (if nat_lt greatest 18446744073709551615 then 1 else 0) else 0) else 0

-- the table of these rows
abbrev pub table_of : List (ℕ × Option Row) → ℕ → ℕ → TableState
table_of rows greatest room = record {
  topics = map connected (live rows);
  readings = map readings_in (live rows);
  greatest = greatest;
  room = room;
}

-- the ids rise from above the first bound, and stay within the second
abbrev pub IsRising : ℕ → List (ℕ × Option Row) → ℕ → Type 0
IsRising low [] high = low ≤ high
IsRising low (e ∷ es) high = (low < e.0) × IsRising e.0 es high

-- no topic stands twice
abbrev pub IsOnce : List ConnectedTopic → Type 0
IsOnce [] = Unit {0}
IsOnce (t ∷ ts) = (list_any (λ (s : ConnectedTopic). same_topic t.topic s.topic) ts ≡ false) × IsOnce ts

-- a row but for its readers
abbrev pub bare : Option Row → Option (Topic × Value × ℕ)
bare place = option_map (λ (row : Row). (row.topic, row.value, row.round)) place

-- the kept readers of a row
abbrev pub kept_in : Option Row → List Cell
kept_in place = option_map_or (λ (row : Row). row.readers.kept) place []

-- the readers of a row in the running round
abbrev pub running_in : Option Row → List Cell
running_in place = option_map_or (λ (row : Row). row.readers.running) place []

-- whether a row is there without kept readers
abbrev pub is_unread_place : Option Row → Bool
is_unread_place place = option_map_or (λ (row : Row). is_no_cell row.readers.kept) place false

-- whether a row of a topic is there
abbrev pub is_topic_place : Topic → Option Row → Bool
is_topic_place topic place = option_map_or (λ (row : Row). same_topic topic row.topic) place false

-- whether a row is there that was connected in a round
abbrev pub is_since_place : ℕ → Option Row → Bool
is_since_place round place = option_map_or (λ (row : Row). nat_eq round row.round) place false

-- a place whose row has another value
abbrev pub with_value : Option Row → Value → Option Row
with_value None value = None
with_value (Some row) value = Some (record row { value = value })

-- whether a row is there and has another value
abbrev pub is_other_in : Option Row → Value → Bool
is_other_in place value = option_map_or (λ (row : Row). not (same_value row.value value)) place false

-- the row of an id, where it is there
abbrev pub row_at : List (ℕ × Option Row) → ℕ → Option Row
row_at rows id = option_map_or (λ (place : Option Row). place) (lookup (nat_eq id) rows) None

-- the topic and the id of an entry, where it isn't empty
abbrev pub topic_in : Option (ℕ × Option Row) → Option (Topic × ℕ)
topic_in None = None
topic_in (Some e) = option_map (λ (row : Row). (row.topic, e.0)) e.1

-- the places have the same ids, and each became what it may become
abbrev pub EachPlace : (Option Row → Option Row → Type 0) → List (ℕ × Option Row) → List (ℕ × Option Row) → Type 0
EachPlace R [] [] = Unit {0}
EachPlace R [] (f ∷ fs) = ⊥
EachPlace R (e ∷ es) [] = ⊥
EachPlace R (e ∷ es) (f ∷ fs) = (f.0 ≡ e.0) × R e.1 f.1 × EachPlace R es fs

-- a row has these readers, by membership, and is the same otherwise
pub record HasReaders (old new : Option Row) (keeps runs : Cell → Bool) : Type 0 where
  pub row : bare new ≡ bare old
  pub kept : (c : Cell) → is_among (kept_in new) c ≡ keeps c
  pub running : (c : Cell) → is_among (running_in new) c ≡ runs c

-- the readers of the running round are the kept ones
abbrev pub IsKept : Option Row → Option Row → Type 0
IsKept old new = HasReaders old new (is_among (running_in old)) (is_among (running_in old))

-- the readers of the running round are the kept ones again
abbrev pub IsRestored : Option Row → Option Row → Type 0
IsRestored old new = HasReaders old new (is_among (kept_in old)) (is_among (kept_in old))

-- a cell's reading in the running round is forgotten
abbrev pub IsForgotten : Cell → Option Row → Option Row → Type 0
IsForgotten cell old new = HasReaders old new (is_among (kept_in old)) (λ c. is_among (running_in old) c && not (same_cell c cell))

-- none of the first rows is one that is sought
abbrev pub HasPassed : List (ℕ × Option Row) → Passed → Type 0
HasPassed rows (Unread count) = list_any (λ (e : ℕ × Option Row). is_unread_place e.1) (take count rows) ≡ false
HasPassed rows (Since round count) = list_any (λ (e : ℕ × Option Row). is_since_place round e.1) (take count rows) ≡ false

-- readers in store have no cell
abbrev pub IsReady : Option Readings → Type 0
IsReady None = Unit {0}
IsReady (Some readers) = readers ≡ record { kept = []; running = [] }
