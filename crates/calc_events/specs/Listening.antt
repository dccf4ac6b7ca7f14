-- Events of recalculations, and the listeners that fetch them.
use Rattle.std.specs.Prelude.{ℕ, Bool, if◌then◌else◌, List, [], ◌∷◌, ◌++◌, map}
use Rattle.std.specs.List.{list_any}
use Rattle.std.specs.Str.{bytes_eq}
use Rattle.cell_values.specs.declared.events.Event.{Event}

-- a listener, with the events that it hasn't fetched yet, the oldest first
pub record Listener : Type 0 where
  pub name : List ℕ
  pub events : List Event

-- the listeners in the order in which they came, and how many more events can be fired
pub record Listening : Type 0 where
  pub listeners : List Listener
  pub room : ℕ

-- whether a listener of this name is there
abbrev pub has_listener : List Listener → List ℕ → Bool
has_listener listeners name = list_any (λ (listener : Listener). bytes_eq name listener.name) listeners

-- the events of a listener; none where it isn't there
abbrev pub events_of : List Listener → List ℕ → List Event
events_of [] name = []
events_of (listener ∷ others) name = if bytes_eq name listener.name then listener.events else events_of others name

-- listeners with one more event each
abbrev pub listeners_with : List Listener → Event → List Listener
listeners_with listeners event = map (λ (listener : Listener). record listener { events = listener.events ++ event ∷ [] }) listeners

-- listeners, where one of them has fetched its events
abbrev pub listeners_after_fetch : List Listener → List ℕ → List Listener
listeners_after_fetch listeners name =
    map (λ (listener : Listener). if bytes_eq name listener.name then record listener { events = [] } else listener) listeners
