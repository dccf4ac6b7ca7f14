-- For the crate's own functions: all events in one list, and how many of them each listener has seen.
use Rattle.std.specs.Prelude.{ℕ, ◌≤◌, Bool, List, map, drop, length}
use Rattle.std.specs.List.{AllByRecursion}
use Rattle.std.specs.Str.{bytes_eq}
use Rattle.std.specs.String.{string_bytes}
use Rattle.std.specs.declared.string.String.{String}
use Rattle.cell_values.specs.declared.events.Event.{Event}
use Rattle.calc_events.specs.Listening.{Listener}

module _ {Z : Type 0} where
  -- the listener of an entry
  abbrev pub listener_of : List Event → String Z × ℕ → Listener
  listener_of fired entry = record { name = string_bytes entry.0; events = drop entry.1 fired }

  -- the listeners of these entries
  abbrev pub listeners_of : List Event → List (String Z × ℕ) → List Listener
  listeners_of fired entries = map (listener_of fired) entries

  -- no listener has seen more events than were fired
  abbrev pub AreSeen : List Event → List (String Z × ℕ) → Type 0
  AreSeen fired entries = AllByRecursion (λ entry. entry.1 ≤ length fired) entries

  -- whether a key has these bytes
  abbrev pub is_key : List ℕ → String Z → Bool
  is_key name key = bytes_eq name (string_bytes key)
