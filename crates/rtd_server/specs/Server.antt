-- What a server of real-time data holds, and how its calls change it.
use Rattle.std.specs.Prelude.{◌≡◌, ℕ, Bool, true, false, ◌||◌, List, [], Option, Some, None, if◌then◌else◌, nat_eq, map, unwrap_or}
use Rattle.std.specs.List.{list_any, IsDistinct}
use Rattle.std.specs.List.Sorted.{IsPermutation, IsSorted}
use Rattle.std.specs.Option.{option_eq, option_and_then}
use Rattle.std.specs.Ordering.{nat_cmp}
use Rattle.cell_values.specs.declared.values.Value.{Value}
use Rattle.cell_values.specs.declared.values.Value.TheVariants.{Error}
use Rattle.cell_values.specs.declared.errors.ErrorKind.TheVariants.{Na}
use Rattle.rtd_server.specs.Strings.{Strings, same_strings}

-- what a server holds: what is published for strings, what was at the round's opening, whether they were published
-- since then, the strings of each connected id, and the ids that the next refresh gives
pub record ServerState : Type 0 where
  pub published : Strings → Option Value
  pub opening : Strings → Option Value
  pub is_fresh : Strings → Bool
  pub connected : ℕ → Option Strings
  pub due : List ℕ

-- whether the next refresh gives this id
abbrev pub is_due : ServerState → ℕ → Bool
is_due server id = list_any (nat_eq id) server.due

-- whether an id is connected with these strings
abbrev pub is_connected_with : ServerState → ℕ → Strings → Bool
is_connected_with server id strings = option_eq same_strings (server.connected id) (Some strings)

-- what a topic shows: what is published, or #N/A
abbrev pub value_or_na : Option Value → Value
value_or_na found = unwrap_or found (Error Na)

-- what the next refresh gives for an id: what is published for its strings
abbrev pub news_of : ServerState → ℕ → Value
news_of server id = value_or_na (option_and_then server.published (server.connected id))

-- nothing is published, and nothing is connected
abbrev pub IsNewServer : ServerState → Type 0
IsNewServer server =
    ((s : Strings) → server.published s ≡ None) × ((s : Strings) → server.opening s ≡ None) × ((s : Strings) → server.is_fresh s ≡ false)
    × ((id : ℕ) → server.connected id ≡ None) × (server.due ≡ [])

-- new has published what old has, and at the opening and since then too
abbrev pub KeepsPublished : ServerState → ServerState → Type 0
KeepsPublished old new =
    ((s : Strings) → new.published s ≡ old.published s) × ((s : Strings) → new.opening s ≡ old.opening s) × ((s : Strings) → new.is_fresh s ≡ old.is_fresh s)

-- new has the ids connected that old has, with their strings
abbrev pub KeepsConnected : ServerState → ServerState → Type 0
KeepsConnected old new = (id : ℕ) → new.connected id ≡ old.connected id

-- new has the ids due that old has
abbrev pub KeepsDue : ServerState → ServerState → Type 0
KeepsDue old new = (id : ℕ) → is_due new id ≡ is_due old id

-- new holds what old holds
abbrev pub KeepsAll : ServerState → ServerState → Type 0
KeepsAll old new = KeepsPublished old new × KeepsConnected old new × KeepsDue old new

-- new has the id connected with these strings, or not at all where there are none, and the others as old has them
abbrev pub PutsConnected : ServerState → ServerState → ℕ → Option Strings → Type 0
PutsConnected old new id strings = (q : ℕ) → new.connected q ≡ (if nat_eq id q then strings else old.connected q)

-- new has the id due as said, and the others as old has them
abbrev pub PutsDue : ServerState → ServerState → ℕ → Bool → Type 0
PutsDue old new id due = (q : ℕ) → is_due new q ≡ (if nat_eq id q then due else is_due old q)

-- new has due what old has, and the ids that are connected with these strings
abbrev pub GainsDue : ServerState → ServerState → Strings → Type 0
GainsDue old new strings = (q : ℕ) → is_due new q ≡ (is_connected_with old q strings || is_due old q)

-- new has this value published for the strings, which are fresh, and the rest as old has it
abbrev pub Publishes : ServerState → ServerState → Strings → Value → Type 0
Publishes old new strings value =
    ((s : Strings) → new.published s ≡ (if same_strings strings s then Some value else old.published s))
    × ((s : Strings) → new.opening s ≡ old.opening s)
    × ((s : Strings) → new.is_fresh s ≡ (same_strings strings s || old.is_fresh s))

-- new was opened: what old has published is what was at the opening, and nothing is fresh
abbrev pub Opens : ServerState → ServerState → Type 0
Opens old new =
    ((s : Strings) → new.published s ≡ old.published s) × ((s : Strings) → new.opening s ≡ old.published s) × ((s : Strings) → new.is_fresh s ≡ false)

-- these are the due ids, each once and rising, with what is published for them
abbrev pub AreNews : ServerState → List (ℕ × Value) → Type 0
AreNews server pairs =
    (ids : List ℕ) × IsPermutation server.due ids × IsDistinct nat_eq server.due × IsSorted nat_cmp ids × (pairs ≡ map (λ id. (id, news_of server id)) ids)
