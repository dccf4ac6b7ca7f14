-- The connected ids of a server.
use Rattle.std.specs.Prelude.{◌≡◌, ℕ, Bool, List, [], Option, Some, nat_eq}
use Rattle.std.specs.List.{list_any}
use Rattle.std.specs.Map.{lookup}
use Rattle.std.specs.Option.{option_eq, option_map_or}
use Rattle.rtd_server.specs.Strings.{Strings, same_strings}

-- the strings of each connected id, the ids connected with strings, and the ids that are due
pub record LinksState : Type 0 where
  pub links : List (ℕ × Strings)
  pub watchers : List (Strings × List ℕ)
  pub due : List ℕ

-- the strings of an id
abbrev pub connected_at : LinksState → ℕ → Option Strings
connected_at links id = lookup (nat_eq id) links.links

-- the ids noted for strings
abbrev pub watchers_at : List (Strings × List ℕ) → Strings → List ℕ
watchers_at watchers s = option_map_or (λ ids. ids) (lookup (same_strings s) watchers) []

-- whether an id is connected with strings
abbrev pub has_strings : List (ℕ × Strings) → ℕ → Strings → Bool
has_strings links id s = option_eq same_strings (lookup (nat_eq id) links) (Some s)

-- the ids noted for strings are those connected with them
abbrev pub AreWatched : List (ℕ × Strings) → List (Strings × List ℕ) → Type 0
AreWatched links watchers = (s : Strings) (id : ℕ) → list_any (nat_eq id) (watchers_at watchers s) ≡ has_strings links id s

-- whether an id is due
abbrev pub is_due_at : LinksState → ℕ → Bool
is_due_at links id = list_any (nat_eq id) links.due
