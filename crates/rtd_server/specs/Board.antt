-- The values that were published for strings.
use Rattle.std.specs.Prelude.{◌≡◌, ◌<◌, ℕ, Bool, ◌||◌, List, Option, Some, is_some, unwrap_or, if◌then◌else◌}
use Rattle.std.specs.Map.{lookup}
use Rattle.cell_values.specs.declared.values.Value.{Value}
use Rattle.rtd_server.specs.Strings.{Strings, same_strings}

-- what is published, what was before of the strings that were published since the opening, and the room of both
pub record BoardState : Type 0 where
  pub values : List (Strings × Value)
  pub before : List (Strings × Option Value)
  pub values_room : ℕ
  pub before_room : ℕ

-- there is room to publish for new strings
abbrev pub HasRoom : BoardState → Type 0
HasRoom board = (0 < board.values_room) × (0 < board.before_room)

-- what is published for strings
abbrev pub published_at : BoardState → Strings → Option Value
published_at board s = lookup (same_strings s) board.values

-- what was published for strings at the opening
abbrev pub opening_at : BoardState → Strings → Option Value
opening_at board s = unwrap_or (lookup (same_strings s) board.before) (published_at board s)

-- whether something was published for strings since the opening
abbrev pub is_fresh_at : BoardState → Strings → Bool
is_fresh_at board s = is_some (lookup (same_strings s) board.before)
