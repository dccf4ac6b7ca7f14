-- The news that a server gave.
use Rattle.std.specs.Prelude.{ℕ, Option, List, ◌++◌, nat_eq}
use Rattle.std.specs.Map.{lookup}
use Rattle.cell_values.specs.declared.values.Value.{Value}

-- what came with the last refresh and isn't sorted in yet, and the news that are, by id
pub record NewsState : Type 0 where
  pub given : List (ℕ × Value)
  pub sorted : List (ℕ × Value)

-- the news of an id: those that came last count
abbrev pub news_at : NewsState → ℕ → Option Value
news_at news id = lookup (nat_eq id) (news.given ++ news.sorted)
