-- The calculation chain: numbers in an order, each once, of which some are due.
use Rattle.std.specs.Prelude.{◌≡◌, ℕ, ◌+◌, ◌==◌, nat_eq, nat_lt, Bool, not, Option, None, Some, List, [], ◌∷◌, insert}
use Rattle.std.specs.List.{filter, IsDistinct, list_any, position_or_len}

-- a chain
pub record Order : Type 0 where
  -- the entries, in chain order
  pub entries : List ℕ
  -- those of them that are due, in chain order
  pub due : List ℕ

-- whether a number is among those
abbrev pub has : List ℕ → ℕ → Bool
has numbers x = list_any (nat_eq x) numbers

-- numbers without one
abbrev pub without : List ℕ → ℕ → List ℕ
without numbers x = filter (λ y. not (y == x)) numbers

-- the entries that are among some numbers, in chain order
abbrev pub entries_among : List ℕ → List ℕ → List ℕ
entries_among entries numbers = filter (has numbers) entries

-- the place of an entry, from 0; past the end where it is none
abbrev pub place_of : List ℕ → ℕ → ℕ
place_of entries x = position_or_len (λ y. y == x) entries

-- whether an entry stands behind another
abbrev pub is_behind : List ℕ → ℕ → ℕ → Bool
is_behind entries x y = nat_lt (place_of entries y) (place_of entries x)

-- an entry taken out and put in again directly behind another
abbrev pub moved_behind : List ℕ → ℕ → ℕ → List ℕ
moved_behind entries x y = insert (without entries x) (place_of (without entries x) y + 1) x

-- the first of some numbers
abbrev pub first_of : List ℕ → Option ℕ
first_of [] = None
first_of (x ∷ xs) = Some x

-- the numbers behind the first
abbrev pub behind_first : List ℕ → List ℕ
behind_first [] = []
behind_first (x ∷ xs) = xs

-- each entry stands in the chain once, and what is due are entries, in chain order
pub record IsChain (chain : Order) : Type 0 where
  pub once : IsDistinct nat_eq chain.entries
  pub due : entries_among chain.entries chain.due ≡ chain.due
