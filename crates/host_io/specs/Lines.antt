-- The cut of bytes into lines. A line ends with LF (10) or with CR LF (13, 10), which is no part of it.
use Rattle.std.specs.Prelude.{◌≡◌, ◌≢◌, ℕ, Bool, false, ◌&&◌, ◌==◌, ◌+◌, ◌<◌, if◌then◌else◌, List, [], ◌∷◌, length, take, drop}
use Rattle.std.specs.List.{list_any, onto_first}

-- LF is the first byte
abbrev pub begins_with_feed : List ℕ → Bool
begins_with_feed [] = false
begins_with_feed (b ∷ bs) = b == 10

-- whether a byte is LF, so that a whole line stands there
abbrev pub has_feed : List ℕ → Bool
has_feed bytes = list_any (λ byte. byte == 10) bytes

-- the byte is a CR that ends a line together with the LF behind it
abbrev pub is_paired_return : ℕ → List ℕ → Bool
is_paired_return b bs = (b == 13) && begins_with_feed bs

-- the byte before the first line, where there is one
abbrev pub onto_whole : ℕ → List (List ℕ) → List (List ℕ)
onto_whole b [] = []
onto_whole b (line ∷ lines) = (b ∷ line) ∷ lines

-- the lines of a text; a last line without LF counts where it has a byte
abbrev pub lines_of : List ℕ → List (List ℕ)
lines_of [] = []
lines_of (b ∷ bs) =
    if b == 10
    then [] ∷ lines_of bs
    else (if is_paired_return b bs then lines_of bs else onto_first b (lines_of bs))

-- the lines of a text that end with LF; what stands behind the last LF is left out
abbrev pub whole_lines : List ℕ → List (List ℕ)
whole_lines [] = []
whole_lines (b ∷ bs) =
    if b == 10
    then [] ∷ whole_lines bs
    else (if is_paired_return b bs then whole_lines bs else onto_whole b (whole_lines bs))

-- no byte is LF
abbrev pub LacksFeed : List ℕ → Type 0
LacksFeed [] = Unit {0}
LacksFeed (b ∷ bs) = (b ≢ 10) × LacksFeed bs

-- the text is empty or ends with LF
abbrev pub IsWhole : List ℕ → Type 0
IsWhole [] = Unit {0}
IsWhole (b ∷ []) = b ≡ 10
IsWhole (b ∷ c ∷ bs) = IsWhole (c ∷ bs)

-- the text without the CR at its end, if it has one
abbrev pub without_return : List ℕ → List ℕ
without_return [] = []
without_return (b ∷ []) = if b == 13 then [] else b ∷ []
without_return (b ∷ c ∷ bs) = b ∷ without_return (c ∷ bs)

-- the first LF stands at this place
pub record IsFirstFeed (bytes : List ℕ) (place : ℕ) : Type 0 where
  pub within : place < length bytes
  pub before : LacksFeed (take place bytes)
  pub here : drop place bytes ≡ 10 ∷ drop (place + 1) bytes
