-- The calculation chain over cells: cells in an order, each once, of which some are due.
use Rattle.std.specs.Prelude.{◌≡◌, ℕ, ◌+◌, nat_lt, Bool, not, Option, None, Some, List, [], ◌∷◌, insert}
use Rattle.std.specs.List.{filter, IsDistinct, position_or_len}
use Rattle.cell_refs.specs.declared.grid.Cell.{Cell}
use Rattle.cell_refs.specs.Cell.{is_among, same_cell}

-- a chain of cells
pub record CellOrder : Type 0 where
  -- the cells, in chain order
  pub entries : List Cell
  -- those of them that are due, in chain order
  pub due : List Cell

-- cells without one
abbrev pub without : List Cell → Cell → List Cell
without cells cell = filter (λ c. not (same_cell c cell)) cells

-- the entries that are among some cells, in chain order
abbrev pub entries_among : List Cell → List Cell → List Cell
entries_among entries cells = filter (is_among cells) entries

-- the place of a cell, from 0; past the end where it is no entry
abbrev pub place_of : List Cell → Cell → ℕ
place_of entries cell = position_or_len (λ c. same_cell c cell) entries

-- whether a cell stands behind another
abbrev pub is_behind : List Cell → Cell → Cell → Bool
is_behind entries x y = nat_lt (place_of entries y) (place_of entries x)

-- a cell taken out and put in again directly behind another
abbrev pub moved_behind : List Cell → Cell → Cell → List Cell
moved_behind entries x y = insert (without entries x) (place_of (without entries x) y + 1) x

-- the first of some cells
abbrev pub first_of : List Cell → Option Cell
first_of [] = None
first_of (c ∷ cells) = Some c

-- the cells behind the first
abbrev pub behind_first : List Cell → List Cell
behind_first [] = []
behind_first (c ∷ cells) = cells

-- each cell stands in the chain once, and what is due are entries, in chain order
pub record IsCellChain (chain : CellOrder) : Type 0 where
  pub once : IsDistinct same_cell chain.entries
  pub due : entries_among chain.entries chain.due ≡ chain.due
