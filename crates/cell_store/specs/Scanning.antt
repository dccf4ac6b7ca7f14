-- For the crate's own functions: which cell of areas is next.
use Rattle.std.specs.Prelude.{◌≡◌, Bool, true, false, if◌then◌else◌, Option, None, Some, List}
use Rattle.cell_refs.specs.declared.areas.Area.{Area}
use Rattle.cell_refs.specs.declared.grid.Cell.{Cell}
use Rattle.cell_refs.specs.Area.{lies_in}
use Rattle.cell_store.specs.Gathering.{is_less}

-- no cell of the areas stands before this one; where it is None, none stands anywhere
abbrev pub IsFirst : List Area → Option Cell → Type 0
IsFirst areas None = (q : Cell) → lies_in areas q ≡ false
IsFirst areas (Some first) = (q : Cell) → lies_in areas q ≡ true → is_less q first ≡ false

-- the next cell stands behind the cell, with none of the areas between the two; None: none stands behind the cell
abbrev pub IsNext : List Area → Cell → Option Cell → Type 0
IsNext areas cell None = (q : Cell) → lies_in areas q ≡ true → is_less cell q ≡ false
IsNext areas cell (Some next) =
    (is_less cell next ≡ true)
    × ((q : Cell) → lies_in areas q ≡ true → is_less cell q ≡ true → is_less q next ≡ false)

-- the next cell behind a cell, or the first of all where none is given
abbrev pub IsFirstBehind : List Area → Option Cell → Option Cell → Type 0
IsFirstBehind areas None first = IsFirst areas first
IsFirstBehind areas (Some cell) first = IsNext areas cell first

-- the first cell of an area
abbrev pub corner : Area → Cell
corner area = record { sheet = area.sheet; row = area.top; col = area.left }

-- the lesser of two cells, where there are two
abbrev pub lesser : Option Cell → Cell → Cell
lesser None b = b
lesser (Some a) b = if is_less a b then a else b

-- whether a cell stands before this one; before None, which is the end, each cell does
abbrev pub is_before : Option Cell → Cell → Bool
is_before None q = true
is_before (Some end) q = is_less q end
