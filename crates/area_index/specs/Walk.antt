-- The walk to the pairs whose area has a cell.
use Rattle.std.specs.Prelude.{ℕ, ◌+◌, ◌&&◌, Bool, nat_lt, nat_le, if◌then◌else◌, List, [], ◌∷◌, ◌++◌, length, count_by, map, filter}
use Rattle.cell_refs.specs.declared.grid.Cell.{Cell}
use Rattle.cell_refs.specs.Area.{area_has}
use Rattle.area_index.specs.declared.pairs.Pair.{Pair}
use Rattle.area_index.specs.Shapes.{Shape, empty, fork, in_order}

-- the reader of a pair whose area has the cell
abbrev pub found_here : Pair → Cell → List Cell
found_here p cell = if area_has p.area cell then p.reader ∷ [] else []

-- the readers that the walk finds: it leaves out trees that end above the cell, and those right of a pair below it
abbrev pub found : Shape → Cell → List Cell
found empty cell = []
found (fork l p h b r) cell =
    if nat_lt b cell.row then []
    else ((found l cell ++ found_here p.pair cell)
    ++ (if nat_lt cell.row p.pair.area.top then [] else found r cell))

-- the nodes that the walk looks at
abbrev pub visits : Shape → ℕ → ℕ
visits empty row = 0
visits (fork l p h b r) row =
    if nat_lt b row then 1
    else (1 + visits l row + (if nat_lt row p.pair.area.top then 0 else visits r row))

-- whether the rows of the pair's area have the row
abbrev pub rows_have : ℕ → Pair → Bool
rows_have row p = nat_le p.area.top row && nat_le row p.area.bottom

-- the number of a tree's pairs
abbrev pub pairs_in : Shape → ℕ
pairs_in t = length (in_order t)

-- the number of those whose rows have the row
abbrev pub pairs_at : Shape → ℕ → ℕ
pairs_at t row = count_by (rows_have row) (in_order t)

-- the readers of the pairs whose area has the cell
abbrev pub readers_at : List Pair → Cell → List Cell
readers_at pairs cell = map (λ p. p.reader) (filter (λ p. area_has p.area cell) pairs)
