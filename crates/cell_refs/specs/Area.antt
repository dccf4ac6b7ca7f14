-- Areas: the cells between two corners.
use Rattle.std.specs.Prelude.{◌≡◌, ◌==◌, ◌&&◌, nat_le, Bool, ℕ, ◌+◌, ◌-◌, ◌*◌, ◌≤◌, List, map, flat_map, min, max, unwrap_or}
use Rattle.std.specs.List.{list_any, range_with_len}
use Rattle.cell_refs.specs.declared.areas.Area.{Area}
use Rattle.cell_refs.specs.declared.grid.Cell.{Cell}
use Rattle.cell_refs.specs.declared.references.RefText.{RefText}
use Rattle.cell_refs.specs.Cell.{IsCell}

-- an area of the grid: its corners lie in the grid, the first above and left of the second or level with it
pub record IsArea (area : Area) : Type 0 where
  pub first : IsCell (record { sheet = area.sheet; row = area.top; col = area.left })
  pub last : IsCell (record { sheet = area.sheet; row = area.bottom; col = area.right })
  pub rows : area.top ≤ area.bottom
  pub columns : area.left ≤ area.right

-- the cell lies between the corners
pub record IsInside (area : Area) (cell : Cell) : Type 0 where
  pub sheet : cell.sheet ≡ area.sheet
  pub below : area.top ≤ cell.row
  pub above : cell.row ≤ area.bottom
  pub after : area.left ≤ cell.col
  pub before : cell.col ≤ area.right

-- the same as a test
abbrev pub area_has : Area → Cell → Bool
area_has area cell =
    (cell.sheet == area.sheet)
    && (nat_le area.top cell.row
    && (nat_le cell.row area.bottom
    && (nat_le area.left cell.col && nat_le cell.col area.right)))

-- whether a cell lies in one of the areas
abbrev pub lies_in : List Area → Cell → Bool
lies_in areas cell = list_any (λ area. area_has area cell) areas

-- the number of an area's cells
abbrev pub size_of : Area → ℕ
size_of area = (area.bottom + 1 - area.top) * (area.right + 1 - area.left)

-- the area between two references, whichever corners they are; the second one's sheet isn't used
abbrev pub area_of : RefText → RefText → ℕ → Area
area_of a b home = record {
  sheet = unwrap_or a.sheet home;
  top = min a.row b.row;
  left = min a.col b.col;
  bottom = max a.row b.row;
  right = max a.col b.col;
}

-- the numbers from low to high
abbrev pub numbers_between : ℕ → ℕ → List ℕ
numbers_between low high = range_with_len low (high + 1 - low)

-- the cells of a row, from one column to another
abbrev pub row_cells : ℕ → ℕ → ℕ → ℕ → List Cell
row_cells sheet left right row =
    map (λ col. record { sheet = sheet; row = row; col = col }) (numbers_between left right)

-- the cells of an area, by rows and then by columns
unfoldable pub cells_of : Area → List Cell
cells_of area =
    flat_map (row_cells area.sheet area.left area.right) (numbers_between area.top area.bottom)
