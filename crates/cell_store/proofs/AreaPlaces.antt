-- What stands before the first cell of areas, and before the next one after a cell.
use Rattle.std.proofs.Common.{◌≡◌, Bool, true, false, Option, None, Some, List, refl}
use Rattle.cell_refs.specs.declared.areas.Area.{Area}
use Rattle.cell_refs.specs.declared.grid.Cell.{Cell}
use Rattle.cell_refs.specs.Area.{lies_in}
use Rattle.cell_store.specs.Gathering.{is_less}
use Rattle.cell_store.specs.Scanning.{IsFirst, IsNext, is_before}

-- a test doesn't both pass and fail
pub both_cannot : (b : Bool) → b ≡ true → b ≡ false → (c d : Bool) → c ≡ d
both_cannot b h k c d = cc

-- no cell of the areas stands before the first
pub first-before : (areas : List Area) (first : Option Cell) → IsFirst areas first → (q : Cell) → lies_in areas q ≡ true → is_before first q ≡ false
first-before areas None first q lies = both_cannot (lies_in areas q) lies (first q) true false
first-before areas (Some c) first q lies = first q lies

-- the cell itself stands before the next place
pub before-itself : (areas : List Area) (cell : Cell) (next : Option Cell) → IsNext areas cell next → is_before next cell ≡ true
before-itself areas cell None next = refl
before-itself areas cell (Some n) next = next.0

-- what lies in the areas behind the cell doesn't stand before the next place
pub before-later : (areas : List Area) (cell : Cell) (next : Option Cell) → IsNext areas cell next → (q : Cell) → lies_in areas q ≡ true → is_less cell q ≡ true → is_before next q ≡ false
before-later areas cell None next q lies less = both_cannot (is_less cell q) less (next q lies) true false
before-later areas cell (Some n) next q lies less = next.1 q lies less
