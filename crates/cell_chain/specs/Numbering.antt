-- For the crate's own functions: cells that have a number each, and a chain of such numbers.
use Rattle.std.specs.Prelude.{◌≡◌, ℕ, ◌<◌, true, Bool, List, map, Option, None, Some, is_some, unwrap_or, slice_index_or}
use Rattle.std.specs.BTreeMap.{BTreeMap, IsOrdered, get}
use Rattle.cell_refs.specs.declared.grid.Cell.{Cell}
use Rattle.cell_refs.specs.Cell.{cell_cmp}
use Rattle.calc_chain.specs.Chain.{IsChain, Order, has}
use Rattle.cell_chain.specs.CellOrder.{CellOrder}

-- the cell that has a number, if one has
abbrev pub cell_of : List (Option Cell) → ℕ → Option Cell
cell_of slots number = slice_index_or slots number None

-- the cell that has a number; outside the grid where none has
abbrev pub cell_at : List (Option Cell) → ℕ → Cell
cell_at slots number = unwrap_or (cell_of slots number) (record { sheet = 0; row = 0; col = 0 })

-- whether a number is in use
abbrev pub is_used : List (Option Cell) → ℕ → Bool
is_used slots number = is_some (cell_of slots number)

-- no cell has two numbers
abbrev pub IsOneToOne : List (Option Cell) → Type 0
IsOneToOne slots = (x y : ℕ) (cell : Cell) → cell_of slots x ≡ Some cell
    → cell_of slots y ≡ Some cell → x ≡ y

-- the numbers of the cells and the cells of the numbers say the same
pub record AreInverse (numbers : BTreeMap Cell ℕ) (slots : List (Option Cell)) : Type 0 where
  pub ordered : IsOrdered cell_cmp numbers
  pub cell : (cell : Cell) (number : ℕ) → get cell_cmp numbers cell ≡ Some number
      → cell_of slots number ≡ Some cell
  pub number : (cell : Cell) (number : ℕ) → cell_of slots number ≡ Some cell
      → get cell_cmp numbers cell ≡ Some number

-- the chain of the cells that have these numbers
abbrev pub cells_in : List (Option Cell) → Order → CellOrder
cells_in slots chain = record {
  entries = map (cell_at slots) chain.entries;
  due = map (cell_at slots) chain.due;
}

-- the entries of a chain are the numbers in use, one for each cell, and each is below this
pub record IsNumbered (slots : List (Option Cell)) (chain : Order) (bound : ℕ) : Type 0 where
  pub order : IsChain chain
  pub once : IsOneToOne slots
  pub used : (number : ℕ) → has chain.entries number ≡ is_used slots number
  pub below : (number : ℕ) → has chain.entries number ≡ true → number < bound
