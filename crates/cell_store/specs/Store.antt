-- A store of values: what is present of each cell, and what the sheet shows of it.
use Rattle.std.specs.Prelude.{◌≡◌, Bool, ◌||◌, Option, is_some, unwrap_or, if◌then◌else◌, List}
use Rattle.std.specs.List.Sorted.{IsStrictlySortedBy}
use Rattle.std.specs.Map.{keys_of, lookup}
use Rattle.cell_refs.specs.declared.grid.Cell.{Cell}
use Rattle.cell_refs.specs.Cell.{cell_cmp, same_cell}
use Rattle.cell_values.specs.declared.values.Value.{Value}

-- what is present of the cells, and what was shown of those touched since the last completion, both in cell order
pub record StoreState : Type 0 where
  pub present : List (Cell × Option Value)
  pub before : List (Cell × Option (Option Value))

-- what is present at a cell: nothing, no value yet, or a value
abbrev pub present_at : StoreState → Cell → Option (Option Value)
present_at store cell = lookup (same_cell cell) store.present

-- what the sheet shows of a cell: of a touched one what was present at the last completion, else what is present
abbrev pub shown_at : StoreState → Cell → Option (Option Value)
shown_at store cell = unwrap_or (lookup (same_cell cell) store.before) (present_at store cell)

-- whether a cell was touched since the last completion
abbrev pub is_touched : StoreState → Cell → Bool
is_touched store cell = is_some (lookup (same_cell cell) store.before)

-- new has this present at the cell, and elsewhere what old has
abbrev pub PutsPresent : StoreState → StoreState → Cell → Option (Option Value) → Type 0
PutsPresent old new cell value =
    (q : Cell) → present_at new q ≡ (if same_cell cell q then value else present_at old q)

-- new has present what old has
abbrev pub KeepsPresent : StoreState → StoreState → Type 0
KeepsPresent old new = (q : Cell) → present_at new q ≡ present_at old q

-- new shows what old shows
abbrev pub KeepsShown : StoreState → StoreState → Type 0
KeepsShown old new = (q : Cell) → shown_at new q ≡ shown_at old q

-- new has the cell touched, and of the others those that old has
abbrev pub GainsTouched : StoreState → StoreState → Cell → Type 0
GainsTouched old new cell =
    (q : Cell) → is_touched new q ≡ (same_cell cell q || is_touched old q)

-- new has the cells touched that old has
abbrev pub KeepsTouched : StoreState → StoreState → Type 0
KeepsTouched old new = (q : Cell) → is_touched new q ≡ is_touched old q

-- the cells of entries ascend, so each stands there once
abbrev pub AreInOrder : {X : Type 0} → List (Cell × X) → Type 0
AreInOrder entries = IsStrictlySortedBy cell_cmp (keys_of entries)

-- the value of a cell among entries
abbrev pub entry_at : {X : Type 0} → List (Cell × X) → Cell → Option X
entry_at entries cell = lookup (same_cell cell) entries
