-- For the crate's own functions: walks over the entries that lie in areas.
use Rattle.std.specs.Prelude.{◌≡◌, ℕ, ◌+◌, ◌<◌, ◌&&◌, Option, None, Some, is_none, List, [], ◌∷◌, ◌++◌, length, map}
use Rattle.std.specs.List.{filter}
use Rattle.std.specs.Ordering.{is_le}
use Rattle.cell_refs.specs.declared.areas.Area.{Area}
use Rattle.cell_refs.specs.declared.grid.Cell.{Cell}
use Rattle.cell_refs.specs.Area.{lies_in}
use Rattle.cell_refs.specs.Cell.{cell_cmp}
use Rattle.cell_values.specs.declared.values.Value.{Value}
use Rattle.cell_store.specs.declared.gathering.Step.{Step}
use Rattle.cell_store.specs.declared.gathering.Step.TheVariants as steps
use Rattle.cell_store.specs.declared.unknowns.Walk.{Walk}
use Rattle.cell_store.specs.declared.unknowns.Walk.TheVariants as walks
use Rattle.cell_store.specs.Gathering.{HasUnknown}
use Rattle.cell_store.specs.Store.{entry_at}

-- the entries from a cell on; none from the end on, which is None
abbrev pub entries_from : Option Cell → List (Cell × Option Value) → List (Cell × Option Value)
entries_from None entries = []
entries_from (Some cell) entries = filter (λ e. is_le (cell_cmp cell e.0)) entries

-- the entries that lie in areas
abbrev pub entries_inside : List Area → List (Cell × Option Value) → List (Cell × Option Value)
entries_inside areas entries = filter (λ e. lies_in areas e.0) entries

-- of those the ones without a value
abbrev pub unknowns_inside : List Area → List (Cell × Option Value) → List (Cell × Option Value)
unknowns_inside areas entries = filter (λ e. lies_in areas e.0 && is_none e.1) entries

-- entries that have values, as entries that may have some
abbrev pub with_values : List (Cell × Value) → List (Cell × Option Value)
with_values entries = map {B = Cell × Option Value} (λ e. (e.0, Some e.1)) entries

-- how many steps are ahead at most: one for each entry from the place on, and one for the end
abbrev pub steps_ahead : List (Cell × Option Value) → Option Cell → ℕ
steps_ahead entries None = 0
steps_ahead entries (Some from) = 1 + length (entries_from (Some from) entries)

-- what was gathered and the entries ahead that lie in the areas are the same all the way
abbrev pub KeepsAll : List (Cell × Option Value) → List Area → List (Cell × Value)
    → List (Cell × Value) → Option Cell → Option Cell → Type 0
KeepsAll entries areas old new from next =
    with_values new ++ entries_inside areas (entries_from next entries)
    ≡ with_values old ++ entries_inside areas (entries_from from entries)

-- a step gathered what lies before the next place, with fewer steps ahead; or it met a cell without a value
abbrev pub IsGatherStep : List (Cell × Option Value) → List Area → List (Cell × Value)
    → List (Cell × Value) → Cell → Step → Type 0
IsGatherStep entries areas old new seek (steps.On next) =
    KeepsAll entries areas old new (Some seek) next
    × (steps_ahead entries next < steps_ahead entries (Some seek))
IsGatherStep entries areas old new seek steps.Unknown = HasUnknown (entry_at entries) areas

-- a walk met no cell without a value before the next place, with fewer steps ahead; or it found the first one
abbrev pub IsWalk : List (Cell × Option Value) → List Area → Cell → Walk → Type 0
IsWalk entries areas seek (walks.Past next) =
    (unknowns_inside areas (entries_from next entries)
    ≡ unknowns_inside areas (entries_from (Some seek) entries))
    × (steps_ahead entries next < steps_ahead entries (Some seek))
IsWalk entries areas seek (walks.Found cell) =
    (rest : List (Cell × Option Value))
    × (unknowns_inside areas (entries_from (Some seek) entries) ≡ (cell, None) ∷ rest)
