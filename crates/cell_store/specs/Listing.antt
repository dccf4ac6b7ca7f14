-- For the crate's own functions: what the sheet shows, as a list.
use Rattle.std.specs.Prelude.{◌≡◌, true, ◌&&◌, Option, None, Some, List, [], ◌∷◌, ◌++◌, ⊤}
use Rattle.std.specs.List.{filter}
use Rattle.std.specs.declared.ops.Bound.{Bound}
use Rattle.std.specs.declared.ops.Bound.TheVariants.{Excluded, Unbounded}
use Rattle.cell_refs.specs.declared.grid.Cell.{Cell}
use Rattle.cell_values.specs.declared.values.Value.{Value}
use Rattle.cell_store.specs.Gathering.{is_behind}
use Rattle.cell_store.specs.Scanning.{is_before}

-- the bound at which a cell stands outside; without one, none
abbrev pub bound_of : Option Cell → Bound Cell
bound_of None = Unbounded
bound_of (Some cell) = Excluded cell

-- the second cell stands behind the first, where there are two
abbrev pub IsAhead : Option Cell → Option Cell → Type 0
IsAhead after None = ⊤
IsAhead after (Some end) = is_behind after end ≡ true

-- the entries behind one cell and before another
abbrev pub entries_between : Option Cell → Option Cell → List (Cell × Option Value)
    → List (Cell × Option Value)
entries_between after end entries = filter (λ e. is_behind after e.0 && is_before end e.0) entries

-- the entry of a cell that shows this; none where it shows nothing
abbrev pub shown_entry : Cell → Option (Option Value) → List (Cell × Option Value)
shown_entry cell None = []
shown_entry cell (Some value) = (cell, value) ∷ []

-- what the sheet shows behind a cell: of the touched cells what was shown before, between them what is present
abbrev pub sheet_from : List (Cell × Option Value) → Option Cell
    → List (Cell × Option (Option Value)) → List (Cell × Option Value)
sheet_from present last [] = entries_between last None present
sheet_from present last (e ∷ es) =
    entries_between last (Some e.0) present
    ++ (shown_entry e.0 e.1 ++ sheet_from present (Some e.0) es)
