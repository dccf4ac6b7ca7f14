-- Marks that are closed under the readers of a dependency table.
use Rattle.std.specs.Prelude.{◌≡◌, ◌⊎◌, ◌↔◌, true, false, if◌then◌else◌, List, [], ◌∷◌}
use Rattle.std.specs.Map.{lookup}
use Rattle.cell_refs.specs.declared.areas.Area.{Area}
use Rattle.cell_refs.specs.declared.grid.Cell.{Cell}
use Rattle.cell_refs.specs.Area.{lies_in}
use Rattle.cell_refs.specs.Cell.{is_among, same_cell}
use Rattle.cell_refs.specs.Reaching.{Reaches}
use Rattle.dep_table.specs.Table.{areas_at, is_reader, precedents_at}

-- each reader of a marked cell is marked
abbrev pub IsClosed : List (Cell × List Area) → List Cell → Type 0
IsClosed table marks = (cell reader : Cell) → is_among marks cell ≡ true
    → lies_in (areas_at table reader) cell ≡ true → is_among marks reader ≡ true

-- each reader of a marked cell is marked, or is this one, whose areas are new, say
abbrev pub IsClosedBut : Cell → List (Cell × List Area) → List Cell → Type 0
IsClosedBut other table marks = (cell reader : Cell) → is_among marks cell ≡ true
    → lies_in (areas_at table reader) cell ≡ true → (reader ≡ other) ⊎ (is_among marks reader ≡ true)

-- a reader from which the origin is reached
pub record IsDependent (table : List (Cell × List Area)) (origin cell : Cell) : Type 0 where
  pub reader : is_reader table cell ≡ true
  pub reaches : Reaches (precedents_at table) (origin ∷ []) cell

-- what was marked stays marked
abbrev pub KeepsMarks : List Cell → List Cell → Type 0
KeepsMarks old new = (cell : Cell) → is_among old cell ≡ true → is_among new cell ≡ true

-- this cell isn't marked, and every other is as before
abbrev pub LosesMark : List Cell → List Cell → Cell → Type 0
LosesMark old new cell = (q : Cell) → is_among new q ≡ (if same_cell cell q then false else is_among old q)

-- marks that are closed, in which a reader stands exactly where a changed cell is reached from it
pub record AreMarked (table : List (Cell × List Area)) (marks changed : List Cell) : Type 0 where
  pub closed : IsClosed table marks
  pub marked : (cell : Cell) → is_reader table cell ≡ true
      → (is_among marks cell ≡ true) ↔ Reaches (precedents_at table) changed cell

-- the tables are alike but at this cell
abbrev pub ChangesOnly : List (Cell × List Area) → List (Cell × List Area) → Cell → Type 0
ChangesOnly before now cell = (q : Cell) → same_cell q cell ≡ false
    → lookup (same_cell q) before ≡ lookup (same_cell q) now
