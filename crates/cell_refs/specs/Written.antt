-- Cells and references as they are written, and the reference that a text begins with.
use Rattle.std.specs.Prelude.{◌≡◌, ℕ, Bool, true, false, ◌==◌, if◌then◌else◌, List, [], ◌∷◌, ◌++◌, map, length, take, slice_index, Option, Some, None, option_map, codes, decimal, ◌+◌, ◌-◌, ◌/◌, ◌%◌, ◌≤◌}
use Rattle.std.specs.Char.{is_ascii_digit, to_ascii_uppercase}
use Rattle.cell_refs.specs.declared.grid.Cell.{Cell}
use Rattle.cell_refs.specs.declared.references.RefText.{RefText}
use Rattle.cell_refs.specs.RefText.{IsReference}
use Rattle.cell_refs.specs.Reading.{reference_in}

-- how often the last letter has gone round from A to Z before the column
abbrev pub rounds_before : ℕ → ℕ
rounds_before column = (column - 1) / 26

-- the last letter of a column; 0 has none
abbrev pub last_letter : ℕ → List ℕ
last_letter column = if column == 0 then [] else (65 + (column - 1) % 26) ∷ []

-- the letters of a column, at most three: 1 is A, 26 is Z, 27 is AA
unfoldable pub column_letters : ℕ → List ℕ
column_letters column =
    last_letter (rounds_before (rounds_before column))
    ++ (last_letter (rounds_before column) ++ last_letter column)

-- `$` before a part that is marked as absolute
abbrev pub mark : Bool → List ℕ
mark true = codes "$"
mark false = []

-- the sheet and a `!`, where a sheet is written
abbrev pub sheet_part : Option ℕ → List ℕ
sheet_part None = []
sheet_part (Some sheet) = codes "Sheet" ++ (decimal sheet ++ codes "!")

-- a reference as it is written
unfoldable pub reference_text : RefText → List ℕ
reference_text r =
    sheet_part r.sheet
    ++ (mark r.col_fixed ++ (column_letters r.col ++ (mark r.row_fixed ++ decimal r.row)))

-- a reference to a cell that marks nothing, and names no sheet where the cell is on the first
abbrev pub plain_reference : Cell → RefText
plain_reference cell = record {
  sheet = if cell.sheet == 1 then None else Some cell.sheet;
  row = cell.row;
  col = cell.col;
  row_fixed = false;
  col_fixed = false;
}

-- a cell as it is written
unfoldable pub cell_text : Cell → List ℕ
cell_text cell = reference_text (plain_reference cell)

-- a text with its letters in upper case
abbrev pub capitals : List ℕ → List ℕ
capitals text = map to_ascii_uppercase text

-- the reference is the first n bytes of the text, its letters in any case, and no digit follows
pub record StandsAt (text : List ℕ) (r : RefText) (n : ℕ) : Type 0 where
  pub inside : IsReference r
  pub within : n ≤ length text
  pub spelled : capitals (take n text) ≡ capitals (reference_text r)
  pub ends : is_ascii_digit (slice_index text n) ≡ false

-- the reference at the front of a text, and its length
unfoldable pub reference_at : List ℕ → Option (RefText × ℕ)
reference_at text =
    option_map (λ found. (found.0, length text - length found.1)) (reference_in (capitals text))
