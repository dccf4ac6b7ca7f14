-- For the crate's own functions: what a text in upper case begins with. Each definition gives what it finds and
-- the text after it.
use Rattle.std.specs.Prelude.{ℕ, Bool, true, false, ◌&&◌, nat_lt, nat_le, ◌==◌, if◌then◌else◌, List, [], ◌∷◌, length, take_while, drop, slice_index, Option, Some, None, codes, fold, ◌+◌, ◌-◌, ◌*◌}
use Rattle.std.specs.Char.{is_ascii_digit, is_ascii_uppercase}
use Rattle.std.specs.Option.{option_map_or}
use Rattle.std.specs.Str.Parse.{digits_value}
use Rattle.cell_refs.specs.declared.grid.TheConstants.{SHEETS, ROWS, COLUMNS}
use Rattle.cell_refs.specs.declared.references.RefText.{RefText}

infixl 10 ◌>>=◌
abbrev pub ◌>>=◌ : {A B : Type 0} → Option A → (A → Option B) → Option B
None >>= f = None
(Some x) >>= f = f x

-- a number from 1 to the limit: digits to their end, the first of them not 0
unfoldable pub number_at : ℕ → List ℕ → Option (ℕ × List ℕ)
number_at limit text =
    let digits = take_while is_ascii_digit text in
    let number = digits_value 10 digits in
    if nat_lt 48 (slice_index digits 0) && nat_le number limit
    then Some (number, drop (length digits) text) else None

-- a `$`, or nothing
unfoldable pub mark_at : List ℕ → Bool × List ℕ
mark_at [] = (false, [])
mark_at (c ∷ cs) = if c == 36 then (true, cs) else (false, c ∷ cs)

-- the column that letters name: A is 1, Z is 26, AA is 27
unfoldable pub column_number : List ℕ → ℕ
column_number letters = fold (λ n letter. 26 * n + (letter - 64)) 0 letters

-- a column inside the grid: one to three letters, to their end
unfoldable pub column_at : List ℕ → Option (ℕ × List ℕ)
column_at text =
    let letters = take_while is_ascii_uppercase text in
    let column = column_number letters in
    if nat_lt 0 (length letters) && nat_le (length letters) 3 && nat_le column COLUMNS
    then Some (column, drop (length letters) text) else None

-- what follows the word
abbrev pub rest_after : List ℕ → List ℕ → Option (List ℕ)
rest_after [] text = Some text
rest_after (w ∷ ws) [] = None
rest_after (w ∷ ws) (c ∷ cs) = if c == w then rest_after ws cs else None

-- the number of a sheet, and a `!`
unfoldable pub sheet_number_at : List ℕ → Option (Option ℕ × List ℕ)
sheet_number_at text = do
  number ← number_at SHEETS text
  rest ← rest_after (codes "!") number.1
  Some (Some number.0, rest)

-- a sheet with its `!`, or nothing
unfoldable pub sheet_at : List ℕ → Option (Option ℕ × List ℕ)
sheet_at text =
    option_map_or sheet_number_at (rest_after (codes "SHEET") text) (Some (None, text))

-- a reference inside the grid, the digits of its row taken to their end
unfoldable pub reference_in : List ℕ → Option (RefText × List ℕ)
reference_in text = do
  sheet ← sheet_at text
  column ← column_at (mark_at sheet.1).1
  row ← number_at ROWS (mark_at column.1).1
  Some (
    record {
      sheet = sheet.0;
      row = row.0;
      col = column.0;
      row_fixed = (mark_at column.1).0;
      col_fixed = (mark_at sheet.1).0;
    },
    row.1,
  )
