-- For the crate's own functions: the parts of a handle's text. Each definition that ends in `at` or `front` gives what it
-- finds at the front, and the text after it.
use Rattle.std.specs.Prelude.{ℕ, ◌&&◌, nat_lt, ◌==◌, ◌^◌, if◌then◌else◌, List, [], ◌∷◌, length, take_while, drop, Option, Some, None, decimal}
use Rattle.std.specs.Char.{is_ascii_digit}
use Rattle.std.specs.Str.{bytes_eq}
use Rattle.std.specs.Str.Parse.{digits_value}
use Rattle.cell_refs.specs.declared.grid.Cell.{Cell}
use Rattle.cell_refs.specs.Reading.{◌>>=◌, rest_after}
use Rattle.cell_refs.specs.RefText.{cell_at}
use Rattle.cell_refs.specs.Written.{cell_text, reference_at}

-- the number of digits that are its own text, where a `u64` holds it
unfoldable pub own_number : List ℕ → Option ℕ
own_number digits =
    let number = digits_value 10 digits in
    if bytes_eq digits (decimal number) && nat_lt number (2 ^ 64) then Some number else None

-- a number in its own digits, taken to their end
unfoldable pub count_at : List ℕ → Option (ℕ × List ℕ)
count_at text =
    let digits = take_while is_ascii_digit text in do
      number ← own_number digits
      Some (number, drop (length digits) text)

-- the session from 2 on that stands before a `/`, else the first
unfoldable pub session_or_first : List ℕ → ℕ → List ℕ → Option (ℕ × List ℕ)
session_or_first text number [] = Some (1, text)
session_or_first text number (c ∷ cs) =
    if c == 47 then (if nat_lt 1 number then Some (number, cs) else None) else Some (1, text)

-- the session's part, or nothing
unfoldable pub session_at : List ℕ → Option (ℕ × List ℕ)
session_at text = do
  number ← count_at text
  session_or_first text number.0 number.1

-- a cell in its own text
unfoldable pub cell_at_front : List ℕ → Option (Cell × List ℕ)
cell_at_front text = do
  reference ← reference_at text
  rest ← rest_after (cell_text (cell_at reference.0 1)) text
  Some (cell_at reference.0 1, rest)

-- a number that a `u16` holds, with nothing behind it
unfoldable pub last_site : ℕ → List ℕ → Option ℕ
last_site number [] = if nat_lt number (2 ^ 16) then Some number else None
last_site number (c ∷ cs) = None

-- the site that the whole text is
unfoldable pub site_of : List ℕ → Option ℕ
site_of text = do
  number ← count_at text
  last_site number.0 number.1
