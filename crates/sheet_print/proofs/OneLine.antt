-- Texts without a mark that ends a line: written cells and numbers.
use Rattle.std.proofs.Common.{◌≡◌, ◌==◌, ◌||◌, ℕ, ℤ, pos, negsuc, zero, suc, ◌+◌, ◌-◌, ◌/◌, ◌%◌, ◌≤◌, ◌≢◌, nat_lt, Bool, true, false, if◌then◌else◌, List, [], ◌∷◌, ◌++◌, Option, Some, None, refl, ◌∙◌, arith}
use Rattle.std.proofs.lemmas.List.Folds.{list_any-append}
use Rattle.std.specs.Char.{is_ascii_control}
use Rattle.std.specs.Fmt.{decimal, digits, digits_onto, digit_glyph, signed_decimal}
use Rattle.std.specs.List.{list_any}
use Rattle.cell_refs.specs.declared.grid.Cell.{Cell}
use Rattle.cell_refs.specs.Written.{cell_text, column_letters, last_letter, reference_text, rounds_before, sheet_part}
use Rattle.cell_values.proofs.PublicLaws.{parts_of_text}
use Rattle.cell_values.specs.declared.errors.ErrorKind.{ErrorKind}
use Rattle.cell_values.specs.declared.errors.ErrorKind.TheVariants.{Null, Div0, Value, Ref, Name, Num, Na}
use Rattle.cell_values.specs.Error.{error_word}
use Rattle.cell_values.specs.Text.{is_text}
use Rattle.sheet_print.specs.RecordWriter.{ends_line, IsOneLine}

apart : (a b : ℕ) → a ≢ b → (a == b) ≡ false
apart a b ne = grind (arith, ne)

-- a printable byte ends no line
pub no_end : (b : ℕ) → 14 ≤ b → ends_line b ≡ false
no_end b h =
    let cr : b ≢ 13 = omega arith in
    let lf : b ≢ 10 = omega arith in
    rw (apart b 13 cr, apart b 10 lf) refl

or_none : (x y : Bool) → x ≡ false → y ≡ false → (x || y) ≡ false
or_none true y h k = h
or_none false y h k = k

one_line-cons : (b : ℕ) (bs : List ℕ) → 14 ≤ b → IsOneLine bs → IsOneLine (b ∷ bs)
one_line-cons b bs h k = or_none (ends_line b) (list_any ends_line bs) (no_end b h) k

one_line-append : (xs ys : List ℕ) → IsOneLine xs → IsOneLine ys → IsOneLine (xs ++ ys)
one_line-append xs ys h k = list_any-append ends_line xs ys ∙ or_none (list_any ends_line xs) (list_any ends_line ys) h k

choice-above : (c : Bool) (x y : ℕ) → 14 ≤ x → 14 ≤ y → 14 ≤ (if c then x else y)
choice-above true x y h k = h
choice-above false x y h k = k

glyph-above : (d : ℕ) → 14 ≤ digit_glyph false d
glyph-above d = choice-above (nat_lt d 10) (48 + d) (87 + d) (omega arith) (omega arith)

choice-one_line : (c : Bool) (xs ys : List ℕ) → IsOneLine xs → IsOneLine ys → IsOneLine (if c then xs else ys)
choice-one_line true xs ys h k = h
choice-one_line false xs ys h k = k

digits_onto-one_line : (k n : ℕ) (bs : List ℕ) → IsOneLine bs → IsOneLine (digits_onto k 10 false n bs)
digits_onto-one_line zero n bs h = h
digits_onto-one_line (suc k) n bs h =
    let more : IsOneLine (digit_glyph false (n % 10) ∷ bs) = one_line-cons (digit_glyph false (n % 10)) bs (glyph-above (n % 10)) h in
    choice-one_line (n / 10 == 0) (digit_glyph false (n % 10) ∷ bs) (digits_onto k 10 false (n / 10) (digit_glyph false (n % 10) ∷ bs)) more
    (digits_onto-one_line k (n / 10) (digit_glyph false (n % 10) ∷ bs) more)

decimal-one_line : (n : ℕ) → IsOneLine (decimal n)
unfolding digits
decimal-one_line n = digits_onto-one_line 64 n [] refl

-- a number is written on one line
pub signed_decimal-one_line : (z : ℤ) → IsOneLine (signed_decimal z)
signed_decimal-one_line (pos n) = decimal-one_line n
signed_decimal-one_line (negsuc n) = decimal-one_line (suc n)

letter-one_line : (column : ℕ) → IsOneLine (last_letter column)
letter-one_line column =
    choice-one_line (column == 0) [] ((65 + (column - 1) % 26) ∷ []) refl (one_line-cons (65 + (column - 1) % 26) [] (omega arith) refl)

column-one_line : (column : ℕ) → IsOneLine (column_letters column)
unfolding column_letters
column-one_line column =
    one_line-append (last_letter (rounds_before (rounds_before column))) (last_letter (rounds_before column) ++ last_letter column) (letter-one_line (rounds_before (rounds_before column)))
    (one_line-append (last_letter (rounds_before column)) (last_letter column) (letter-one_line (rounds_before column)) (letter-one_line column))

sheet-one_line : (sheet : Option ℕ) → IsOneLine (sheet_part sheet)
sheet-one_line None = refl
sheet-one_line (Some n) = one_line-append (decimal n) (33 ∷ []) (decimal-one_line n) refl

-- a cell is written on one line
pub cell-one_line : (cell : Cell) → IsOneLine (cell_text cell)
unfolding cell_text reference_text
cell-one_line cell =
    let sheet = if cell.sheet == 1 then None else Some cell.sheet in
    one_line-append (sheet_part sheet) (column_letters cell.col ++ decimal cell.row) (sheet-one_line sheet)
    (one_line-append (column_letters cell.col) (decimal cell.row) (column-one_line cell.col) (decimal-one_line cell.row))

control-end : (b : ℕ) → is_ascii_control b ≡ false → ends_line b ≡ false
control-end b h = grind arith

or_left : (x y : Bool) → (x || y) ≡ false → x ≡ false
or_left true y h = h
or_left false y h = refl

or_right : (x y : Bool) → (x || y) ≡ false → y ≡ false
or_right true y h = cc
or_right false y h = h

uncontrolled-one_line : (t : List ℕ) → list_any is_ascii_control t ≡ false → IsOneLine t
uncontrolled-one_line [] h = refl
uncontrolled-one_line (b ∷ bs) h =
    or_none (ends_line b) (list_any ends_line bs) (control-end b (or_left (is_ascii_control b) (list_any is_ascii_control bs) h))
    (uncontrolled-one_line bs (or_right (is_ascii_control b) (list_any is_ascii_control bs) h))

-- a text is on one line
pub text-one_line : (t : List ℕ) → is_text t ≡ true → IsOneLine t
text-one_line t h = uncontrolled-one_line t (parts_of_text t h).none

-- an error word is on one line
pub error-one_line : (e : ErrorKind) → IsOneLine (error_word e)
error-one_line Null = refl
error-one_line Div0 = refl
error-one_line Value = refl
error-one_line Ref = refl
error-one_line Name = refl
error-one_line Num = refl
error-one_line Na = refl
