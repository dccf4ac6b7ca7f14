-- The reference at the front of a text is the one that stands there.
use Rattle.std.proofs.Common.{◌≡◌, ℕ, zero, suc, ◌-◌, ◌<◌, ◌≤◌, ◌^◌, Bool, true, false, cond, nat_lt, List, [], ◌∷◌, ◌++◌, length, take, drop, slice_index, Option, Some, None, option_map, unwrap_or, codes, decimal, refl, ap, sym, subst, add-zero, ◌==◌, ◌∙◌, arith}
use Rattle.std.proofs.lemmas.Bool.{and_parts}
use Rattle.std.proofs.lemmas.Bool.Decides.{nat_tests}
use Rattle.std.proofs.lemmas.Fmt.{IsAscii-decimal, decimal_nonempty, digits_decimal}
use Rattle.std.proofs.lemmas.List.{get_or-drop, length-append, length-drop, length-map, map-append, take-append-drop, take-map}
use Rattle.std.proofs.Math.Seq.{drop-append_seam, take-append_seam}
use Rattle.std.specs.Char.{is_ascii_digit, is_ascii_uppercase, to_ascii_uppercase}
use Rattle.std.specs.List.{list_all}
use Rattle.std.specs.Str.{IsAscii, all_ascii_digits}
use Rattle.cell_refs.specs.declared.grid.Cell.{Cell}
use Rattle.cell_refs.specs.declared.references.RefText.{RefText}
use Rattle.cell_refs.specs.Cell.{IsCell}
use Rattle.cell_refs.specs.RefText.{IsReference, cell_at}
use Rattle.cell_refs.specs.Reading.{reference_in}
use Rattle.cell_refs.specs.Written.{StandsAt, capitals, cell_text, column_letters, mark, plain_reference, reference_at, reference_text, sheet_part}
use Rattle.cell_refs.proofs.BothWays.{reference_again, reference_capitals, reference_takes, sheet_capitals}
use Rattle.cell_refs.proofs.Capitals.{digit_upper, upper_digit}
use Rattle.cell_refs.proofs.Columns.{letters_begin}
use Rattle.cell_refs.proofs.Numerals.{numerals}

letters_stay : (letters : List ℕ) → list_all is_ascii_uppercase letters ≡ true → capitals letters ≡ letters
letters_stay [] all = refl
letters_stay (c ∷ cs) all =
    let parts = and_parts (is_ascii_uppercase c) (list_all is_ascii_uppercase cs) all in
    rw (upper_stays c parts.0, letters_stay cs parts.1) refl
  where
    upper_stays : (c : ℕ) → is_ascii_uppercase c ≡ true → to_ascii_uppercase c ≡ c
    upper_stays c upper = grind (arith, nat_tests)

digits_stay : (digits : List ℕ) → all_ascii_digits digits ≡ true → capitals digits ≡ digits
digits_stay [] all = refl
digits_stay (c ∷ cs) all =
    let parts = and_parts (is_ascii_digit c) (all_ascii_digits cs) all in
    rw (upper_digit c parts.0, digits_stay cs parts.1) refl

decimal_stays : (n : ℕ) → n < 2 ^ 64 → capitals (decimal n) ≡ decimal n
decimal_stays n room = digits_stay (decimal n) (digits_decimal numerals n room)

mark_stays : (b : Bool) → capitals (mark b) ≡ mark b
mark_stays true = refl
mark_stays false = refl

sheet_stays : (o : Option ℕ) → unwrap_or o 1 ≤ 64 → capitals (sheet_part o) ≡ sheet_capitals o
sheet_stays None small = refl
sheet_stays (Some sheet) small =
    map-append to_ascii_uppercase (codes "Sheet") (decimal sheet ++ codes "!")
    ∙ ap (λ more. codes "SHEET" ++ more) (map-append to_ascii_uppercase (decimal sheet) (codes "!") ∙ ap (λ digits. digits ++ codes "!") (decimal_stays sheet (omega arith)))

-- a reference's text in upper case
capitals_reference : (r : RefText) → IsReference r → capitals (reference_text r) ≡ reference_capitals r
unfolding reference_text reference_capitals
capitals_reference r inside =
    simp map-append (rw (sheet_stays r.sheet inside.sheet.1, mark_stays r.col_fixed, letters_stay (column_letters r.col) (letters_begin r.col inside.col.0 inside.col.1).0, mark_stays r.row_fixed, decimal_stays r.row (omega (arith, inside.row.1))) refl)

upper_at : (text : List ℕ) (n : ℕ) → slice_index (capitals text) n ≡ to_ascii_uppercase (slice_index text n)
upper_at [] n = refl
upper_at (c ∷ cs) zero = refl
upper_at (c ∷ cs) (suc n) = upper_at cs n

index_after : (xs : List ℕ) (n : ℕ) → slice_index (drop n xs) 0 ≡ slice_index xs n
index_after xs n = get_or-drop n xs 0 0 ∙ ap (λ k. slice_index xs k) (add-zero n)

-- what stands at the place n of a text isn't a digit, by what is left from there in upper case
ends_so : (text rest : List ℕ) (n : ℕ) → rest ≡ drop n (capitals text) → is_ascii_digit (slice_index rest 0) ≡ is_ascii_digit (slice_index text n)
ends_so text rest n e =
    ap (λ rest. is_ascii_digit (slice_index rest 0)) e ∙ (ap is_ascii_digit (index_after (capitals text) n ∙ upper_at text n) ∙ digit_upper (slice_index text n))

stands : (text : List ℕ) (r : RefText) (rest : List ℕ) → capitals text ≡ reference_capitals r ++ rest → IsReference r → is_ascii_digit (slice_index rest 0) ≡ false → StandsAt text r (length (reference_capitals r))
stands text r rest e inside stops =
    let cut : take (length (reference_capitals r)) (capitals text) ≡ reference_capitals r = ap (take (length (reference_capitals r))) e ∙ take-append_seam (reference_capitals r) rest in
    let left : rest ≡ drop (length (reference_capitals r)) (capitals text) = sym (ap (drop (length (reference_capitals r))) e ∙ drop-append_seam (reference_capitals r) rest) in
    record {
      inside = inside;
      within = (let n = ap length e in omega (arith, n, length-append (reference_capitals r) rest, length-map text to_ascii_uppercase));
      spelled = sym (take-map to_ascii_uppercase (length (reference_capitals r)) text) ∙ (cut ∙ sym (capitals_reference r inside));
      ends = sym (ends_so text rest (length (reference_capitals r)) left) ∙ stops;
    }

-- what reading gives stands at the front
pub stands_from_read : (text : List ℕ) (r : RefText) (n : ℕ) → reference_at text ≡ Some (r, n) → StandsAt text r n
unfolding reference_at
stands_from_read text r n e = by_read (reference_in (capitals text)) refl e
  where
    by_read : (o : Option (RefText × List ℕ)) → reference_in (capitals text) ≡ o → option_map {T = RefText × List ℕ} {U = RefText × ℕ} (λ x. (x.0, length text - length x.1)) o ≡ Some (r, n) → StandsAt text r n
    by_read None is h = cc
    by_read (Some x) is h =
        let t = reference_takes (capitals text) x is in
        let long = ap length t.0 in
        let pair : ◌≡◌ {A = RefText × ℕ} (x.0, length text - length x.1) (r, n) = cc in
        let same : x.0 ≡ r = ap (λ (p : RefText × ℕ). p.0) pair in
        let count : length text - length x.1 ≡ n = ap (λ (p : RefText × ℕ). p.1) pair in
        let whole : length (reference_capitals x.0) ≡ n = omega (arith, count, long, length-append (reference_capitals x.0) x.1, length-map text to_ascii_uppercase) in
        rw (← same, ← whole) (stands text x.0 x.1 t.0 t.1 t.2)

-- what stands at the front is what reading gives
pub read_from_stands : (text : List ℕ) (r : RefText) (n : ℕ) → StandsAt text r n → reference_at text ≡ Some (r, n)
unfolding reference_at
read_from_stands text r n s =
    let rest = drop n (capitals text) in
    let front : take n (capitals text) ≡ reference_capitals r = take-map to_ascii_uppercase n text ∙ (s.spelled ∙ capitals_reference r s.inside) in
    let whole : capitals text ≡ reference_capitals r ++ rest = sym (take-append-drop n (capitals text)) ∙ ap (λ front. front ++ rest) front in
    let read : reference_in (capitals text) ≡ Some (r, rest) = ap reference_in whole ∙ reference_again r rest s.inside (ends_so text rest n refl ∙ s.ends) in
    let count : length text - length rest ≡ n = omega (arith, s.within, length-drop n (capitals text), length-map text to_ascii_uppercase) in
    rw (read, count) refl

-- a reference that is written reads back, whatever follows but a digit
pub reference_reads_back : (r : RefText) (rest : List ℕ) → IsReference r → is_ascii_digit (slice_index rest 0) ≡ false → reference_at (reference_text r ++ rest) ≡ Some (r, length (reference_text r))
reference_reads_back r rest inside stops =
    read_from_stands (reference_text r ++ rest) r (length (reference_text r)) (record {
      inside = inside;
      within = omega (arith, length-append (reference_text r) rest);
      spelled = ap capitals (take-append_seam (reference_text r) rest);
      ends = ap is_ascii_digit (sym (index_after (reference_text r ++ rest) (length (reference_text r))) ∙ ap (λ rest. slice_index rest 0) (drop-append_seam (reference_text r) rest)) ∙ stops;
    })

-- a plain reference means its cell
pub plain_means : (cell : Cell) → cell_at (plain_reference cell) 1 ≡ cell
plain_means cell = by_sheet (cell.sheet == 1) refl
  where
    by_sheet : (b : Bool) → (cell.sheet == 1) ≡ b → record { sheet = unwrap_or (cond b None (Some cell.sheet)) 1; row = cell.row; col = cell.col } ≡ cell
    by_sheet true is = let first : cell.sheet ≡ 1 = grind (arith, nat_tests) in let P : ℕ → Cell = λ sheet. record { sheet = sheet; row = cell.row; col = cell.col } in ap P (sym first)
    by_sheet false is = refl

-- a cell that is written reads back
pub cell_reads_back : (cell : Cell) (rest : List ℕ) → IsCell cell → is_ascii_digit (slice_index rest 0) ≡ false → reference_at (cell_text cell ++ rest) ≡ Some (plain_reference cell, length (cell_text cell))
unfolding cell_text
cell_reads_back cell rest inside stops =
    let P : Cell → Type 0 = IsCell in
    reference_reads_back (plain_reference cell) rest (subst P (sym (plain_means cell)) inside) stops

-- where nothing is read, no reference stands
pub nothing_read : (text : List ℕ) → reference_in (capitals text) ≡ None → reference_at text ≡ None
unfolding reference_at
nothing_read text none = rw none refl

pub nothing_stands : (text : List ℕ) → reference_at text ≡ None → (r : RefText) (n : ℕ) → StandsAt text r n → ⊥
nothing_stands text none r n s = let read = read_from_stands text r n s in cc

-- what the code reads, with its length
pub something_read : (text rest : List ℕ) (r : RefText) (n : ℕ) → reference_in (capitals text) ≡ Some (r, capitals rest) → n ≡ length text - length rest → reference_at text ≡ Some (r, n)
unfolding reference_at
something_read text rest r n some count = rw (some, length-map, count) refl

-- a reference takes at least one byte
pub stands_long : (text : List ℕ) (r : RefText) (n : ℕ) → StandsAt text r n → 0 < n
unfolding reference_capitals
stands_long text r n s =
    let row = decimal_nonempty r.row (omega (arith, s.inside.row.1)) in
    let long = ap length (take-map to_ascii_uppercase n text ∙ (s.spelled ∙ capitals_reference r s.inside)) in
    let parts = length-append (sheet_capitals r.sheet) (mark r.col_fixed ++ (column_letters r.col ++ (mark r.row_fixed ++ decimal r.row))) in
    let parts_2 = length-append (mark r.col_fixed) (column_letters r.col ++ (mark r.row_fixed ++ decimal r.row)) in
    let parts_3 = length-append (column_letters r.col) (mark r.row_fixed ++ decimal r.row) in
    let parts_4 = length-append (mark r.row_fixed) (decimal r.row) in
    by_length n long (omega (arith, parts, parts_2, parts_3, parts_4, row))
  where
    by_length : (n : ℕ) → length (take n (capitals text)) ≡ length (reference_capitals r) → 0 < length (reference_capitals r) → 0 < n
    by_length zero e some = omega (arith, e)
    by_length (suc n) e some = omega arith

ascii_append : (xs ys : List ℕ) → IsAscii xs → IsAscii ys → IsAscii (xs ++ ys)
ascii_append [] ys p q i = q i
ascii_append (x ∷ xs) ys p q zero = p zero
ascii_append (x ∷ xs) ys p q (suc i) = ascii_append xs ys (λ j. p (suc j)) q i

ascii_letters : (letters : List ℕ) → list_all is_ascii_uppercase letters ≡ true → IsAscii letters
ascii_letters [] all i = omega arith
ascii_letters (c ∷ cs) all zero = let upper = (and_parts (is_ascii_uppercase c) (list_all is_ascii_uppercase cs) all).0 in grind (arith, nat_tests)
ascii_letters (c ∷ cs) all (suc i) = ascii_letters cs (and_parts (is_ascii_uppercase c) (list_all is_ascii_uppercase cs) all).1 i

ascii_mark : (b : Bool) → IsAscii (mark b)
ascii_mark true zero = omega arith
ascii_mark true (suc i) = omega arith
ascii_mark false i = omega arith

ascii_codes : (bytes : List ℕ) → list_all (λ b. nat_lt b 128) bytes ≡ true → IsAscii bytes
ascii_codes [] all i = omega arith
ascii_codes (c ∷ cs) all zero = let low = (and_parts (nat_lt c 128) (list_all (λ b. nat_lt b 128) cs) all).0 in grind (arith, nat_tests)
ascii_codes (c ∷ cs) all (suc i) = ascii_codes cs (and_parts (nat_lt c 128) (list_all (λ b. nat_lt b 128) cs) all).1 i

ascii_sheet : (o : Option ℕ) → unwrap_or o 1 ≤ 64 → IsAscii (sheet_part o)
ascii_sheet None small i = omega arith
ascii_sheet (Some sheet) small i = ascii_append (codes "Sheet") (decimal sheet ++ codes "!") (ascii_codes (codes "Sheet") refl) (ascii_append (decimal sheet) (codes "!") (IsAscii-decimal sheet (omega arith)) (ascii_codes (codes "!") refl)) i

-- a reference is written in ASCII
pub ascii_reference : (r : RefText) → IsReference r → IsAscii (reference_text r)
unfolding reference_text
ascii_reference r inside =
    ascii_append (sheet_part r.sheet) (mark r.col_fixed ++ (column_letters r.col ++ (mark r.row_fixed ++ decimal r.row))) (ascii_sheet r.sheet inside.sheet.1)
    (ascii_append (mark r.col_fixed) (column_letters r.col ++ (mark r.row_fixed ++ decimal r.row)) (ascii_mark r.col_fixed)
    (ascii_append (column_letters r.col) (mark r.row_fixed ++ decimal r.row) (ascii_letters (column_letters r.col) (letters_begin r.col inside.col.0 inside.col.1).0)
    (ascii_append (mark r.row_fixed) (decimal r.row) (ascii_mark r.row_fixed) (IsAscii-decimal r.row (omega (arith, inside.row.1))))))

pub ascii_cell : (cell : Cell) → IsCell cell → IsAscii (cell_text cell)
unfolding cell_text
ascii_cell cell inside = let P : Cell → Type 0 = IsCell in ascii_reference (plain_reference cell) (subst P (sym (plain_means cell)) inside)

-- no two cells are written alike
pub one_cell : (a b : Cell) → IsCell a → IsCell b → cell_text a ≡ cell_text b → a ≡ b
one_cell a b fits_a fits_b e =
    let read_a = cell_reads_back a [] fits_a refl in
    let read_b = cell_reads_back b [] fits_b refl in
    let pair : ◌≡◌ {A = Option (RefText × ℕ)} (Some (plain_reference a, length (cell_text a))) (Some (plain_reference b, length (cell_text b))) = sym read_a ∙ (ap (λ text. reference_at (text ++ [])) e ∙ read_b) in
    let same : plain_reference a ≡ plain_reference b = first pair in
    sym (plain_means a) ∙ (ap (λ r. cell_at r 1) same ∙ plain_means b)
  where
    first : {X Y : Type 0} {x z : X} {y w : Y} → ◌≡◌ {A = Option (X × Y)} (Some (x, y)) (Some (z, w)) → x ≡ z
    first {X} {Y} {x} {z} {y} {w} e = let pair : ◌≡◌ {A = X × Y} (x, y) (z, w) = cc in ap (λ (p : X × Y). p.0) pair
