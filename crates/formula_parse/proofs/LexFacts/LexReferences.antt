-- A reference at the front of a text, as its bytes in upper case.
use Rattle.std.proofs.Common.{◌≡◌, ℕ, ◌-◌, ◌<◌, ◌≤◌, ◌^◌, Bool, true, false, not, ◌||◌, eqb, List, [], ◌∷◌, ◌++◌, length, take, drop, slice_index, Option, Some, None, option_map, unwrap_or, codes, decimal, refl, sym, ap, subst, ◌∙◌, arith}
use Rattle.std.proofs.lemmas.Bool.{and_parts, and_from, or_left, or_right}
use Rattle.std.proofs.lemmas.Bool.Decides.{nat_tests}
use Rattle.std.proofs.lemmas.Fmt.{digits_decimal}
use Rattle.std.proofs.lemmas.List.{length-append, length-map, map-append, take-append-drop, take-map, drop-map, append-nil}
use Rattle.std.proofs.lemmas.List.Folds.{list_all-append}
use Rattle.std.proofs.Math.Seq.{drop-append_seam, take-append_seam}
use Rattle.std.specs.Char.{is_ascii_digit, is_ascii_uppercase, to_ascii_uppercase}
use Rattle.std.specs.List.{list_all}
use Rattle.std.specs.Str.{all_ascii_digits}
use Rattle.cell_refs.specs.declared.references.RefText.{RefText}
use Rattle.cell_refs.specs.RefText.{IsReference}
use Rattle.cell_refs.specs.Reading.{reference_in}
use Rattle.cell_refs.specs.Written.{capitals, reference_at, mark, column_letters}
use Rattle.cell_refs.proofs.PublicLaws.{reference_again, reference_takes, reference_capitals, sheet_capitals, letters_begin, numerals}
use Rattle.formula_parse.proofs.LexFacts.LexFirst.{first_passes, begins_word}

-- a digit is one in upper case too
digit_upper : (c : ℕ) → is_ascii_digit (to_ascii_uppercase c) ≡ is_ascii_digit c
digit_upper c = grind (arith, nat_tests)

-- a digit is a digit in upper case too
pub first_digit_upper : (rest : List ℕ) → is_ascii_digit (slice_index (capitals rest) 0) ≡ first_passes is_ascii_digit rest
first_digit_upper [] = refl
first_digit_upper (c ∷ cs) = digit_upper c

-- a reference written at the front of a text
pub record Refers (text : List ℕ) (r : RefText) (n : ℕ) : Type 0 where
  pub piece : List ℕ
  pub rest : List ℕ
  pub whole : text ≡ piece ++ rest
  pub count : n ≡ length piece
  pub spelled : capitals piece ≡ reference_capitals r
  pub inside : IsReference r
  pub stops : first_passes is_ascii_digit rest ≡ false

-- a reference from its bytes in upper case
refers_from : (text : List ℕ) (r : RefText) (rest : List ℕ) → capitals text ≡ reference_capitals r ++ rest → IsReference r → is_ascii_digit (slice_index rest 0) ≡ false → Refers text r (length text - length rest)
refers_from text r rest e inside stops =
    let n = length (reference_capitals r) in
    let cut : capitals (take n text) ≡ reference_capitals r = sym (take-map to_ascii_uppercase n text) ∙ (ap (take n) e ∙ take-append_seam (reference_capitals r) rest) in
    let left : capitals (drop n text) ≡ rest = sym (drop-map to_ascii_uppercase n text) ∙ (ap (drop n) e ∙ drop-append_seam (reference_capitals r) rest) in
    record {
      piece = take n text;
      rest = drop n text;
      whole = sym (take-append-drop n text);
      count = omega (arith, ap length cut, ap length e, length-map (take n text) to_ascii_uppercase, length-map text to_ascii_uppercase, length-append (reference_capitals r) rest);
      spelled = cut;
      inside = inside;
      stops = sym (first_digit_upper (drop n text)) ∙ (ap (λ x. is_ascii_digit (slice_index x 0)) left ∙ stops);
    }

-- what is read is written
pub reference_refers : (text : List ℕ) (r : RefText) (n : ℕ) → reference_at text ≡ Some (r, n) → Refers text r n
unfolding reference_at
reference_refers text r n e = by_read (reference_in (capitals text)) refl e
  where
    by_read : (o : Option (RefText × List ℕ)) → reference_in (capitals text) ≡ o → option_map {T = RefText × List ℕ} {U = RefText × ℕ} (λ x. (x.0, length text - length x.1)) o ≡ Some (r, n) → Refers text r n
    by_read None is h = absurd (cc)
    by_read (Some x) is h =
        let t = reference_takes (capitals text) x is in
        let pair : ◌≡◌ {A = RefText × ℕ} (x.0, length text - length x.1) (r, n) = cc in
        subst (λ (p : RefText × ℕ). Refers text p.0 p.1) pair (refers_from text x.0 x.1 t.0 t.1 t.2)

-- what is written is read
pub reference_joined : (piece rest : List ℕ) (r : RefText) → capitals piece ≡ reference_capitals r → IsReference r → first_passes is_ascii_digit rest ≡ false → reference_at (piece ++ rest) ≡ Some (r, length piece)
unfolding reference_at
reference_joined piece rest r e inside stops =
    let whole : capitals (piece ++ rest) ≡ reference_capitals r ++ capitals rest = map-append to_ascii_uppercase piece rest ∙ ap (λ x. x ++ capitals rest) e in
    let read : reference_in (capitals (piece ++ rest)) ≡ Some (r, capitals rest) = ap reference_in whole ∙ reference_again r (capitals rest) inside (first_digit_upper rest ∙ stops) in
    let count : length (piece ++ rest) - length (capitals rest) ≡ length piece = omega (arith, length-append piece rest, length-map rest to_ascii_uppercase) in
    rw (read, count) refl

-- what is written whole is read whole
pub reference_whole : (piece : List ℕ) (r : RefText) → capitals piece ≡ reference_capitals r → IsReference r → reference_at piece ≡ Some (r, length piece)
reference_whole piece r e inside = ap reference_at (sym (append-nil piece)) ∙ reference_joined piece [] r e inside refl

-- a piece that is a reference throughout
pub piece_refers : (piece : List ℕ) (r : RefText) → reference_at piece ≡ Some (r, length piece) → (capitals piece ≡ reference_capitals r) × IsReference r
piece_refers piece r e =
    let f = reference_refers piece r (length piece) e in
    let none : f.rest ≡ [] = empty f.rest (omega (arith, f.count, ap length f.whole, length-append f.piece f.rest)) in
    let same : piece ≡ f.piece = f.whole ∙ (ap (λ x. f.piece ++ x) none ∙ append-nil f.piece) in
    (ap capitals same ∙ f.spelled, f.inside)
  where
    empty : (xs : List ℕ) → length xs ≡ 0 → xs ≡ []
    empty [] e = refl
    empty (x ∷ xs) e = absurd (omega arith)

-- ---- the bytes of a reference
-- a capital letter, a digit, `$` or `!`
abbrev pub is_reference_byte : ℕ → Bool
is_reference_byte c = is_ascii_uppercase c || (is_ascii_digit c || (eqb c 36 || eqb c 33))

-- letters are bytes of a reference
letters_are : (xs : List ℕ) → list_all is_ascii_uppercase xs ≡ true → list_all is_reference_byte xs ≡ true
letters_are [] h = refl
letters_are (c ∷ cs) h = let p = and_parts _ _ h in and_from _ _ (or_left _ _ p.0) (letters_are cs p.1)

-- digits are bytes of a reference
digits_are : (xs : List ℕ) → all_ascii_digits xs ≡ true → list_all is_reference_byte xs ≡ true
digits_are [] h = refl
digits_are (c ∷ cs) h = let p = and_parts (is_ascii_digit c) (all_ascii_digits cs) h in and_from _ _ (or_right (is_ascii_uppercase c) _ (or_left _ _ p.0)) (digits_are cs p.1)

-- a `$` is a byte of a reference
mark_is : (b : Bool) → list_all is_reference_byte (mark b) ≡ true
mark_is true = refl
mark_is false = refl

-- two pieces of such bytes
both_are : (xs ys : List ℕ) → list_all is_reference_byte xs ≡ true → list_all is_reference_byte ys ≡ true → list_all is_reference_byte (xs ++ ys) ≡ true
both_are xs ys e f = list_all-append is_reference_byte xs ys ∙ and_from _ _ e f

-- the decimals of a number are bytes of a reference
decimal_are : (n : ℕ) → n < 2 ^ 64 → list_all is_reference_byte (decimal n) ≡ true
decimal_are n room = digits_are (decimal n) (digits_decimal numerals n room)

-- a sheet has bytes of a reference alone
sheet_is : (o : Option ℕ) → unwrap_or o 1 ≤ 64 → list_all is_reference_byte (sheet_capitals o) ≡ true
sheet_is None small = refl
sheet_is (Some sheet) small = both_are (codes "SHEET") (decimal sheet ++ codes "!") refl (both_are (decimal sheet) (codes "!") (decimal_are sheet (omega arith)) refl)

-- a reference has no other bytes
pub reference_bytes : (r : RefText) → IsReference r → list_all is_reference_byte (reference_capitals r) ≡ true
unfolding reference_capitals
reference_bytes r inside =
    let l = letters_begin r.col inside.col.0 inside.col.1 in
    both_are (sheet_capitals r.sheet) _ (sheet_is r.sheet inside.sheet.1)
    (both_are (mark r.col_fixed) _ (mark_is r.col_fixed)
    (both_are (column_letters r.col) _ (letters_are (column_letters r.col) l.0)
    (both_are (mark r.row_fixed) _ (mark_is r.row_fixed)
    (decimal_are r.row (omega (arith, inside.row.1))))))

-- whether a byte begins a reference in upper case
abbrev begins : ℕ → Bool
begins c = is_ascii_uppercase c || eqb c 36

-- letters begin a reference
letters_first : (xs more : List ℕ) → list_all is_ascii_uppercase xs ≡ true → 1 ≤ length xs → first_passes begins (xs ++ more) ≡ true
letters_first [] more all some = absurd (omega arith)
letters_first (c ∷ cs) more all some = or_left _ _ (and_parts (is_ascii_uppercase c) _ all).0

-- so do letters behind a `$`
column_first : (b : Bool) (xs more : List ℕ) → list_all is_ascii_uppercase xs ≡ true → 1 ≤ length xs → first_passes begins (mark b ++ (xs ++ more)) ≡ true
column_first true xs more all some = refl
column_first false xs more all some = letters_first xs more all some

-- so does a sheet
sheet_first : (o : Option ℕ) (more : List ℕ) → first_passes begins more ≡ true → first_passes begins (sheet_capitals o ++ more) ≡ true
sheet_first None more h = h
sheet_first (Some sheet) more h = refl

-- a reference in upper case begins with a letter or a `$`
reference_first : (r : RefText) → IsReference r → first_passes begins (reference_capitals r) ≡ true
unfolding reference_capitals
reference_first r inside =
    let l = letters_begin r.col inside.col.0 inside.col.1 in
    sheet_first r.sheet _ (column_first r.col_fixed (column_letters r.col) _ l.0 l.1)

-- what begins a reference in upper case begins one in any case
begins_upper : (b : ℕ) → begins (to_ascii_uppercase b) ≡ true → begins_word b ≡ true
begins_upper b h = grind (arith, nat_tests)

-- the first byte of a text in upper case
first_upper : (piece : List ℕ) → first_passes begins (capitals piece) ≡ true → (b : ℕ) × (bs : List ℕ) × (piece ≡ b ∷ bs) × (begins_word b ≡ true)
first_upper [] h = absurd (cc)
first_upper (b ∷ bs) h = (b, bs, refl, begins_upper b h)

-- a reference begins with a letter or a `$`
pub reference_begins : (piece : List ℕ) (r : RefText) → capitals piece ≡ reference_capitals r → IsReference r → (b : ℕ) × (bs : List ℕ) × (piece ≡ b ∷ bs) × (begins_word b ≡ true)
reference_begins piece r e inside = first_upper piece (ap (first_passes begins) e ∙ reference_first r inside)

-- a byte of a reference is no `(`
byte_no_open : (b : ℕ) → is_reference_byte (to_ascii_uppercase b) ≡ true → eqb b 40 ≡ false
byte_no_open b h = grind (arith, nat_tests)

-- bytes of a reference have no `(`
bytes_no_open : (piece : List ℕ) → list_all is_reference_byte (capitals piece) ≡ true → list_all (λ b. not (eqb b 40)) piece ≡ true
bytes_no_open [] h = refl
bytes_no_open (b ∷ bs) h = let p = and_parts (is_reference_byte (to_ascii_uppercase b)) _ h in and_from _ _ (ap not (byte_no_open b p.0)) (bytes_no_open bs p.1)

-- a reference has no `(`
pub reference_no_open : (piece : List ℕ) (r : RefText) → capitals piece ≡ reference_capitals r → IsReference r → list_all (λ b. not (eqb b 40)) piece ≡ true
reference_no_open piece r e inside = bytes_no_open piece (ap (list_all is_reference_byte) e ∙ reference_bytes r inside)
