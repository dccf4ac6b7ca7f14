-- A reference at the front of a text in upper case, both ways.
use Rattle.std.proofs.Common.{◌≡◌, ◌≢◌, ℕ, ◌<◌, ◌≤◌, ◌^◌, Bool, true, false, cond, ◌&&◌, ◌==◌, List, [], ◌∷◌, ◌++◌, length, slice_index, Option, Some, None, IfSome, unwrap_or, codes, decimal, refl, ap, sym, ◌∙◌, arith, append_assoc}
use Rattle.std.proofs.lemmas.Bool.{and_parts}
use Rattle.std.proofs.lemmas.Bool.Decides.{nat_tests}
use Rattle.std.proofs.lemmas.Fmt.{decimal_nonempty, first_decimal, digits_decimal}
use Rattle.std.specs.Char.{is_ascii_digit, is_ascii_uppercase}
use Rattle.std.specs.List.{list_all}
use Rattle.std.specs.Option.{option_map_or}
use Rattle.std.specs.Str.{all_ascii_digits}
use Rattle.cell_refs.specs.declared.references.RefText.{RefText}
use Rattle.cell_refs.specs.Reading.{◌>>=◌, column_at, mark_at, number_at, reference_in, rest_after, sheet_at, sheet_number_at}
use Rattle.cell_refs.specs.RefText.{IsReference}
use Rattle.cell_refs.specs.Written.{column_letters, mark}
use Rattle.cell_refs.proofs.Columns.{column_again, column_takes, letters_begin}
use Rattle.cell_refs.proofs.Numbers.{number_again, number_takes}
use Rattle.cell_refs.proofs.Numerals.{numerals}
use Rattle.cell_refs.proofs.SheetWord.{rest_after_front}

pub bind_ok : {A B : Type 0} (o : Option A) (f : A → Option B) (y : B) → (o >>= f) ≡ Some y → (x : A) × (o ≡ Some x) × (f x ≡ Some y)
bind_ok None f y e = cc
bind_ok (Some x) f y e = (x, refl, e)

-- the sheet's part in upper case
abbrev pub sheet_capitals : Option ℕ → List ℕ
sheet_capitals None = []
sheet_capitals (Some sheet) = codes "SHEET" ++ (decimal sheet ++ codes "!")

-- a reference in upper case
unfoldable pub reference_capitals : RefText → List ℕ
reference_capitals r = sheet_capitals r.sheet ++ (mark r.col_fixed ++ (column_letters r.col ++ (mark r.row_fixed ++ decimal r.row)))

front_of : (xs ys : List ℕ) → 0 < length xs → slice_index (xs ++ ys) 0 ≡ slice_index xs 0
front_of [] ys some = absurd (omega arith)
front_of (x ∷ xs) ys some = refl

first_digit : (c : ℕ) (cs : List ℕ) → all_ascii_digits (c ∷ cs) ≡ true → is_ascii_digit c ≡ true
first_digit c cs all = parts (is_ascii_digit c) (all_ascii_digits cs) all
  where
    parts : (a b : Bool) → (a && b) ≡ true → a ≡ true
    parts true b e = refl
    parts false b e = e

-- a `$` or nothing, before something else
pub mark_again : (b : Bool) (rest : List ℕ) → slice_index rest 0 ≢ 36 → mark_at (mark b ++ rest) ≡ (b, rest)
unfolding mark_at
mark_again true rest other = refl
mark_again false [] other = refl
mark_again false (c ∷ cs) other = by_test (c == 36) refl
  where
    by_test : (t : Bool) → (c == 36) ≡ t → cond {A = Bool × List ℕ} t (true, cs) (false, c ∷ cs) ≡ (false, c ∷ cs)
    by_test true is = absurd (other (grind (arith, nat_tests)))
    by_test false is = refl

pub mark_takes : (text : List ℕ) → text ≡ mark (mark_at text).0 ++ (mark_at text).1
unfolding mark_at
mark_takes [] = refl
mark_takes (c ∷ cs) = by_test (c == 36) refl
  where
    by_test : (t : Bool) → (c == 36) ≡ t → c ∷ cs ≡ mark (cond {A = Bool × List ℕ} t (true, cs) (false, c ∷ cs)).0 ++ (cond {A = Bool × List ℕ} t (true, cs) (false, c ∷ cs)).1
    by_test true is = let head : c ≡ 36 = grind (arith, nat_tests) in ap (λ d. d ∷ cs) head
    by_test false is = refl

-- the digits of a number begin with a digit above 0
decimal_begins : (n : ℕ) (rest : List ℕ) → 1 ≤ n → n < 2 ^ 64 → (48 < slice_index (decimal n ++ rest) 0) × (slice_index (decimal n ++ rest) 0 ≤ 57)
decimal_begins n rest some room =
    rw (front_of (decimal n) rest (decimal_nonempty n room)) (first_decimal n (omega arith) room, below (decimal n) (decimal_nonempty n room) (digits_decimal numerals n room))
  where
    below : (ds : List ℕ) → 0 < length ds → all_ascii_digits ds ≡ true → slice_index ds 0 ≤ 57
    below [] some all = omega arith
    below (c ∷ cs) some all = let digit = first_digit c cs all in grind (arith, nat_tests)

sheet_number_again : (sheet : ℕ) (rest : List ℕ) → 1 ≤ sheet → sheet ≤ 64 → sheet_number_at (decimal sheet ++ (codes "!" ++ rest)) ≡ Some (Some sheet, rest)
unfolding sheet_number_at
sheet_number_again sheet rest some small =
    let read : number_at 64 (decimal sheet ++ (codes "!" ++ rest)) ≡ Some (sheet, codes "!" ++ rest) = number_again 64 sheet (codes "!" ++ rest) (omega arith) some small refl in
    rw read refl

pub sheet_again : (o : Option ℕ) (rest : List ℕ) → IfSome o (λ sheet. (1 ≤ sheet) × (sheet ≤ 64)) → rest_after (codes "SHEET") rest ≡ None → sheet_at (sheet_capitals o ++ rest) ≡ Some (o, rest)
unfolding sheet_at
sheet_again None rest fits other = rw other refl
sheet_again (Some sheet) rest fits other = ap sheet_number_at (append_assoc (decimal sheet) (codes "!") rest) ∙ sheet_number_again sheet rest fits.0 fits.1

sheet_number_takes : (text : List ℕ) (x : Option ℕ × List ℕ) → sheet_number_at text ≡ Some x → (sheet : ℕ) × (rest : List ℕ) × ((Some sheet, rest) ≡ x) × (text ≡ decimal sheet ++ (codes "!" ++ rest)) × (1 ≤ sheet) × (sheet ≤ 64)
unfolding sheet_number_at
sheet_number_takes text x e =
    let number = bind_ok (number_at 64 text) (λ number. rest_after (codes "!") number.1 >>= (λ rest. Some (Some number.0, rest))) x e in
    let rest = bind_ok (rest_after (codes "!") number.0.1) (λ rest. Some (Some number.0.0, rest)) x number.2 in
    let taken = number_takes 64 text number.0 (omega arith) number.1 in
    (number.0.0, rest.0, (let same = rest.2 in cc), taken.0 ∙ ap (λ more. decimal number.0.0 ++ more) (rest_after_front (codes "!") number.0.1 rest.0 rest.1), taken.1, taken.2)

pub sheet_takes : (text : List ℕ) (x : Option ℕ × List ℕ) → sheet_at text ≡ Some x → (text ≡ sheet_capitals x.0 ++ x.1) × IfSome x.0 (λ sheet. (1 ≤ sheet) × (sheet ≤ 64))
unfolding sheet_at
sheet_takes text x e = by_word (rest_after (codes "SHEET") text) refl e
  where
    by_word : (o : Option (List ℕ)) → rest_after (codes "SHEET") text ≡ o → option_map_or sheet_number_at o (Some (None, text)) ≡ Some x → (text ≡ sheet_capitals x.0 ++ x.1) × IfSome x.0 (λ sheet. (1 ≤ sheet) × (sheet ≤ 64))
    by_word None is h = let same : (None, text) ≡ x = cc in rw (← same) (refl, tt)
    by_word (Some rest) is h =
        let t = sheet_number_takes rest x h in
        rw (← t.2) (rest_after_front (codes "SHEET") text rest is ∙ ap (λ more. codes "SHEET" ++ more) (t.3 ∙ sym (append_assoc (decimal t.0) (codes "!") t.1)), (t.4, t.5))

-- a reference inside the grid, part by part
fits_sheet : (r : RefText) → IsReference r → IfSome r.sheet (λ sheet. (1 ≤ sheet) × (sheet ≤ 64))
fits_sheet r inside = by_sheet r.sheet inside.sheet
  where
    by_sheet : (o : Option ℕ) → (1 ≤ unwrap_or o 1) × (unwrap_or o 1 ≤ 64) → IfSome o (λ sheet. (1 ≤ sheet) × (sheet ≤ 64))
    by_sheet None fits = tt
    by_sheet (Some sheet) fits = fits

sheet_fits : (o : Option ℕ) → IfSome o (λ sheet. (1 ≤ sheet) × (sheet ≤ 64)) → (1 ≤ unwrap_or o 1) × (unwrap_or o 1 ≤ 64)
sheet_fits None fits = (omega arith, omega arith)
sheet_fits (Some sheet) fits = fits

apart : (c w : ℕ) → is_ascii_uppercase c ≡ false → is_ascii_uppercase w ≡ true → (c == w) ≡ false
apart c w other upper = by_test (c == w) refl
  where
    by_test : (b : Bool) → (c == w) ≡ b → (c == w) ≡ false
    by_test false is = is
    by_test true is = let same : c ≡ w = grind (arith, nat_tests) in let both : true ≡ false = sym upper ∙ (ap is_ascii_uppercase (sym same) ∙ other) in cc

none_twice : (b : Bool) (o : Option (List ℕ)) → o ≡ None → cond b o None ≡ None
none_twice true o none = none
none_twice false o none = refl

-- fewer letters than the word has, and then something else, aren't the word
no_longer_word : (word front rest : List ℕ) → list_all is_ascii_uppercase word ≡ true → length front < length word → is_ascii_uppercase (slice_index rest 0) ≡ false → rest_after word (front ++ rest) ≡ None
no_longer_word [] front rest all few stops = absurd (omega arith)
no_longer_word (w ∷ ws) [] [] all few stops = refl
no_longer_word (w ∷ ws) [] (c ∷ cs) all few stops = ap (λ b. cond b (rest_after ws cs) None) (apart c w stops (and_parts (is_ascii_uppercase w) (list_all is_ascii_uppercase ws) all).0)
no_longer_word (w ∷ ws) (c ∷ cs) rest all few stops =
    none_twice (c == w) (rest_after ws (cs ++ rest)) (no_longer_word ws cs rest (and_parts (is_ascii_uppercase w) (list_all is_ascii_uppercase ws) all).1 (omega arith) stops)

-- what follows the letters of a reference: a `$` or the digits of its row
after_letters : (b : Bool) (n : ℕ) (rest : List ℕ) → 1 ≤ n → n < 2 ^ 64 → is_ascii_uppercase (slice_index (mark b ++ (decimal n ++ rest)) 0) ≡ false
after_letters true n rest some room = refl
after_letters false n rest some room = let digit = decimal_begins n rest some room in grind (arith, nat_tests)

no_mark_in_digits : (n : ℕ) (rest : List ℕ) → 1 ≤ n → n < 2 ^ 64 → slice_index (decimal n ++ rest) 0 ≢ 36
no_mark_in_digits n rest some room e = let digit = decimal_begins n rest some room in omega arith

no_mark_in_letters : (n : ℕ) (rest : List ℕ) → 1 ≤ n → n ≤ 16384 → slice_index (column_letters n ++ rest) 0 ≢ 36
no_mark_in_letters n rest some small = by_letters (column_letters n) (letters_begin n some small).0 (letters_begin n some small).1
  where
    by_letters : (letters : List ℕ) → list_all is_ascii_uppercase letters ≡ true → 1 ≤ length letters → slice_index (letters ++ rest) 0 ≢ 36
    by_letters [] all some e = omega arith
    by_letters (c ∷ cs) all some e = let lower : is_ascii_uppercase c ≡ false = ap is_ascii_uppercase e in let both : true ≡ false = sym (and_parts (is_ascii_uppercase c) (list_all is_ascii_uppercase cs) all).0 ∙ lower in cc

-- a reference without a sheet doesn't begin with the word of a sheet
no_sheet : (b : Bool) (n : ℕ) (rest : List ℕ) → 1 ≤ n → n ≤ 16384 → is_ascii_uppercase (slice_index rest 0) ≡ false → rest_after (codes "SHEET") (mark b ++ (column_letters n ++ rest)) ≡ None
no_sheet true n rest some small stops = refl
no_sheet false n rest some small stops = no_longer_word (codes "SHEET") (column_letters n) rest refl (let few = (letters_begin n some small).2 in omega arith) stops

regrouped : (a b c d e rest : List ℕ) → (a ++ (b ++ (c ++ (d ++ e)))) ++ rest ≡ a ++ (b ++ (c ++ (d ++ (e ++ rest))))
regrouped a b c d e rest = simp append_assoc

pub reference_again : (r : RefText) (rest : List ℕ) → IsReference r → is_ascii_digit (slice_index rest 0) ≡ false → reference_in (reference_capitals r ++ rest) ≡ Some (r, rest)
unfolding reference_in reference_capitals
reference_again r rest inside stops =
    let digits = decimal r.row ++ rest in
    let rows = mark r.row_fixed ++ digits in
    let columns = column_letters r.col ++ rows in
    let row : number_at 1048576 digits ≡ Some (r.row, rest) = number_again 1048576 r.row rest (omega arith) inside.row.0 inside.row.1 stops in
    let row_mark : mark_at rows ≡ (r.row_fixed, digits) = mark_again r.row_fixed digits (no_mark_in_digits r.row rest inside.row.0 (omega (arith, inside.row.1))) in
    let after = after_letters r.row_fixed r.row rest inside.row.0 (omega (arith, inside.row.1)) in
    let column : column_at columns ≡ Some (r.col, rows) = column_again r.col rows inside.col.0 inside.col.1 after in
    let column_mark : mark_at (mark r.col_fixed ++ columns) ≡ (r.col_fixed, columns) = mark_again r.col_fixed columns (no_mark_in_letters r.col rows inside.col.0 inside.col.1) in
    let sheet : sheet_at (sheet_capitals r.sheet ++ (mark r.col_fixed ++ columns)) ≡ Some (r.sheet, mark r.col_fixed ++ columns) = sheet_again r.sheet (mark r.col_fixed ++ columns) (fits_sheet r inside) (no_sheet r.col_fixed r.col rows inside.col.0 inside.col.1 after) in
    ap reference_in (regrouped (sheet_capitals r.sheet) (mark r.col_fixed) (column_letters r.col) (mark r.row_fixed) (decimal r.row) rest)
    ∙ rw (sheet, column_mark, column, row_mark, row) refl

joined : (text a t b u c v d w e rest : List ℕ) → text ≡ a ++ t → t ≡ b ++ u → u ≡ c ++ v → v ≡ d ++ w → w ≡ e ++ rest → text ≡ (a ++ (b ++ (c ++ (d ++ e)))) ++ rest
joined text a t b u c v d w e rest p q r s z = let whole = regrouped a b c d e rest in cc

pub reference_takes : (text : List ℕ) (x : RefText × List ℕ) → reference_in text ≡ Some x → (text ≡ reference_capitals x.0 ++ x.1) × IsReference x.0 × (is_ascii_digit (slice_index x.1 0) ≡ false)
unfolding reference_in reference_capitals
reference_takes text x e =
    let made : Option ℕ × List ℕ → ℕ × List ℕ → ℕ × List ℕ → RefText × List ℕ = λ sheet column row. (record { sheet = sheet.0; row = row.0; col = column.0; row_fixed = (mark_at column.1).0; col_fixed = (mark_at sheet.1).0 }, row.1) in
    let sheet = bind_ok (sheet_at text) (λ sheet. column_at (mark_at sheet.1).1 >>= (λ column. number_at 1048576 (mark_at column.1).1 >>= (λ row. Some (made sheet column row)))) x e in
    let column = bind_ok (column_at (mark_at sheet.0.1).1) (λ column. number_at 1048576 (mark_at column.1).1 >>= (λ row. Some (made sheet.0 column row))) x sheet.2 in
    let row = bind_ok (number_at 1048576 (mark_at column.0.1).1) (λ row. Some (made sheet.0 column.0 row)) x column.2 in
    let sheet_taken = sheet_takes text sheet.0 sheet.1 in
    let column_taken = column_takes (mark_at sheet.0.1).1 column.0 column.1 in
    let row_taken = number_takes 1048576 (mark_at column.0.1).1 row.0 (omega arith) row.1 in
    let is : made sheet.0 column.0 row.0 ≡ x = let same = row.2 in cc in
    rw (← is) (
      joined text (sheet_capitals sheet.0.0) sheet.0.1 (mark (mark_at sheet.0.1).0) (mark_at sheet.0.1).1 (column_letters column.0.0) column.0.1 (mark (mark_at column.0.1).0) (mark_at column.0.1).1 (decimal row.0.0) row.0.1
          sheet_taken.0 (mark_takes sheet.0.1) column_taken.0 (mark_takes column.0.1) row_taken.0,
      record { sheet = sheet_fits sheet.0.0 sheet_taken.1; row = (row_taken.1, row_taken.2); col = (column_taken.1, column_taken.2) },
      row_taken.3,
    )
