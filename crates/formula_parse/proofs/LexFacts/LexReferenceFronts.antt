-- No reference goes on with more of a text than begins one.
use Rattle.std.proofs.Common.{◌≡◌, ℕ, ◌+◌, ◌<◌, ◌≤◌, zero, suc, Bool, true, ◌||◌, List, [], ◌∷◌, ◌++◌, length, take, drop, Option, Some, None, unwrap_or, codes, decimal, refl, sym, ap, ◌∙◌, arith, ◌⊎◌, inl, inr, ⊎_elim}
use Rattle.std.proofs.lemmas.Bool.{and_parts, and_from, or_right}
use Rattle.std.proofs.lemmas.Bool.Decides.{nat_tests}
use Rattle.std.proofs.lemmas.Fmt.{digits_decimal, length-decimal-le}
use Rattle.std.proofs.lemmas.List.{length-append, length-map, length-take-le, map-append, take-append-drop, take-map, drop-map, append_assoc}
use Rattle.std.proofs.lemmas.List.Folds.{list_all-append}
use Rattle.std.proofs.Math.Seq.{drop-append_seam, take-append_seam}
use Rattle.std.specs.Char.{is_ascii_digit, is_ascii_alphabetic, is_ascii_uppercase, to_ascii_uppercase}
use Rattle.std.specs.List.{list_all}
use Rattle.std.specs.Str.{all_ascii_digits}
use Rattle.cell_refs.specs.declared.references.RefText.{RefText}
use Rattle.cell_refs.specs.RefText.{IsReference}
use Rattle.cell_refs.specs.Written.{capitals}
use Rattle.cell_refs.proofs.PublicLaws.{reference_capitals, sheet_capitals, numerals}
use Rattle.cell_values.specs.Name.{is_name_byte}
use Rattle.formula_parse.specs.Lexing.{name_begun, reference_begun}
use Rattle.formula_parse.proofs.LexFacts.LexCorners.{IsPlain, plain_most}
use Rattle.formula_parse.proofs.LexFacts.LexFronts.{compared}
use Rattle.formula_parse.proofs.LexFacts.LexNameFronts.{name_most}
use Rattle.formula_parse.proofs.LexFacts.LexSheetFronts.{behind_sheet, on_sheet, sheet_and, own_sheet, sheet_counted, reference_begun_is, plain_reference_most}

-- ---- the word and the number of a sheet
-- a capital letter or a digit
abbrev is_word_capital : ℕ → Bool
is_word_capital c = is_ascii_uppercase c || is_ascii_digit c

-- digits are capital letters or digits
digits_are : (xs : List ℕ) → all_ascii_digits xs ≡ true → list_all is_word_capital xs ≡ true
digits_are [] h = refl
digits_are (c ∷ cs) h = let p = and_parts (is_ascii_digit c) (all_ascii_digits cs) h in and_from _ _ (or_right (is_ascii_uppercase c) _ p.0) (digits_are cs p.1)

-- so are the word and the number of a sheet
word_capitals : (sheet : ℕ) → sheet ≤ 64 → list_all is_word_capital (codes "SHEET" ++ decimal sheet) ≡ true
word_capitals sheet small = list_all-append is_word_capital (codes "SHEET") (decimal sheet) ∙ and_from _ _ refl (digits_are (decimal sheet) (digits_decimal numerals sheet (omega arith)))

-- such a byte can stand in a name, in any case
byte_name : (b : ℕ) → is_word_capital (to_ascii_uppercase b) ≡ true → is_name_byte b ≡ true
byte_name b h = grind (arith, nat_tests)

-- such bytes can stand in a name, in any case
bytes_name : (word : List ℕ) → list_all is_word_capital (capitals word) ≡ true → list_all is_name_byte word ≡ true
bytes_name [] h = refl
bytes_name (b ∷ bs) h = let p = and_parts (is_word_capital (to_ascii_uppercase b)) _ h in and_from _ _ (byte_name b p.0) (bytes_name bs p.1)

-- a front of bytes that pass passes
common_passes : (p : ℕ → Bool) (xs ys zs ws : List ℕ) → xs ++ ys ≡ zs ++ ws → length xs ≤ length zs → list_all p zs ≡ true → list_all p xs ≡ true
common_passes p [] ys zs ws e h all = refl
common_passes p (x ∷ xs) ys [] ws e h all = absurd (omega arith)
common_passes p (x ∷ xs) ys (z ∷ zs) ws e h all =
    let q = and_parts (p z) (list_all p zs) all in
    let first : x ≡ z = cc in
    let rest : xs ++ ys ≡ zs ++ ws = cc in
    and_from _ _ (ap p first ∙ q.0) (common_passes p xs ys zs ws rest (omega arith) q.1)

-- what is an S in upper case is a letter
letter_of : (b : ℕ) → to_ascii_uppercase b ≡ 83 → is_ascii_alphabetic b ≡ true
letter_of b e = grind (arith, nat_tests)

-- the front of the word and the number of a sheet is the front of a name
sheet_most : (text left front : List ℕ) (sheet m : ℕ) → m ≤ length text → m < length front → take m text ++ left ≡ front → capitals front ≡ codes "SHEET" ++ (decimal sheet ++ codes "!") → sheet ≤ 64 → m ≤ name_begun text
sheet_most text left front sheet zero inside less e s small = omega arith
sheet_most [] left front sheet (suc k) inside less e s small = absurd (omega arith)
sheet_most (b ∷ bs) left front sheet (suc k) inside less e s small =
    let m = suc k in
    let upper : capitals (take m (b ∷ bs)) ++ capitals left ≡ (codes "SHEET" ++ decimal sheet) ++ codes "!" = sym (map-append to_ascii_uppercase (take m (b ∷ bs)) left) ∙ (ap capitals e ∙ (s ∙ sym (append_assoc (codes "SHEET") (decimal sheet) (codes "!")))) in
    let short : length (decimal sheet) ≤ 2 = length-decimal-le 2 sheet (omega arith) (omega arith) (omega arith) in
    let count : length (capitals (take m (b ∷ bs))) ≡ m = length-map (take m (b ∷ bs)) to_ascii_uppercase ∙ length-take-le m (b ∷ bs) inside in
    let long : length front ≡ length (codes "SHEET" ++ decimal sheet) + 1 = omega (arith, ap length s, length-map front to_ascii_uppercase, length-append (decimal sheet) (codes "!"), length-append (codes "SHEET") (decimal sheet)) in
    let all = common_passes is_word_capital (capitals (take m (b ∷ bs))) (capitals left) (codes "SHEET" ++ decimal sheet) (codes "!") upper (omega arith) (word_capitals sheet small) in
    let first : to_ascii_uppercase b ≡ 83 = cc in
    name_most b bs m (letter_of b first) inside (omega (arith, length-append (codes "SHEET") (decimal sheet))) (bytes_name (take m (b ∷ bs)) all)

-- ---- references
-- a piece that is a sheet and a reference without one
record SheetAndPlain (piece : List ℕ) (sheet : ℕ) : Type 0 where
  front : List ℕ
  back : List ℕ
  whole : piece ≡ front ++ back
  spelled : capitals front ≡ sheet_capitals (Some sheet)
  plain : IsPlain back

-- a reference with a sheet is the sheet and a reference without one
sheet_and_plain : (piece : List ℕ) (r : RefText) (sheet : ℕ) → capitals piece ≡ reference_capitals r → IsReference r → r.sheet ≡ Some sheet → SheetAndPlain piece sheet
sheet_and_plain piece r sheet e inside is =
    let s = sheet_capitals (Some sheet) in
    let n = length s in
    let parts : capitals piece ≡ s ++ behind_sheet r = e ∙ (own_sheet r ∙ ap (λ o. sheet_capitals o ++ behind_sheet r) is) in
    record {
      front = take n piece;
      back = drop n piece;
      whole = sym (take-append-drop n piece);
      spelled = sym (take-map to_ascii_uppercase n piece) ∙ (ap (take n) parts ∙ take-append_seam s (behind_sheet r));
      plain = record {
        reference = on_sheet None r;
        spelled = sym (drop-map to_ascii_uppercase n piece) ∙ (ap (drop n) parts ∙ (drop-append_seam s (behind_sheet r) ∙ sym (sheet_and None r)));
        inside = record { sheet = (omega arith, omega arith); row = inside.row; col = inside.col };
        no_sheet = refl;
      };
    }

-- the sheet of a reference inside the grid
sheet_bounds : (r : RefText) (sheet : ℕ) → IsReference r → r.sheet ≡ Some sheet → (1 ≤ sheet) × (sheet ≤ 64)
sheet_bounds r sheet inside is = let o = ap (λ o. unwrap_or o 1) is in (omega (arith, inside.sheet.0, o), omega (arith, inside.sheet.1, o))

-- no reference with a sheet goes on with more than a name or a reference begins with
sheet_reference_most : (text more : List ℕ) (r : RefText) (sheet m : ℕ) → m ≤ length text → capitals (take m text ++ more) ≡ reference_capitals r → IsReference r → r.sheet ≡ Some sheet → (m ≤ name_begun text) ⊎ (m ≤ reference_begun text)
sheet_reference_most text more r sheet m inside e fits is =
    let p = sheet_and_plain (take m text ++ more) r sheet e fits is in
    let bounds = sheet_bounds r sheet fits is in
    ⊎_elim
    (λ i. inl (sheet_most text (drop m p.front) p.front sheet m inside i.less i.whole p.spelled bounds.1))
    (λ y.
    let count = sheet_counted text p.front y.left sheet y.whole p.spelled bounds.0 bounds.1 in
    let begun = reference_begun_is text p.front y.left y.whole count in
    let plain : IsPlain (take y.count y.left ++ more) = record { reference = p.plain.reference; spelled = ap capitals y.agrees ∙ p.plain.spelled; inside = p.plain.inside; no_sheet = p.plain.no_sheet } in
    let most = plain_most y.left y.count more y.within plain in
    inr (omega (arith, begun, most, y.place)))
    (compared text more p.front p.back m inside p.whole)

-- no reference goes on with more than a name or a reference begins with
pub reference_most : (text more : List ℕ) (r : RefText) (m : ℕ) → m ≤ length text → capitals (take m text ++ more) ≡ reference_capitals r → IsReference r → (m ≤ name_begun text) ⊎ (m ≤ reference_begun text)
reference_most text more r m inside e fits = by_sheet r.sheet refl
  where
    by_sheet : (o : Option ℕ) → r.sheet ≡ o → (m ≤ name_begun text) ⊎ (m ≤ reference_begun text)
    by_sheet None is = inr (plain_reference_most text more m inside (record { reference = r; spelled = e; inside = fits; no_sheet = is }))
    by_sheet (Some sheet) is = sheet_reference_most text more r sheet m inside e fits is
