-- How much of a text a reference begins with.
use Rattle.std.proofs.Common.{◌≡◌, ℕ, ◌+◌, ◌-◌, ◌<◌, ◌≤◌, suc, List, [], ◌∷◌, ◌++◌, length, take, drop, Option, Some, None, IfSome, unwrap_or, codes, decimal, refl, sym, ap, ◌∙◌, arith, ⊎_elim}
use Rattle.std.proofs.lemmas.Bool.{cases_lt}
use Rattle.std.proofs.lemmas.List.{length-append, length-map, map-append, take-append-drop, take-map, append_assoc, append-nil}
use Rattle.std.proofs.lemmas.Option.{none-some}
use Rattle.std.proofs.Math.Seq.{drop-append_seam, take-append_seam, take-append-add}
use Rattle.std.specs.Char.{is_ascii_uppercase, to_ascii_uppercase}
use Rattle.cell_refs.specs.declared.references.RefText.{RefText}
use Rattle.cell_refs.specs.Reading.{reference_in, sheet_at, sheet_number_at, number_at, mark_at, column_at, rest_after}
use Rattle.cell_refs.specs.RefText.{IsReference}
use Rattle.cell_refs.specs.Written.{capitals, mark, column_letters}
use Rattle.cell_refs.proofs.PublicLaws.{reference_again, reference_capitals, sheet_capitals, sheet_takes, number_again}
use Rattle.formula_parse.specs.declared.tokens.Token.TheVariants as tokens
use Rattle.formula_parse.specs.Lexing.{sheet_len, reference_begun, plain_begun}
use Rattle.formula_parse.specs.Tokens.{Writes}
use Rattle.formula_parse.proofs.LexFacts.LexCorners.{IsPlain, plain_goes_on, plain_most, plain_within}
use Rattle.formula_parse.proofs.LexFacts.LexPlain.{reference_parts, no_sheet, sheet_is}
use Rattle.formula_parse.proofs.LexFacts.LexReferences.{reference_whole}
use Rattle.formula_parse.proofs.LexFacts.LexWritten.{column_none, front_short}

-- the sheet at the front of a text, where there is one
record SheetFront (text : List ℕ) : Type 0 where
  front : List ℕ
  back : List ℕ
  sheet : Option ℕ
  whole : text ≡ front ++ back
  spelled : capitals front ≡ sheet_capitals sheet
  fits : IfSome sheet (λ sheet. (1 ≤ sheet) × (sheet ≤ 64))
  count : sheet_len text (sheet_at (capitals text)) ≡ length front

-- each text has its sheet at the front, or none
sheet_front : (text : List ℕ) → SheetFront text
sheet_front text = by_sheet (sheet_at (capitals text)) refl
  where
    by_sheet : (o : Option (Option ℕ × List ℕ)) → sheet_at (capitals text) ≡ o → SheetFront text
    by_sheet None e = record { front = []; back = text; sheet = None; whole = refl; spelled = refl; fits = tt; count = ap (sheet_len text) e }
    by_sheet (Some x) e =
        let t = sheet_takes (capitals text) x e in
        let n = length (sheet_capitals x.0) in
        let cut : capitals (take n text) ≡ sheet_capitals x.0 = sym (take-map to_ascii_uppercase n text) ∙ (ap (take n) t.0 ∙ take-append_seam (sheet_capitals x.0) x.1) in
        record {
          front = take n text;
          back = drop n text;
          sheet = x.0;
          whole = sym (take-append-drop n text);
          spelled = cut;
          fits = t.1;
          count = ap (sheet_len text) e ∙ omega (arith, ap length cut, ap length t.0, length-map (take n text) to_ascii_uppercase, length-map text to_ascii_uppercase, length-append (sheet_capitals x.0) x.1);
        }

-- how much of a text a reference begins with, by its sheet
pub reference_begun_is : (text front back : List ℕ) → text ≡ front ++ back → sheet_len text (sheet_at (capitals text)) ≡ length front → reference_begun text ≡ length front + plain_begun back
reference_begun_is text front back whole count =
    let left : drop (length front) text ≡ back = ap (drop (length front)) whole ∙ drop-append_seam front back in
    ap (λ n. n + plain_begun (drop n text)) count ∙ ap (λ x. length front + plain_begun x) left

-- what begins a reference is no more than the text
pub reference_within : (text : List ℕ) → reference_begun text ≤ length text
reference_within text =
    let f = sheet_front text in
    let is = reference_begun_is text f.front f.back f.whole f.count in
    let h = plain_within f.back in
    omega (arith, ap length f.whole, length-append f.front f.back)

-- a reference with another sheet
abbrev pub on_sheet : Option ℕ → RefText → RefText
on_sheet o r = record { sheet = o; row = r.row; col = r.col; row_fixed = r.row_fixed; col_fixed = r.col_fixed }

-- the part of a reference behind its sheet
abbrev pub behind_sheet : RefText → List ℕ
behind_sheet r = mark r.col_fixed ++ (column_letters r.col ++ (mark r.row_fixed ++ decimal r.row))

-- a reference on a sheet is written behind it
pub sheet_and : (o : Option ℕ) (r : RefText) → reference_capitals (on_sheet o r) ≡ sheet_capitals o ++ behind_sheet r
unfolding reference_capitals
sheet_and o r = refl

-- a reference is its sheet and what is written behind it
pub own_sheet : (r : RefText) → reference_capitals r ≡ sheet_capitals r.sheet ++ behind_sheet r
unfolding reference_capitals
own_sheet r = refl

-- a reference without a sheet behind a sheet is one on that sheet
with_sheet : (front piece : List ℕ) (o : Option ℕ) (r : RefText) → r.sheet ≡ None → capitals front ≡ sheet_capitals o → capitals piece ≡ reference_capitals r → capitals (front ++ piece) ≡ reference_capitals (on_sheet o r)
with_sheet front piece o r none e f =
    let plain : capitals piece ≡ behind_sheet r = f ∙ (own_sheet r ∙ ap (λ s. sheet_capitals s ++ behind_sheet r) none) in
    map-append to_ascii_uppercase front piece ∙ (ap (λ x. x ++ capitals piece) e ∙ (ap (λ x. sheet_capitals o ++ x) plain ∙ sym (sheet_and o r)))

-- the sheet of a reference inside the grid, or the first
pub sheet_fits : (o : Option ℕ) → IfSome o (λ sheet. (1 ≤ sheet) × (sheet ≤ 64)) → (1 ≤ unwrap_or o 1) × (unwrap_or o 1 ≤ 64)
sheet_fits None fits = (omega arith, omega arith)
sheet_fits (Some sheet) fits = fits

-- the front of a reference goes on to one
pub reference_goes_on : (text : List ℕ) → (more : List ℕ) × (r : RefText) × Writes (take (reference_begun text) text ++ more) (tokens.Reference r)
reference_goes_on text =
    let f = sheet_front text in
    let p = plain_goes_on f.back in
    let k = plain_begun f.back in
    let is : reference_begun text ≡ length f.front + k = reference_begun_is text f.front f.back f.whole f.count in
    let front : take (reference_begun text) text ≡ f.front ++ take k f.back = ap (λ n. take n text) is ∙ (ap (take (length f.front + k)) f.whole ∙ take-append-add f.front f.back k) in
    let piece : take (reference_begun text) text ++ p.0 ≡ f.front ++ (take k f.back ++ p.0) = ap (λ x. x ++ p.0) front ∙ append_assoc f.front (take k f.back) p.0 in
    let r = on_sheet f.sheet p.1.reference in
    let inside : IsReference r = record { sheet = sheet_fits f.sheet f.fits; row = p.1.inside.row; col = p.1.inside.col } in
    (p.0, r, reference_whole (take (reference_begun text) text ++ p.0) r (ap capitals piece ∙ with_sheet f.front (take k f.back ++ p.0) f.sheet p.1.reference p.1.no_sheet f.spelled p.1.spelled) inside)

-- ---- no longer front
-- the number of a sheet with its `!` is read
sheet_number_there : (sheet : ℕ) (rest : List ℕ) → 1 ≤ sheet → sheet ≤ 64 → sheet_number_at (decimal sheet ++ (codes "!" ++ rest)) ≡ Some (Some sheet, rest)
unfolding sheet_number_at
sheet_number_there sheet rest some small =
    let read : number_at 64 (decimal sheet ++ (codes "!" ++ rest)) ≡ Some (sheet, codes "!" ++ rest) = number_again 64 sheet (codes "!" ++ rest) (omega arith) some small refl in
    rw read refl

-- a sheet with its `!` is read
sheet_there : (sheet : ℕ) (rest : List ℕ) → 1 ≤ sheet → sheet ≤ 64 → sheet_at (sheet_capitals (Some sheet) ++ rest) ≡ Some (Some sheet, rest)
unfolding sheet_at
sheet_there sheet rest some small = ap sheet_number_at (append_assoc (decimal sheet) (codes "!") rest) ∙ sheet_number_there sheet rest some small

-- the length of a sheet that stands at the front
pub sheet_counted : (text front back : List ℕ) (sheet : ℕ) → text ≡ front ++ back → capitals front ≡ sheet_capitals (Some sheet) → 1 ≤ sheet → sheet ≤ 64 → sheet_len text (sheet_at (capitals text)) ≡ length front
sheet_counted text front back sheet whole e some small =
    let upper : capitals text ≡ sheet_capitals (Some sheet) ++ capitals back = ap capitals whole ∙ (map-append to_ascii_uppercase front back ∙ ap (λ x. x ++ capitals back) e) in
    let read : sheet_at (capitals text) ≡ Some (Some sheet, capitals back) = ap sheet_at upper ∙ sheet_there sheet (capitals back) some small in
    ap (sheet_len text) read ∙ omega (arith, ap length whole, length-append front back, length-map back to_ascii_uppercase)

-- no reference without a sheet begins with four of the letters of the word of a sheet
no_word : (y : List ℕ) (r : RefText) → reference_in (codes "SHEE" ++ y) ≡ Some (r, []) → r.sheet ≡ None → ⊥
unfolding mark_at
no_word y r h none =
    let u = codes "SHEE" ++ y in
    let q = reference_parts u r [] h in
    let text : q.0.1 ≡ u = no_sheet (rest_after (codes "SHEET") u) u q.0 (sheet_is u ∙ q.3) (q.6 ∙ none) in
    let many = front_short is_ascii_uppercase (codes "SHEE") y refl in
    let at : column_at (mark_at q.0.1).1 ≡ None = ap (λ x. column_at (mark_at x).1) text ∙ column_none u many in
    none-some {A = ℕ × List ℕ} q.1 (sym at ∙ q.4)

-- what is at least four is four more than something
four_of : (m : ℕ) → 4 ≤ m → (j : ℕ) × (m ≡ suc (suc (suc (suc j))))
four_of m h = (m - 4, omega arith)

-- a reference without a sheet is read
plain_in : (piece : List ℕ) (p : IsPlain piece) → reference_in (capitals piece) ≡ Some (p.reference, [])
plain_in piece p = ap reference_in (p.spelled ∙ sym (append-nil (reference_capitals p.reference))) ∙ reference_again p.reference [] p.inside refl

-- of a text that begins with a sheet, three bytes at most begin a reference without one
plain_short : (text more z : List ℕ) (m : ℕ) → capitals text ≡ codes "SHEET" ++ z → IsPlain (take m text ++ more) → m < 4
plain_short text more z m e p = ⊎_elim (λ less. less)
    (λ many.
    let j = four_of m many in
    let upper : capitals (take m text ++ more) ≡ take m (codes "SHEET" ++ z) ++ capitals more = map-append to_ascii_uppercase (take m text) more ∙ ap (λ x. x ++ capitals more) (sym (take-map to_ascii_uppercase m text) ∙ ap (take m) e) in
    let four : capitals (take m text ++ more) ≡ codes "SHEE" ++ (take j.0 (84 ∷ z) ++ capitals more) = upper ∙ ap (λ n. take n (codes "SHEET" ++ z) ++ capitals more) j.1 in
    absurd (no_word (take j.0 (84 ∷ z) ++ capitals more) p.reference (ap reference_in (sym four) ∙ plain_in (take m text ++ more) p) p.no_sheet))
    (cases_lt m 4)

-- what has no length is empty
empty_front : (front : List ℕ) → length front ≡ 0 → front ≡ []
empty_front [] e = refl
empty_front (c ∷ cs) e = absurd (omega arith)

-- no reference without a sheet goes on with more than a reference begins with
pub plain_reference_most : (text more : List ℕ) (m : ℕ) → m ≤ length text → IsPlain (take m text ++ more) → m ≤ reference_begun text
plain_reference_most text more m inside p = by_sheet (sheet_front text)
  where
    by_spelled : (f : SheetFront text) (o : Option ℕ) → capitals f.front ≡ sheet_capitals o → m ≤ reference_begun text
    by_spelled f None e =
        let is = reference_begun_is text f.front f.back f.whole f.count in
        let none : f.front ≡ [] = empty_front f.front (omega (arith, ap length e, length-map f.front to_ascii_uppercase)) in
        let same : text ≡ f.back = f.whole ∙ ap (λ x. x ++ f.back) none in
        let most = plain_most text m more inside p in
        omega (arith, is, ap plain_begun same)
    by_spelled f (Some sheet) e =
        let is = reference_begun_is text f.front f.back f.whole f.count in
        let upper : capitals text ≡ codes "SHEET" ++ ((decimal sheet ++ codes "!") ++ capitals f.back) = ap capitals f.whole ∙ (map-append to_ascii_uppercase f.front f.back ∙ ap (λ x. x ++ capitals f.back) e) in
        let few = plain_short text more ((decimal sheet ++ codes "!") ++ capitals f.back) m upper p in
        omega (arith, is, ap length e, length-map f.front to_ascii_uppercase)

    by_sheet : SheetFront text → m ≤ reference_begun text
    by_sheet f = by_spelled f f.sheet f.spelled
