-- How much of a text a reference without a sheet begins with is how much some such reference goes on with.
use Rattle.std.proofs.Common.{◌≡◌, ℕ, ◌+◌, ◌-◌, ◌*◌, ◌≤◌, Bool, true, false, cond, ◌&&◌, eqb, nat_le, List, [], ◌∷◌, ◌++◌, length, take, drop, Some, None, refl, sym, ap, ◌∙◌, arith, ⊎_elim, le-ltb, slice_index}
use Rattle.std.specs.Char.{is_ascii_alphabetic, to_ascii_uppercase}
use Rattle.std.specs.Option.{option_map_or}
use Rattle.std.proofs.lemmas.Bool.{cases_Bool, cond-true, cond-false, cases_lt}
use Rattle.std.proofs.lemmas.Bool.Decides.{nat_tests}
use Rattle.std.proofs.lemmas.List.{append-nil, drop-drop, drop_all, length-take-le, take-append-drop}
use Rattle.cell_refs.specs.declared.references.RefText.{RefText}
use Rattle.cell_refs.specs.Reading.{reference_in}
use Rattle.cell_refs.specs.RefText.{IsReference}
use Rattle.cell_refs.specs.Written.{capitals}
use Rattle.cell_refs.proofs.PublicLaws.{reference_again, reference_takes, reference_capitals}
use Rattle.formula_parse.specs.Lexing.{column_begun, row_begun, mark_len, plain_begun, passes_at}
use Rattle.formula_parse.proofs.LexFacts.LexFirst.{first_passes}
use Rattle.formula_parse.proofs.LexFacts.LexLiving.{live, live_front, live_most, live_within, front_lives, front_joins, ending, column_live, behind_letters, behind_column, column_more, marked}
use Rattle.formula_parse.proofs.LexFacts.LexPlain.{reference_forth, reference_back}
use Rattle.formula_parse.proofs.LexFacts.LexRows.{Start, ColumnMark, Column, Row, next_step, run}
use Rattle.formula_parse.proofs.LexFacts.LexWords.{passes_split}

-- the byte at a place is the first of the text from there on
pub passes_drop : (p : ℕ → Bool) (text : List ℕ) (n : ℕ) → passes_at p text n ≡ first_passes p (drop n text)
passes_drop p text n = ⊎_elim
    (λ past.
    ap (λ b. b && p (slice_index text n)) (le-ltb n (length text) (omega arith))
    ∙ ap (first_passes p) (sym (drop_all n text (omega arith))))
    (λ inside. passes_split p text (take n text) (drop n text) n (sym (take-append-drop n text)) (sym (length-take-le n text inside)))
    (cases_lt (length text) n)

-- the `$` and the digits at a place
tail_at : (text : List ℕ) (n : ℕ) → n + mark_len text n + row_begun 0 (drop (n + mark_len text n) text) ≡ n + behind_letters (drop n text)
tail_at text n =
    let m : mark_len text n ≡ mark_len (drop n text) 0 = ap (λ t. cond t 1 0) (passes_drop (λ b. eqb b 36) text n ∙ sym (passes_drop (λ b. eqb b 36) (drop n text) 0)) in
    let e : row_begun 0 (drop (n + mark_len (drop n text) 0) text) ≡ row_begun 0 (drop (mark_len (drop n text) 0) (drop n text)) = ap (row_begun 0) (sym (drop-drop (mark_len (drop n text) 0) n text)) in
    ap (λ j. n + j + row_begun 0 (drop (n + j) text)) m ∙ omega (arith, e)

-- how much of a text the letters of a column, a `$` and the digits of a row begin with
abbrev letters_begun : List ℕ → ℕ
letters_begun u = cond (eqb (column_begun 0 u) 0) 0 (behind_column 0 u)

-- the `$` of the column, and what begins behind it
plain_is : (text : List ℕ) → plain_begun text ≡ mark_len text 0 + letters_begun (drop (mark_len text 0) text)
plain_is text = by_test (mark_len text 0) (column_begun 0 (drop (mark_len text 0) text)) (eqb (column_begun 0 (drop (mark_len text 0) text)) 0)
  where
    by_test : (first letters : ℕ) (t : Bool) → cond t first (first + letters + mark_len text (first + letters) + row_begun 0 (drop (first + letters + mark_len text (first + letters)) text)) ≡ first + cond t 0 (letters + behind_letters (drop letters (drop first text)))
    by_test first letters true = omega arith
    by_test first letters false =
        let e : behind_letters (drop (first + letters) text) ≡ behind_letters (drop letters (drop first text)) = ap behind_letters (sym (drop-drop letters first text)) in
        tail_at text (first + letters) ∙ omega (arith, e)

-- one more is never 0
some_letters : (k : ℕ) → eqb (k + 1) 0 ≡ false
some_letters k = grind (arith, nat_tests)

-- what begins behind the `$` of a column lives
letters_live : (text : List ℕ) → live ColumnMark text ≡ letters_begun text
unfolding next_step
letters_live [] = refl
letters_live (b ∷ bs) = by_test (is_ascii_alphabetic b && nat_le (26 * 0 + (to_ascii_uppercase b - 64)) 16384) refl
  where
    by_test : (t : Bool) → (is_ascii_alphabetic b && nat_le (26 * 0 + (to_ascii_uppercase b - 64)) 16384) ≡ t → option_map_or (λ next. live next bs + 1) (cond t (Some (Column (26 * 0 + (to_ascii_uppercase b - 64)))) None) 0 ≡ letters_begun (b ∷ bs)
    by_test true e =
        let k = column_begun (26 * 0 + (to_ascii_uppercase b - 64)) bs in
        let c : column_begun 0 (b ∷ bs) ≡ k + 1 = cond-true _ _ _ e in
        let some : eqb (column_begun 0 (b ∷ bs)) 0 ≡ false = ap (λ j. eqb j 0) c ∙ some_letters k in
        ap (λ j. j + 1) (column_live (26 * 0 + (to_ascii_uppercase b - 64)) bs) ∙ sym (cond-false _ _ _ some ∙ column_more 0 b bs k c)
    by_test false e =
        let c : column_begun 0 (b ∷ bs) ≡ 0 = cond-false _ _ _ e in
        sym (ap (λ j. cond (eqb j 0) 0 (j + behind_letters (drop j (b ∷ bs)))) c)

-- what begins a reference lives
start_live : (text : List ℕ) → live Start text ≡ mark_len text 0 + letters_begun (drop (mark_len text 0) text)
unfolding next_step
start_live [] = refl
start_live (b ∷ bs) = ⊎_elim
    (λ m.
    let e : mark_len (b ∷ bs) 0 ≡ 1 = marked b bs ∙ cond-true _ _ _ m in
    ap (λ o. option_map_or (λ next. live next bs + 1) o 0) (cond-true _ _ _ m)
    ∙ (ap (λ j. j + 1) (letters_live bs) ∙ (omega arith ∙ sym (ap (λ j. j + letters_begun (drop j (b ∷ bs))) e))))
    (λ m.
    let e : mark_len (b ∷ bs) 0 ≡ 0 = marked b bs ∙ cond-false _ _ _ m in
    ap (λ o. option_map_or (λ next. live next bs + 1) o 0) (cond-false _ _ _ m)
    ∙ (letters_live (b ∷ bs) ∙ (omega arith ∙ sym (ap (λ j. j + letters_begun (drop j (b ∷ bs))) e))))
    (cases_Bool (eqb b 36))

-- how much of a text begins a reference is how much of it lives
plain_live : (text : List ℕ) → plain_begun text ≡ live Start text
plain_live text = plain_is text ∙ sym (start_live text)

-- what begins a reference is no more than the text
pub plain_within : (text : List ℕ) → plain_begun text ≤ length text
plain_within text = let h = live_within Start text in omega (arith, plain_live text)

-- a reference without a sheet
pub record IsPlain (piece : List ℕ) : Type 0 where
  pub reference : RefText
  pub spelled : capitals piece ≡ reference_capitals reference
  pub inside : IsReference reference
  pub no_sheet : reference.sheet ≡ None

-- a reference is run through to its row
plain_run : (piece : List ℕ) → IsPlain piece → (row : ℕ) × (run Start piece ≡ Some (Row row))
plain_run piece p =
    let e : reference_in (capitals piece) ≡ Some (p.reference, []) = ap reference_in (p.spelled ∙ sym (append-nil (reference_capitals p.reference))) ∙ reference_again p.reference [] p.inside refl in
    reference_forth piece p.reference e p.no_sheet

-- what is run through to a row is a reference
run_plain : (piece : List ℕ) (row : ℕ) → run Start piece ≡ Some (Row row) → IsPlain piece
run_plain piece row h =
    let q = reference_back piece row h in
    let t = reference_takes (capitals piece) (q.0, []) q.1 in
    record { reference = q.0; spelled = t.0 ∙ append-nil (reference_capitals q.0); inside = t.1; no_sheet = q.2 }

-- what has begun goes on to a reference
pub plain_goes_on : (text : List ℕ) → (more : List ℕ) × IsPlain (take (plain_begun text) text ++ more)
plain_goes_on text =
    let f = live_front Start text in
    let e = ending f.0 in
    let g : run Start (take (plain_begun text) text) ≡ Some f.0 = ap (λ n. run Start (take n text)) (plain_live text) ∙ f.1 in
    (e.0, run_plain (take (plain_begun text) text ++ e.0) e.1 (front_joins (take (plain_begun text) text) e.0 Start f.0 g ∙ e.2))

-- no reference goes on with more
pub plain_most : (text : List ℕ) (n : ℕ) (more : List ℕ) → n ≤ length text → IsPlain (take n text ++ more) → n ≤ plain_begun text
plain_most text n more inside p =
    let r = plain_run (take n text ++ more) p in
    let f = front_lives (take n text) more Start (Row r.0) r.1 in
    let h = live_most Start f.0 text n inside f.1 in
    omega (arith, plain_live text)
