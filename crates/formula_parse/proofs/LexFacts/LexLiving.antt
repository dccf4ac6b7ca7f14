-- How much of a text some reference without a sheet begins with.
use Rattle.std.proofs.Common.{◌≡◌, ℕ, ◌+◌, ◌-◌, ◌*◌, ◌≤◌, zero, suc, Bool, true, false, cond, ◌&&◌, eqb, nat_lt, nat_le, List, [], ◌∷◌, ◌++◌, length, take, drop, Option, Some, None, option_and_then, refl, sym, ap, ◌∙◌, arith, ◌⊎◌, ⊎_elim, inl, inr, codes, add-one}
use Rattle.std.specs.Char.{is_ascii_digit, is_ascii_alphabetic, to_ascii_uppercase}
use Rattle.std.specs.Option.{option_map_or}
use Rattle.std.proofs.lemmas.Bool.{cases_Bool, cond-true, cond-false, and_left}
use Rattle.std.proofs.lemmas.Bool.Decides.{nat_tests}
use Rattle.std.proofs.lemmas.Option.{option_and_then_some, same_Some}
use Rattle.formula_parse.specs.Lexing.{column_begun, row_begun, mark_len}
use Rattle.formula_parse.proofs.LexFacts.LexFirst.{passes_seam}
use Rattle.formula_parse.proofs.LexFacts.LexRows.{Step, Start, ColumnMark, Column, RowMark, Row, column_after, next_step, run}

-- how many bytes of a text some reference goes on with
abbrev pub live : Step → List ℕ → ℕ
live s [] = 0
live s (b ∷ bs) = option_map_or (λ next. live next bs + 1) (next_step s b) 0

-- ---- fronts
-- the front of what is run through is run through
pub front_lives : (front rest : List ℕ) (s e : Step) → run s (front ++ rest) ≡ Some e → (t : Step) × (run s front ≡ Some t)
front_lives [] rest s e h = (s, refl)
front_lives (b ∷ bs) rest s e h =
    option_and_then_some (λ t. run t (bs ++ rest)) (next_step s b) e h (λ t step more.
    let q = front_lives bs rest t e more in
    (q.0, ap (option_and_then (λ t. run t bs)) step ∙ q.1))

-- what follows a front is run through behind it
pub front_joins : (front rest : List ℕ) (s t : Step) → run s front ≡ Some t → run s (front ++ rest) ≡ run t rest
front_joins [] rest s t h = ap (λ x. run x rest) (same_Some _ _ h)
front_joins (b ∷ bs) rest s t h =
    option_and_then_some (λ u. run u bs) (next_step s b) t h (λ u step more.
    ap (option_and_then (λ u. run u (bs ++ rest))) step ∙ front_joins bs rest u t more)

-- an answer, or none
cases_option : {A : Type 0} (o : Option A) → (o ≡ None) ⊎ ((x : A) × (o ≡ Some x))
cases_option None = inl refl
cases_option (Some x) = inr (x, refl)

-- how much lives, by the step of the first byte
abbrev len_by : List ℕ → Option Step → ℕ
len_by bs o = option_map_or (λ next. live next bs + 1) o 0

-- the part that lives is run through
pub live_front : (s : Step) (text : List ℕ) → (t : Step) × (run s (take (live s text) text) ≡ Some t)
live_front s [] = (s, refl)
live_front s (b ∷ bs) = ⊎_elim
    (λ none. let e : live s (b ∷ bs) ≡ 0 = ap (len_by bs) none in (s, ap (λ n. run s (take n (b ∷ bs))) e))
    (λ some.
    let e : live s (b ∷ bs) ≡ suc (live some.0 bs) = ap (len_by bs) some.1 ∙ add-one (live some.0 bs) in
    let q = live_front some.0 bs in (
      q.0,
      ap (λ n. run s (take n (b ∷ bs))) e
          ∙ (ap (option_and_then (λ t. run t (take (live some.0 bs) bs))) some.1
          ∙ q.1),
    ))
    (cases_option (next_step s b))

-- what lives is no more than the text
pub live_within : (s : Step) (text : List ℕ) → live s text ≤ length text
live_within s [] = omega arith
live_within s (b ∷ bs) = ⊎_elim
    (λ none. let e : live s (b ∷ bs) ≡ 0 = ap (len_by bs) none in omega arith)
    (λ some. let e : live s (b ∷ bs) ≡ live some.0 bs + 1 = ap (len_by bs) some.1 in let h = live_within some.0 bs in omega arith)
    (cases_option (next_step s b))

-- no longer front lives
pub live_most : (s t : Step) (text : List ℕ) (n : ℕ) → n ≤ length text → run s (take n text) ≡ Some t → n ≤ live s text
live_most s t text zero inside h = omega arith
live_most s t [] (suc n) inside h = absurd (omega arith)
live_most s t (b ∷ bs) (suc n) inside h = ⊎_elim
    (λ none. let e : None ≡ Some t = ap (option_and_then (λ u. run u (take n bs))) (sym none) ∙ h in absurd (cc))
    (λ some.
    let e : live s (b ∷ bs) ≡ live some.0 bs + 1 = ap (len_by bs) some.1 in
    let q = live_most some.0 t bs n (omega arith) (ap (option_and_then (λ u. run u (take n bs))) (sym some.1) ∙ h) in
    omega arith)
    (cases_option (next_step s b))

-- every step goes on to a whole reference
pub ending : (s : Step) → (more : List ℕ) × (row : ℕ) × (run s more ≡ Some (Row row))
unfolding next_step
ending Start = (codes "A1", 1, refl)
ending ColumnMark = (codes "A1", 1, refl)
ending (Column n) = (codes "1", 1, refl)
ending RowMark = (codes "1", 1, refl)
ending (Row n) = ([], n, refl)

-- ---- the length that is computed
-- the digits of a row that live
row_live : (n : ℕ) (text : List ℕ) → (live (Row n) text ≡ row_begun n text)
unfolding next_step
row_live n [] = refl
row_live n (b ∷ bs) = by_test (is_ascii_digit b && (nat_lt 0 (10 * n + (b - 48)) && nat_le (10 * n + (b - 48)) 1048576)) (row_live (10 * n + (b - 48)) bs)
  where
    by_test : (t : Bool) → live (Row (10 * n + (b - 48))) bs ≡ row_begun (10 * n + (b - 48)) bs → option_map_or (λ next. live next bs + 1) (cond t (Some (Row (10 * n + (b - 48)))) None) 0 ≡ cond t (row_begun (10 * n + (b - 48)) bs + 1) 0
    by_test true h = ap (λ k. k + 1) h
    by_test false h = refl

-- the digits behind the `$` of a row that live
row_mark_live : (text : List ℕ) → live RowMark text ≡ row_begun 0 text
unfolding next_step
row_mark_live [] = refl
row_mark_live (b ∷ bs) = row_live 0 (b ∷ bs)

-- what a `$` and the digits of a row come to
abbrev pub behind_letters : List ℕ → ℕ
behind_letters w = mark_len w 0 + row_begun 0 (drop (mark_len w 0) w)

-- the length of a `$`
pub marked : (b : ℕ) (bs : List ℕ) → mark_len (b ∷ bs) 0 ≡ cond (eqb b 36) 1 0
marked b bs = ap (λ t. cond t 1 0) (passes_seam (λ b. eqb b 36) [] (b ∷ bs))

-- a `$` and the digits behind it
behind_mark : (b : ℕ) (bs : List ℕ) → eqb b 36 ≡ true → behind_letters (b ∷ bs) ≡ row_begun 0 bs + 1
behind_mark b bs m =
    let e : mark_len (b ∷ bs) 0 ≡ 1 = marked b bs ∙ cond-true _ _ _ m in
    ap (λ k. k + row_begun 0 (drop k (b ∷ bs))) e ∙ omega arith

-- the digits where there is no `$`
behind_plain : (b : ℕ) (bs : List ℕ) → eqb b 36 ≡ false → behind_letters (b ∷ bs) ≡ row_begun 0 (b ∷ bs)
behind_plain b bs m =
    let e : mark_len (b ∷ bs) 0 ≡ 0 = marked b bs ∙ cond-false _ _ _ m in
    ap (λ k. k + row_begun 0 (drop k (b ∷ bs))) e ∙ omega arith

-- what is no digit begins no row
no_digit_row : (b : ℕ) (bs : List ℕ) → is_ascii_digit b ≡ false → row_begun 0 (b ∷ bs) ≡ 0
no_digit_row b bs d = cond-false _ _ _ (and_left _ _ d)

-- what is no letter begins no column
no_letter_column : (n b : ℕ) (bs : List ℕ) → is_ascii_alphabetic b ≡ false → column_begun n (b ∷ bs) ≡ 0
no_letter_column n b bs l = cond-false _ _ _ (and_left _ _ l)

-- a letter, a digit and a `$` are three
no_letter : (b : ℕ) → (eqb b 36 ≡ true → is_ascii_alphabetic b ≡ false) × (is_ascii_digit b ≡ true → is_ascii_alphabetic b ≡ false) × (is_ascii_digit b ≡ true → eqb b 36 ≡ false) × (is_ascii_alphabetic b ≡ true → eqb b 36 ≡ false) × (is_ascii_alphabetic b ≡ true → is_ascii_digit b ≡ false)
no_letter b = (λ h. grind (arith, nat_tests), λ h. grind (arith, nat_tests), λ h. grind (arith, nat_tests), λ h. grind (arith, nat_tests), λ h. grind (arith, nat_tests))

-- what follows the letters of a column
abbrev pub behind_column : ℕ → List ℕ → ℕ
behind_column n text = column_begun n text + behind_letters (drop (column_begun n text) text)

-- where no letter goes on, the row begins
at_no_column : (n : ℕ) (text : List ℕ) → column_begun n text ≡ 0 → behind_column n text ≡ behind_letters text
at_no_column n text e = ap (λ k. k + behind_letters (drop k text)) e ∙ omega arith

-- one letter more
pub column_more : (n b : ℕ) (bs : List ℕ) (k : ℕ) → column_begun n (b ∷ bs) ≡ k + 1 → behind_column n (b ∷ bs) ≡ k + behind_letters (drop k bs) + 1
column_more n b bs k e =
    let f : column_begun n (b ∷ bs) ≡ suc k = e ∙ add-one k in
    ap (λ j. j + behind_letters (drop j (b ∷ bs))) f ∙ omega arith

-- the letters of a column and what follows them live
pub column_live : (n : ℕ) (text : List ℕ) → live (Column n) text ≡ behind_column n text
unfolding next_step
column_live n [] = refl
column_live n (b ∷ bs) = ⊎_elim
    (λ m.
    let a : live (Column n) (b ∷ bs) ≡ live RowMark bs + 1 = ap (len_by bs) (cond-true _ _ _ m) in
    let c = at_no_column n (b ∷ bs) (no_letter_column n b bs ((no_letter b).0 m)) in
    a ∙ (ap (λ k. k + 1) (row_mark_live bs) ∙ sym (c ∙ behind_mark b bs m)))
    (λ m. ⊎_elim
    (λ d.
    let a : live (Column n) (b ∷ bs) ≡ live (Row 0) (b ∷ bs) = ap (len_by bs) (cond-false _ _ _ m ∙ cond-true _ _ _ d) in
    let c = at_no_column n (b ∷ bs) (no_letter_column n b bs ((no_letter b).1 d)) in
    a ∙ (row_live 0 (b ∷ bs) ∙ sym (c ∙ behind_plain b bs m)))
    (λ d.
    let a : live (Column n) (b ∷ bs) ≡ len_by bs (column_after n b) = ap (len_by bs) (cond-false _ _ _ m ∙ cond-false _ _ _ d) in
    a ∙ by_test m d (is_ascii_alphabetic b && nat_le (26 * n + (to_ascii_uppercase b - 64)) 16384) refl (column_live (26 * n + (to_ascii_uppercase b - 64)) bs))
    (cases_Bool (is_ascii_digit b)))
    (cases_Bool (eqb b 36))
  where
    next : ℕ
    next = 26 * n + (to_ascii_uppercase b - 64)

    by_test : eqb b 36 ≡ false → is_ascii_digit b ≡ false → (t : Bool) → (is_ascii_alphabetic b && nat_le (26 * n + (to_ascii_uppercase b - 64)) 16384) ≡ t → live (Column (26 * n + (to_ascii_uppercase b - 64))) bs ≡ behind_column (26 * n + (to_ascii_uppercase b - 64)) bs → len_by bs (cond t (Some (Column (26 * n + (to_ascii_uppercase b - 64)))) None) ≡ behind_column n (b ∷ bs)
    by_test m d true e h = ap (λ k. k + 1) h ∙ sym (column_more n b bs (column_begun (26 * n + (to_ascii_uppercase b - 64)) bs) (cond-true _ _ _ e))
    by_test m d false e h = sym (at_no_column n (b ∷ bs) (cond-false _ _ _ e) ∙ (behind_plain b bs m ∙ no_digit_row b bs d))
