-- The column of a reference, byte by byte.
use Rattle.std.proofs.Common.{◌≡◌, ℕ, ◌+◌, ◌-◌, ◌*◌, ◌<◌, ◌≤◌, true, false, eqb, List, [], ◌∷◌, length, drop, fold, take_while, Some, None, option_and_then, refl, sym, ap, ◌∙◌, arith, ltb-true, leb-true, le-leb, lt-ltb, ⊎_elim, le_trans}
use Rattle.std.specs.Char.{is_ascii_digit, is_ascii_alphabetic, is_ascii_uppercase, to_ascii_uppercase}
use Rattle.std.proofs.lemmas.Bool.Decides.{nat_tests}
use Rattle.std.proofs.lemmas.Bool.{and_parts, and_from, and_left, cases_Bool, cond-true, cond-false}
use Rattle.std.proofs.lemmas.Option.{cond_some, option_and_then_some}
use Rattle.cell_refs.specs.Reading.{number_at, mark_at, column_at, column_number}
use Rattle.cell_refs.specs.Written.{capitals}
use Rattle.formula_parse.proofs.LexFacts.LexRows.{Step, Column, RowMark, Row, column_after, row_after, next_step, run, letter_upper, column_step, column_step_parts, span_yes, span_no, letters, after_letters, number_forth, number_back}

-- what a column that is read consists of
pub column_parts : (text : List ℕ) (column : ℕ) (rest : List ℕ) → column_at text ≡ Some (column, rest) → (0 < length (take_while is_ascii_uppercase text)) × (column_number (take_while is_ascii_uppercase text) ≤ 16384) × (column_number (take_while is_ascii_uppercase text) ≡ column) × (drop (length (take_while is_ascii_uppercase text)) text ≡ rest)
unfolding column_at
column_parts text column rest h =
    let p = cond_some _ _ _ h in
    let q = and_parts _ _ p.0 in
    let r = and_parts _ _ q.0 in
    (ltb-true _ _ r.0, leb-true _ _ q.1, ap (λ x. x.0) p.1, ap (λ x. x.1) p.1)

-- a column that is read, from its parts
pub column_from : (text : List ℕ) → 0 < length (take_while is_ascii_uppercase text) → length (take_while is_ascii_uppercase text) ≤ 3 → column_number (take_while is_ascii_uppercase text) ≤ 16384 → column_at text ≡ Some (column_number (take_while is_ascii_uppercase text), drop (length (take_while is_ascii_uppercase text)) text)
unfolding column_at
column_from text some few high = cond-true _ _ _ (and_from _ _ (and_from _ _ (lt-ltb _ _ some) (le-leb _ _ few)) (le-leb _ _ high))

-- ---- columns
-- the column of letters behind the column n
abbrev pub letter_fold : ℕ → List ℕ → ℕ
letter_fold n letters = fold (λ n letter. 26 * n + (letter - 64)) n letters

-- letters only make a column greater
pub column_grows : (n : ℕ) (ls : List ℕ) → n ≤ letter_fold n ls
column_grows n [] = omega arith
column_grows n (l ∷ ls) = let h = column_grows (26 * n + (l - 64)) ls in omega arith

-- a letter is neither `$` nor a digit
pub letter_is : (b : ℕ) → is_ascii_alphabetic b ≡ true → (eqb b 36 ≡ false) × (is_ascii_digit b ≡ false)
letter_is b l = (grind (arith, nat_tests), grind (arith, nat_tests))

-- a letter goes on with a column
pub letter_next : (n b : ℕ) → is_ascii_alphabetic b ≡ true → next_step (Column n) b ≡ column_after n b
unfolding next_step
letter_next n b l = let p = letter_is b l in cond-false _ _ _ p.0 ∙ cond-false _ _ _ p.1

-- the letters of a column are read, and what follows them
pub column_forth : (n : ℕ) (v : List ℕ) → letter_fold n (letters v) ≤ 16384 → (x : List ℕ) × (capitals x ≡ after_letters v) × (run (Column n) v ≡ run (Column (letter_fold n (letters v))) x)
column_forth n [] high = ([], refl, refl)
column_forth n (b ∷ bs) high = ⊎_elim
    (λ l.
    let s = span_yes is_ascii_uppercase (to_ascii_uppercase b) (capitals bs) l in
    let e : is_ascii_alphabetic b ≡ true = sym (letter_upper b) ∙ l in
    let v : letter_fold n (letters (b ∷ bs)) ≡ letter_fold (26 * n + (to_ascii_uppercase b - 64)) (letters bs) = ap (letter_fold n) s.0 in
    let small : letter_fold (26 * n + (to_ascii_uppercase b - 64)) (letters bs) ≤ 16384 = omega arith in
    let step = letter_next n b e ∙ column_step n b e (le_trans (column_grows _ (letters bs)) small) in
    let q = column_forth (26 * n + (to_ascii_uppercase b - 64)) bs small in
    (q.0, q.1 ∙ sym s.1, ap (option_and_then (λ t. run t bs)) step ∙ q.2 ∙ ap (λ m. run (Column m) q.0) (sym v)))
    (λ no.
    let s = span_no is_ascii_uppercase (to_ascii_uppercase b) (capitals bs) no in
    (b ∷ bs, sym s.1, ap (λ ls. run (Column (letter_fold n ls)) (b ∷ bs)) (sym s.0)))
    (cases_Bool (is_ascii_uppercase (to_ascii_uppercase b)))

-- the text begins with no letter
abbrev pub NoLetter : List ℕ → Type 0
NoLetter [] = Unit {0}
NoLetter (b ∷ bs) = is_ascii_alphabetic b ≡ false

-- what the bytes of a column come to, and what follows them
pub column_back : (n : ℕ) (v : List ℕ) (s : Step) → run (Column n) v ≡ Some s → n ≤ 16384 → (x : List ℕ) × (capitals x ≡ after_letters v) × (run (Column (letter_fold n (letters v))) x ≡ Some s) × NoLetter x × (letter_fold n (letters v) ≤ 16384)
column_back n [] s h small = ([], refl, h, tt, small)
column_back n (b ∷ bs) s h small = ⊎_elim
    (λ l.
    let sp = span_yes is_ascii_uppercase (to_ascii_uppercase b) (capitals bs) l in
    let e : is_ascii_alphabetic b ≡ true = sym (letter_upper b) ∙ l in
    let v : letter_fold n (letters (b ∷ bs)) ≡ letter_fold (26 * n + (to_ascii_uppercase b - 64)) (letters bs) = ap (letter_fold n) sp.0 in
    option_and_then_some (λ t. run t bs) (next_step (Column n) b) s h (λ t step rest.
    let p = column_step_parts n b t (sym (letter_next n b e) ∙ step) in
    let q = column_back (26 * n + (to_ascii_uppercase b - 64)) bs s (ap (λ x. run x bs) p.2 ∙ rest) p.1 in
    (q.0, q.1 ∙ sym sp.1, ap (λ m. run (Column m) q.0) v ∙ q.2, q.3, omega (arith, q.4))))
    (λ no.
    let sp = span_no is_ascii_uppercase (to_ascii_uppercase b) (capitals bs) no in
    let v : letter_fold n (letters (b ∷ bs)) ≡ n = ap (letter_fold n) sp.0 in
    (b ∷ bs, sym sp.1, ap (λ ls. run (Column (letter_fold n ls)) (b ∷ bs)) sp.0 ∙ h, sym (letter_upper b) ∙ no, omega arith))
    (cases_Bool (is_ascii_uppercase (to_ascii_uppercase b)))

-- ---- the `$` of a row
-- a `$` is one in upper case too
pub dollar_upper : (b : ℕ) → eqb (to_ascii_uppercase b) 36 ≡ eqb b 36
dollar_upper b = grind (arith, nat_tests)

-- a `$` is taken
pub mark_yes : (b : ℕ) (bs : List ℕ) → eqb b 36 ≡ true → mark_at (capitals (b ∷ bs)) ≡ (true, capitals bs)
unfolding mark_at
mark_yes b bs h = cond-true _ _ _ (dollar_upper b ∙ h)

-- what is no `$` is left
pub mark_no : (b : ℕ) (bs : List ℕ) → eqb b 36 ≡ false → mark_at (capitals (b ∷ bs)) ≡ (false, capitals (b ∷ bs))
unfolding mark_at
mark_no b bs h = cond-false _ _ _ (dollar_upper b ∙ h)

-- a digit is no `$`
pub digit_no_mark : (b : ℕ) → is_ascii_digit b ≡ true → eqb b 36 ≡ false
digit_no_mark b d = grind (arith, nat_tests)

-- behind a column, a digit begins the row
pub digit_next : (n b : ℕ) → is_ascii_digit b ≡ true → next_step (Column n) b ≡ row_after 0 b
unfolding next_step
digit_next n b d = cond-false _ _ _ (digit_no_mark b d) ∙ cond-true _ _ _ d

-- behind a column, a `$` marks the row
pub mark_next : (n b : ℕ) → eqb b 36 ≡ true → next_step (Column n) b ≡ Some RowMark
unfolding next_step
mark_next n b h = cond-true _ _ _ h

-- behind its `$`, a row is read as without one
pub row_mark : (w : List ℕ) (b : ℕ) (bs : List ℕ) → w ≡ b ∷ bs → run RowMark w ≡ run (Row 0) w
unfolding next_step
row_mark [] b bs e = cc
row_mark (c ∷ cs) b bs e = refl

-- the row behind a column is read byte for byte
pub row_forth_from : (n row : ℕ) (x : List ℕ) → number_at 1048576 (mark_at (capitals x)).1 ≡ Some (row, []) → run (Column n) x ≡ Some (Row row)
unfolding mark_at next_step
row_forth_from n row [] h = let f = number_forth [] row h in cc
row_forth_from n row (b ∷ bs) h = ⊎_elim
    (λ m.
    let f = number_forth bs row (ap (λ y. number_at 1048576 y.1) (sym (mark_yes b bs m)) ∙ h) in
    ap (option_and_then (λ t. run t bs)) (mark_next n b m) ∙ row_mark bs f.0 f.1 f.2 ∙ f.4)
    (λ no.
    let f = number_forth (b ∷ bs) row (ap (λ y. number_at 1048576 y.1) (sym (mark_no b bs no)) ∙ h) in
    let same : b ≡ f.0 = cc (f.2) in
    ap (option_and_then (λ t. run t bs)) (digit_next n b (ap is_ascii_digit same ∙ f.3)) ∙ f.4)
    (cases_Bool (eqb b 36))

-- what is read behind the `$` of a row is its number
pub row_mark_back : (w : List ℕ) (row : ℕ) → run RowMark w ≡ Some (Row row) → number_at 1048576 (capitals w) ≡ Some (row, [])
row_mark_back [] row h = cc
row_mark_back (c ∷ cs) row h = (number_back c cs row (sym (row_mark (c ∷ cs) c cs refl) ∙ h)).1

-- what is no letter goes on with no column
pub no_column : (n b : ℕ) → is_ascii_alphabetic b ≡ false → column_after n b ≡ None
no_column n b h = cond-false _ _ _ (and_left _ _ h)

-- what is read behind a column is its row
pub row_back_from : (n row : ℕ) (x : List ℕ) → NoLetter x → run (Column n) x ≡ Some (Row row) → number_at 1048576 (mark_at (capitals x)).1 ≡ Some (row, [])
unfolding next_step
row_back_from n row [] none h = cc
row_back_from n row (b ∷ bs) none h = ⊎_elim
    (λ m. ap (λ y. number_at 1048576 y.1) (mark_yes b bs m) ∙ row_mark_back bs row (ap (option_and_then (λ t. run t bs)) (sym (mark_next n b m)) ∙ h))
    (λ no. ap (λ y. number_at 1048576 y.1) (mark_no b bs no) ∙ ⊎_elim
    (λ d. (number_back b bs row (ap (option_and_then (λ t. run t bs)) (sym (digit_next n b d)) ∙ h)).1)
    (λ other. let e : next_step (Column n) b ≡ None = cond-false _ _ _ no ∙ cond-false _ _ _ other ∙ no_column n b none in
    let dead : None ≡ Some (Row row) = ap (option_and_then (λ t. run t bs)) (sym e) ∙ h in cc)
    (cases_Bool (is_ascii_digit b)))
    (cases_Bool (eqb b 36))

-- ---- at most three letters
-- from 703 on, no letter goes on with a column
pub few_none : (n : ℕ) (u : List ℕ) → 703 ≤ n → letter_fold n (take_while is_ascii_uppercase u) ≤ 16384 → length (take_while is_ascii_uppercase u) ≤ 0
few_none n [] low high = omega arith
few_none n (b ∷ bs) low high = ⊎_elim
    (λ l. let s = span_yes is_ascii_uppercase b bs l in
    let v : letter_fold n (take_while is_ascii_uppercase (b ∷ bs)) ≡ letter_fold (26 * n + (b - 64)) (take_while is_ascii_uppercase bs) = ap (letter_fold n) s.0 in
    let grows = column_grows (26 * n + (b - 64)) (take_while is_ascii_uppercase bs) in
    absurd (omega arith))
    (λ no. let s = span_no is_ascii_uppercase b bs no in omega (arith, ap length s.0))
    (cases_Bool (is_ascii_uppercase b))

-- a letter counts at least 1
pub uppercase_value : (b : ℕ) → is_ascii_uppercase b ≡ true → 1 ≤ b - 64
uppercase_value b l = grind (arith, nat_tests)

-- one letter more
pub few_step : (low k : ℕ) → ((m : ℕ) (u : List ℕ) → 26 * low + 1 ≤ m → letter_fold m (take_while is_ascii_uppercase u) ≤ 16384 → length (take_while is_ascii_uppercase u) ≤ k) → (n : ℕ) (u : List ℕ) → low ≤ n → letter_fold n (take_while is_ascii_uppercase u) ≤ 16384 → length (take_while is_ascii_uppercase u) ≤ k + 1
few_step low k more n [] at_least high = omega arith
few_step low k more n (b ∷ bs) at_least high = ⊎_elim
    (λ l. let s = span_yes is_ascii_uppercase b bs l in
    let v : letter_fold n (take_while is_ascii_uppercase (b ∷ bs)) ≡ letter_fold (26 * n + (b - 64)) (take_while is_ascii_uppercase bs) = ap (letter_fold n) s.0 in
    let q = more (26 * n + (b - 64)) bs (omega (arith, uppercase_value b l)) (omega arith) in
    let len : length (take_while is_ascii_uppercase (b ∷ bs)) ≡ length (b ∷ take_while is_ascii_uppercase bs) = ap length s.0 in
    omega arith)
    (λ no. let s = span_no is_ascii_uppercase b bs no in omega (arith, ap length s.0))
    (cases_Bool (is_ascii_uppercase b))

-- a column inside the grid has at most three letters
pub few_letters : (u : List ℕ) → column_number (take_while is_ascii_uppercase u) ≤ 16384 → length (take_while is_ascii_uppercase u) ≤ 3
unfolding column_number
few_letters u high = few_step 0 2 (few_step 1 1 (few_step 27 0 few_none)) 0 u (omega arith) high
