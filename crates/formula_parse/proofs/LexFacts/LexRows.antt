-- The row of a reference, byte by byte.
use Rattle.std.proofs.Common.{◌≡◌, ℕ, ◌+◌, ◌-◌, ◌*◌, ◌<◌, ◌≤◌, Bool, true, false, ◌&&◌, if◌then◌else◌, ◌==◌, nat_lt, nat_le, List, [], ◌∷◌, length, drop, take_while, Option, Some, None, option_and_then, refl, sym, ap, ◌∙◌, arith, ltb-true, leb-true, le-leb, lt-ltb, slice_index, ⊎_elim, le_trans}
use Rattle.std.specs.Char.{is_ascii_digit, is_ascii_alphabetic, is_ascii_uppercase, to_ascii_uppercase, digit_value}
use Rattle.std.specs.Str.Parse.{digits_value, digits_value_after}
use Rattle.std.proofs.lemmas.Bool.Decides.{nat_tests}
use Rattle.std.proofs.lemmas.Bool.{and_parts, and_from, cases_Bool, cond-true, cond-false}
use Rattle.std.proofs.lemmas.List.Sums.{take_while-cons}
use Rattle.std.proofs.lemmas.Option.{cond_some, option_and_then_some}
use Rattle.cell_refs.specs.Reading.{number_at}
use Rattle.cell_refs.specs.Written.{capitals}

-- how far a reference without a sheet has been read: nothing, the `$` of its column, letters that name a column so far, the `$` of its row, or digits of a row
pub data Step : Type 0 where
  Start : Step
  ColumnMark : Step
  Column : ℕ → Step
  RowMark : Step
  Row : ℕ → Step

-- a further letter of a column inside the grid
abbrev pub column_after : ℕ → ℕ → Option Step
column_after n b =
    let column = 26 * n + (to_ascii_uppercase b - 64) in
    if is_ascii_alphabetic b && nat_le column 16384 then Some (Column column) else None

-- a further digit of a row inside the grid
abbrev pub row_after : ℕ → ℕ → Option Step
row_after n b =
    let row = 10 * n + (b - 48) in
    if is_ascii_digit b && (nat_lt 0 row && nat_le row 1048576) then Some (Row row) else None

-- one more byte, where some reference goes on with it
unfoldable pub next_step : Step → ℕ → Option Step
next_step Start b = if b == 36 then Some ColumnMark else column_after 0 b
next_step ColumnMark b = column_after 0 b
next_step (Column n) b = if b == 36 then Some RowMark else (if is_ascii_digit b then row_after 0 b else column_after n b)
next_step RowMark b = row_after 0 b
next_step (Row n) b = row_after n b

-- all the bytes of a piece
abbrev pub run : Step → List ℕ → Option Step
run s [] = Some s
run s (b ∷ bs) = option_and_then (λ t. run t bs) (next_step s b)

-- ---- one byte
-- a digit is one in upper case too
pub digit_upper : (b : ℕ) → is_ascii_digit (to_ascii_uppercase b) ≡ is_ascii_digit b
digit_upper b = grind (arith, nat_tests)

-- a letter is a capital one in upper case
pub letter_upper : (b : ℕ) → is_ascii_uppercase (to_ascii_uppercase b) ≡ is_ascii_alphabetic b
letter_upper b = grind (arith, nat_tests)

-- a digit stays in upper case
pub upper_digit : (b : ℕ) → is_ascii_digit b ≡ true → to_ascii_uppercase b ≡ b
upper_digit b d = grind (arith, nat_tests)

-- a digit goes on with a row inside the grid
pub row_step : (n b : ℕ) → is_ascii_digit b ≡ true → 0 < 10 * n + (b - 48) → 10 * n + (b - 48) ≤ 1048576 → row_after n b ≡ Some (Row (10 * n + (b - 48)))
row_step n b d low high =
    cond-true _ _ _ (and_from _ _ d (and_from _ _ (lt-ltb _ _ low) (le-leb _ _ high)))

-- what goes on with a row is a digit inside the grid
pub row_step_parts : (n b : ℕ) (s : Step) → row_after n b ≡ Some s → (is_ascii_digit b ≡ true) × (0 < 10 * n + (b - 48)) × (10 * n + (b - 48) ≤ 1048576) × (Row (10 * n + (b - 48)) ≡ s)
row_step_parts n b s h =
    let p = cond_some _ _ _ h in
    let q = and_parts _ _ p.0 in
    let r = and_parts _ _ q.1 in
    (q.0, ltb-true _ _ r.0, leb-true _ _ r.1, p.1)

-- a letter goes on with a column inside the grid
pub column_step : (n b : ℕ) → is_ascii_alphabetic b ≡ true → 26 * n + (to_ascii_uppercase b - 64) ≤ 16384 → column_after n b ≡ Some (Column (26 * n + (to_ascii_uppercase b - 64)))
column_step n b l high = cond-true _ _ _ (and_from _ _ l (le-leb _ _ high))

-- what goes on with a column is a letter inside the grid
pub column_step_parts : (n b : ℕ) (s : Step) → column_after n b ≡ Some s → (is_ascii_alphabetic b ≡ true) × (26 * n + (to_ascii_uppercase b - 64) ≤ 16384) × (Column (26 * n + (to_ascii_uppercase b - 64)) ≡ s)
column_step_parts n b s h =
    let p = cond_some _ _ _ h in
    let q = and_parts _ _ p.0 in
    (q.0, leb-true _ _ q.1, p.1)

-- ---- rows
-- the value of a digit
pub digit_is : (b : ℕ) → is_ascii_digit b ≡ true → digit_value (to_ascii_uppercase b) ≡ b - 48
digit_is b d = grind (arith, nat_tests)

-- ---- the front of a list that passes a test, and the rest
-- a byte that passes is in the front
pub span_yes : (p : ℕ → Bool) (x : ℕ) (xs : List ℕ) → p x ≡ true → (take_while p (x ∷ xs) ≡ x ∷ take_while p xs) × (drop (length (take_while p (x ∷ xs))) (x ∷ xs) ≡ drop (length (take_while p xs)) xs)
span_yes p x xs h =
    let e : take_while p (x ∷ xs) ≡ x ∷ take_while p xs = take_while-cons p x xs ∙ cond-true (p x) _ _ h in
    (e, ap (λ t. drop (length t) (x ∷ xs)) e)

-- a byte that doesn't pass ends the front
pub span_no : (p : ℕ → Bool) (x : ℕ) (xs : List ℕ) → p x ≡ false → (take_while p (x ∷ xs) ≡ []) × (drop (length (take_while p (x ∷ xs))) (x ∷ xs) ≡ x ∷ xs)
span_no p x xs h =
    let e : take_while p (x ∷ xs) ≡ [] = take_while-cons p x xs ∙ cond-false (p x) _ _ h in
    (e, ap (λ t. drop (length t) (x ∷ xs)) e)

-- the digits at the front
abbrev pub digits : List ℕ → List ℕ
digits w = take_while is_ascii_digit (capitals w)

-- what follows the digits
abbrev pub after_digits : List ℕ → List ℕ
after_digits w = drop (length (digits w)) (capitals w)

-- the letters at the front
abbrev pub letters : List ℕ → List ℕ
letters w = take_while is_ascii_uppercase (capitals w)

-- what follows the letters
abbrev pub after_letters : List ℕ → List ℕ
after_letters w = drop (length (letters w)) (capitals w)

-- ---- rows
-- digits only make a number greater
pub value_grows : (n : ℕ) (ds : List ℕ) → n ≤ digits_value_after 10 n ds
value_grows n [] = omega arith
value_grows n (d ∷ ds) = let h = value_grows (n * 10 + digit_value d) ds in omega arith

-- digits inside the grid are read byte for byte
pub row_forth : (n : ℕ) (w : List ℕ) → 0 < n → after_digits w ≡ [] → digits_value_after 10 n (digits w) ≤ 1048576 → run (Row n) w ≡ Some (Row (digits_value_after 10 n (digits w)))
unfolding next_step
row_forth n [] some all low = refl
row_forth n (b ∷ bs) some all low = ⊎_elim
    (λ d.
    let s = span_yes is_ascii_digit (to_ascii_uppercase b) (capitals bs) d in
    let e : is_ascii_digit b ≡ true = sym (digit_upper b) ∙ d in
    let next : n * 10 + digit_value (to_ascii_uppercase b) ≡ 10 * n + (b - 48) = omega (arith, digit_is b e) in
    let v : digits_value_after 10 n (digits (b ∷ bs)) ≡ digits_value_after 10 (10 * n + (b - 48)) (digits bs) = ap (digits_value_after 10 n) s.0 ∙ ap (λ m. digits_value_after 10 m (digits bs)) next in
    let small : digits_value_after 10 (10 * n + (b - 48)) (digits bs) ≤ 1048576 = omega arith in
    let step = row_step n b e (omega arith) (le_trans (value_grows _ (digits bs)) small) in
    ap (option_and_then (λ t. run t bs)) step ∙ row_forth (10 * n + (b - 48)) bs (omega arith) (sym s.1 ∙ all) small ∙ ap (λ m. Some (Row m)) (sym v))
    (λ no. let s = span_no is_ascii_digit (to_ascii_uppercase b) (capitals bs) no in let t = sym s.1 ∙ all in cc)
    (cases_Bool (is_ascii_digit (to_ascii_uppercase b)))

-- digits alone, which name this row inside the grid
abbrev pub RowOf : ℕ → List ℕ → Step → Type 0
RowOf n w s = (after_digits w ≡ []) × (s ≡ Row (digits_value_after 10 n (digits w))) × (n ≤ 1048576 → digits_value_after 10 n (digits w) ≤ 1048576)

-- what is read byte for byte is digits inside the grid
pub row_back : (n : ℕ) (w : List ℕ) (s : Step) → run (Row n) w ≡ Some s → RowOf n w s
unfolding next_step
row_back n [] s h = (refl, cc, λ small. small)
row_back n (b ∷ bs) s h =
    option_and_then_some (λ t. run t bs) (row_after n b) s h (λ t step rest.
    let p = row_step_parts n b t step in
    let q = row_back (10 * n + (b - 48)) bs s (ap (λ x. run x bs) p.3 ∙ rest) in
    let sp = span_yes is_ascii_digit (to_ascii_uppercase b) (capitals bs) (digit_upper b ∙ p.0) in
    let next : n * 10 + digit_value (to_ascii_uppercase b) ≡ 10 * n + (b - 48) = omega (arith, digit_is b p.0) in
    let v : digits_value_after 10 n (digits (b ∷ bs)) ≡ digits_value_after 10 (10 * n + (b - 48)) (digits bs) = ap (digits_value_after 10 n) sp.0 ∙ ap (λ m. digits_value_after 10 m (digits bs)) next in
    let small = q.2 p.2 in
    (sp.1 ∙ q.0, q.1 ∙ ap Row (sym v), λ _. omega arith))

-- ---- the parts of what the readers of references answer
-- what a number that is read consists of
pub number_parts : (limit : ℕ) (text : List ℕ) (row : ℕ) (rest : List ℕ) → number_at limit text ≡ Some (row, rest) → (48 < slice_index (take_while is_ascii_digit text) 0) × (digits_value 10 (take_while is_ascii_digit text) ≤ limit) × (digits_value 10 (take_while is_ascii_digit text) ≡ row) × (drop (length (take_while is_ascii_digit text)) text ≡ rest)
unfolding number_at
number_parts limit text row rest h =
    let p = cond_some _ _ _ h in
    let q = and_parts _ _ p.0 in
    (ltb-true _ _ q.0, leb-true _ _ q.1, ap (λ x. x.0) p.1, ap (λ x. x.1) p.1)

-- a number that is read, from its parts
pub number_from : (limit : ℕ) (text : List ℕ) → 48 < slice_index (take_while is_ascii_digit text) 0 → digits_value 10 (take_while is_ascii_digit text) ≤ limit → number_at limit text ≡ Some (digits_value 10 (take_while is_ascii_digit text), drop (length (take_while is_ascii_digit text)) text)
unfolding number_at
number_from limit text low high = cond-true _ _ _ (and_from _ _ (lt-ltb _ _ low) (le-leb _ _ high))

-- ---- a row and its number
-- a first digit that is not 0
pub first_digit : (b : ℕ) (bs : List ℕ) → 48 < slice_index (digits (b ∷ bs)) 0 → (is_ascii_digit b ≡ true) × (48 < b)
first_digit b bs h = ⊎_elim
    (λ d.
    let s = span_yes is_ascii_digit (to_ascii_uppercase b) (capitals bs) d in
    let e : is_ascii_digit b ≡ true = sym (digit_upper b) ∙ d in
    let u : slice_index (digits (b ∷ bs)) 0 ≡ to_ascii_uppercase b = ap (λ ds. slice_index ds 0) s.0 in
    (e, omega (arith, upper_digit b e)))
    (λ no. let s = span_no is_ascii_digit (to_ascii_uppercase b) (capitals bs) no in
    let u : slice_index (digits (b ∷ bs)) 0 ≡ 0 = ap (λ ds. slice_index ds 0) s.0 in absurd (omega arith))
    (cases_Bool (is_ascii_digit (to_ascii_uppercase b)))

-- a row is read with the same digits as its number
pub number_forth : (w : List ℕ) (row : ℕ) → number_at 1048576 (capitals w) ≡ Some (row, []) → (b : ℕ) × (bs : List ℕ) × (w ≡ b ∷ bs) × (is_ascii_digit b ≡ true) × (run (Row 0) w ≡ Some (Row row))
unfolding next_step
number_forth [] row h = let p = number_parts _ _ _ _ h in absurd (omega (arith, p.0))
number_forth (b ∷ bs) row h =
    let p = number_parts _ _ _ _ h in
    let d = first_digit b bs p.0 in
    let sp = span_yes is_ascii_digit (to_ascii_uppercase b) (capitals bs) (digit_upper b ∙ d.0) in
    let next : 0 * 10 + digit_value (to_ascii_uppercase b) ≡ 10 * 0 + (b - 48) = omega (arith, digit_is b d.0) in
    let v : digits_value 10 (digits (b ∷ bs)) ≡ digits_value_after 10 (10 * 0 + (b - 48)) (digits bs) = ap (digits_value_after 10 0) sp.0 ∙ ap (λ m. digits_value_after 10 m (digits bs)) next in
    let small : digits_value_after 10 (10 * 0 + (b - 48)) (digits bs) ≤ 1048576 = omega (arith, p.1) in
    let step = row_step 0 b d.0 (omega (arith, d.1)) (le_trans (value_grows _ (digits bs)) small) in
    (b, bs, refl, d.0, ap (option_and_then (λ t. run t bs)) step ∙ row_forth (10 * 0 + (b - 48)) bs (omega (arith, d.1)) (sym sp.1 ∙ p.3) small ∙ ap (λ m. Some (Row m)) (sym v ∙ p.2))

-- one row has one number
pub same_row : (a b : ℕ) → Row a ≡ Row b → a ≡ b
same_row a b h = cc

-- what is read byte for byte is a number
pub number_back : (c : ℕ) (cs : List ℕ) (row : ℕ) → run (Row 0) (c ∷ cs) ≡ Some (Row row) → (is_ascii_digit c ≡ true) × (number_at 1048576 (capitals (c ∷ cs)) ≡ Some (row, []))
unfolding next_step
number_back c cs row h =
    option_and_then_some (λ t. run t cs) (row_after 0 c) (Row row) h (λ t step rest.
    let p = row_step_parts 0 c t step in
    let q = row_back (10 * 0 + (c - 48)) cs (Row row) (ap (λ x. run x cs) p.3 ∙ rest) in
    let sp = span_yes is_ascii_digit (to_ascii_uppercase c) (capitals cs) (digit_upper c ∙ p.0) in
    let next : 0 * 10 + digit_value (to_ascii_uppercase c) ≡ 10 * 0 + (c - 48) = omega (arith, digit_is c p.0) in
    let v : digits_value 10 (digits (c ∷ cs)) ≡ digits_value_after 10 (10 * 0 + (c - 48)) (digits cs) = ap (digits_value_after 10 0) sp.0 ∙ ap (λ m. digits_value_after 10 m (digits cs)) next in
    let row_is : row ≡ digits_value_after 10 (10 * 0 + (c - 48)) (digits cs) = same_row row (digits_value_after 10 (10 * 0 + (c - 48)) (digits cs)) q.1 in
    let u : slice_index (digits (c ∷ cs)) 0 ≡ to_ascii_uppercase c = ap (λ ds. slice_index ds 0) sp.0 in
    let value : digits_value 10 (digits (c ∷ cs)) ≡ row = v ∙ sym row_is in
    let none : after_digits (c ∷ cs) ≡ [] = sp.1 ∙ q.0 in (
      p.0,
      number_from 1048576 (capitals (c ∷ cs)) (omega (arith, upper_digit c p.0)) (omega (arith, q.2 p.2))
          ∙ (ap (λ x. Some (x, after_digits (c ∷ cs))) value ∙ ap (λ y. Some (row, y)) none),
    ))
