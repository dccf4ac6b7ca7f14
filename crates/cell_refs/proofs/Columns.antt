-- A column at the front of a text, both ways.
use Rattle.std.proofs.Common.{◌≡◌, ℕ, zero, suc, ◌+◌, ◌-◌, ◌*◌, ◌%◌, ◌≤◌, Bool, true, false, cond, ◌&&◌, ◌==◌, nat_lt, nat_le, List, [], ◌∷◌, ◌++◌, length, drop, take_while, slice_index, Option, Some, None, refl, ap, sym, ◌∙◌, arith}
use Rattle.std.proofs.lemmas.Bool.Decides.{nat_tests}
use Rattle.std.proofs.lemmas.List.Sums.{take_while-cons}
use Rattle.std.proofs.Math.Seq.{drop-append_seam}
use Rattle.std.specs.Char.{is_ascii_uppercase}
use Rattle.std.specs.List.{list_all}
use Rattle.cell_refs.specs.Reading.{column_at, column_number}
use Rattle.cell_refs.specs.Written.{column_letters, last_letter, rounds_before}
use Rattle.cell_refs.proofs.Numbers.{front_and_rest, let_through, rest_stops, take_while-append}

-- n has gone round q times, and its last letter is the one at the place r of the alphabet
round_is : (n q r : ℕ) → n ≡ 26 * q + r → 1 ≤ r → r ≤ 26 → rounds_before n ≡ q
round_is n q r e low high = omega arith

chosen_letter : (b : Bool) (v w : ℕ) → b ≡ false → v ≡ w → cond b [] (v ∷ []) ≡ w ∷ []
chosen_letter b v w out same = rw (out, same) refl

letter_is : (n q r : ℕ) → n ≡ 26 * q + r → 1 ≤ r → r ≤ 26 → last_letter n ≡ (64 + r) ∷ []
letter_is n q r e low high = chosen_letter (n == 0) (65 + (n - 1) % 26) (64 + r) (grind (arith, nat_tests)) (omega arith)

letters_by_rounds : (n q p : ℕ) → rounds_before n ≡ q → rounds_before q ≡ p → column_letters n ≡ last_letter p ++ (last_letter q ++ last_letter n)
unfolding column_letters
letters_by_rounds n q p e f = ap (λ p. last_letter p ++ (last_letter (rounds_before n) ++ last_letter n)) (ap rounds_before e ∙ f) ∙ ap (λ q. last_letter p ++ (last_letter q ++ last_letter n)) e

-- a column from 1 on is a number of rounds and a place in the alphabet
column_parts : (n : ℕ) → 1 ≤ n → (r : ℕ) × (1 ≤ r) × (r ≤ 26) × (n ≡ 26 * rounds_before n + r)
column_parts n some = ((n - 1) % 26 + 1, omega arith, omega arith, omega arith)

one_letter : (n a : ℕ) → n ≡ a → 1 ≤ a → a ≤ 26 → column_letters n ≡ (64 + a) ∷ []
one_letter n a e low high = letters_by_rounds n 0 0 (omega arith) refl ∙ letter_is n 0 a (omega arith) low high

two_letters : (n a b : ℕ) → n ≡ 26 * a + b → 1 ≤ a → a ≤ 26 → 1 ≤ b → b ≤ 26 → column_letters n ≡ (64 + a) ∷ (64 + b) ∷ []
two_letters n a b e la ha lb hb =
    letters_by_rounds n a 0 (round_is n a b e lb hb) (omega arith)
    ∙ rw (letter_is n a b e lb hb, letter_is a 0 a (omega arith) la ha) refl

three_letters : (n a b c : ℕ) → n ≡ 26 * (26 * a + b) + c → 1 ≤ a → a ≤ 26 → 1 ≤ b → b ≤ 26 → 1 ≤ c → c ≤ 26 → column_letters n ≡ (64 + a) ∷ (64 + b) ∷ (64 + c) ∷ []
three_letters n a b c e la ha lb hb lc hc =
    letters_by_rounds n (26 * a + b) a (round_is n (26 * a + b) c e lc hc) (round_is (26 * a + b) a b refl lb hb)
    ∙ rw (letter_is n (26 * a + b) c e lc hc, letter_is (26 * a + b) a b refl lb hb, letter_is a 0 a (omega arith) la ha) refl

-- the letters at the front of a text, once they are known
column_by_front : (text letters : List ℕ) → letters ≡ take_while is_ascii_uppercase text → column_at text ≡ cond (nat_lt 0 (length letters) && nat_le (length letters) 3 && nat_le (column_number letters) 16384) (Some (column_number letters, drop (length letters) text)) None
unfolding column_at
column_by_front text letters e = rw e refl

-- a letter, and the letters behind it
first_letter : (c : ℕ) (cs : List ℕ) → list_all is_ascii_uppercase (c ∷ cs) ≡ true → (65 ≤ c) × (c ≤ 90) × (list_all is_ascii_uppercase cs ≡ true)
first_letter c cs all = parts (is_ascii_uppercase c) (list_all is_ascii_uppercase cs) refl all
  where
    parts : (a b : Bool) → is_ascii_uppercase c ≡ a → (a && b) ≡ true → (65 ≤ c) × (c ≤ 90) × (b ≡ true)
    parts true b is e = (grind (arith, nat_tests), grind (arith, nat_tests), e)
    parts false b is e = cc

place_back : (c : ℕ) → 65 ≤ c → 64 + (c - 64) ≡ c
place_back c low = omega arith

-- letters are the text of their column
letters_text : (letters : List ℕ) → list_all is_ascii_uppercase letters ≡ true → 1 ≤ length letters → length letters ≤ 3 → (column_letters (column_number letters) ≡ letters) × (1 ≤ column_number letters)
unfolding column_number
letters_text [] all some few = absurd (omega arith)
letters_text (a ∷ []) all some few =
    let ha = first_letter a [] all in
    (one_letter (column_number (a ∷ [])) (a - 64) (omega arith) (omega arith) (omega arith) ∙ rw (place_back a ha.0) refl, omega arith)
letters_text (a ∷ b ∷ []) all some few =
    let ha = first_letter a (b ∷ []) all in
    let hb = first_letter b [] ha.2 in
    (two_letters (column_number (a ∷ b ∷ [])) (a - 64) (b - 64) (omega arith) (omega arith) (omega arith) (omega arith) (omega arith) ∙ rw (place_back a ha.0, place_back b hb.0) refl, omega arith)
letters_text (a ∷ b ∷ c ∷ []) all some few =
    let ha = first_letter a (b ∷ c ∷ []) all in
    let hb = first_letter b (c ∷ []) ha.2 in
    let hc = first_letter c [] hb.2 in
    (three_letters (column_number (a ∷ b ∷ c ∷ [])) (a - 64) (b - 64) (c - 64) (omega arith) (omega arith) (omega arith) (omega arith) (omega arith) (omega arith) (omega arith) ∙ rw (place_back a ha.0, place_back b hb.0, place_back c hc.0) refl, omega arith)
letters_text (a ∷ b ∷ c ∷ d ∷ more) all some few = absurd (omega arith)

-- one to three letters that name the column
record Spells (n : ℕ) (letters : List ℕ) : Type 0 where
  all : list_all is_ascii_uppercase letters ≡ true
  some : 1 ≤ length letters
  few : length letters ≤ 3
  number : column_number letters ≡ n

spells_one : (n a : ℕ) → n ≡ a → 1 ≤ a → a ≤ 26 → Spells n ((64 + a) ∷ [])
unfolding column_number
spells_one n a e low high = record { all = grind (arith, nat_tests); some = omega arith; few = omega arith; number = omega arith }

spells_two : (n a b : ℕ) → n ≡ 26 * a + b → 1 ≤ a → a ≤ 26 → 1 ≤ b → b ≤ 26 → Spells n ((64 + a) ∷ (64 + b) ∷ [])
unfolding column_number
spells_two n a b e la ha lb hb = record { all = grind (arith, nat_tests); some = omega arith; few = omega arith; number = omega arith }

spells_three : (n a b c : ℕ) → n ≡ 26 * (26 * a + b) + c → 1 ≤ a → a ≤ 26 → 1 ≤ b → b ≤ 26 → 1 ≤ c → c ≤ 26 → Spells n ((64 + a) ∷ (64 + b) ∷ (64 + c) ∷ [])
unfolding column_number
spells_three n a b c e la ha lb hb lc hc = record { all = grind (arith, nat_tests); some = omega arith; few = omega arith; number = omega arith }

letters_spell : (n : ℕ) → 1 ≤ n → n ≤ 18278 → Spells n (column_letters n)
letters_spell n some few = by_round (rounds_before n) refl
  where
    last : (r : ℕ) × (1 ≤ r) × (r ≤ 26) × (n ≡ 26 * rounds_before n + r)
    last = column_parts n some

    by_two : (q p : ℕ) → rounds_before n ≡ q → 1 ≤ q → rounds_before q ≡ p → Spells n (column_letters n)
    by_two q zero e some f =
        let b = last in let a = column_parts q some in
        rw (two_letters n a.0 b.0 (omega (arith, b.3, a.3)) a.1 a.2 b.1 b.2) (spells_two n a.0 b.0 (omega (arith, b.3, a.3)) a.1 a.2 b.1 b.2)
    by_two q (suc p) e some f =
        let c = last in let b = column_parts q some in
        rw (three_letters n (suc p) b.0 c.0 (omega (arith, b.3, c.3)) (omega arith) (omega (arith, b.3, c.3)) b.1 b.2 c.1 c.2) (spells_three n (suc p) b.0 c.0 (omega (arith, b.3, c.3)) (omega arith) (omega (arith, b.3, c.3)) b.1 b.2 c.1 c.2)

    by_round : (q : ℕ) → rounds_before n ≡ q → Spells n (column_letters n)
    by_round zero e =
        let a = last in
        rw (one_letter n a.0 (omega (arith, a.3)) a.1 a.2) (spells_one n a.0 (omega (arith, a.3)) a.1 a.2)
    by_round (suc q) e = by_two (suc q) (rounds_before (suc q)) e (omega arith) refl

pub column_again : (n : ℕ) (rest : List ℕ) → 1 ≤ n → n ≤ 16384 → is_ascii_uppercase (slice_index rest 0) ≡ false → column_at (column_letters n ++ rest) ≡ Some (n, rest)
column_again n rest some small stops =
    let s = letters_spell n some (omega arith) in
    column_by_front (column_letters n ++ rest) (column_letters n) (sym (take_while-append is_ascii_uppercase (column_letters n) rest refl s.all stops))
    ∙ rw (s.number, drop-append_seam) (passes s.some s.few)
  where
    passes : 1 ≤ length (column_letters n) → length (column_letters n) ≤ 3 → cond {A = Option (ℕ × List ℕ)} (nat_lt 0 (length (column_letters n)) && nat_le (length (column_letters n)) 3 && nat_le n 16384) (Some (n, rest)) None ≡ Some (n, rest)
    passes some few = grind (arith, nat_tests)

-- a front that passes passes throughout
pub all_pass : (p : ℕ → Bool) (text : List ℕ) → list_all p (take_while p text) ≡ true
all_pass p [] = refl
all_pass p (c ∷ cs) = rw take_while-cons (by_head (p c) refl (all_pass p cs))
  where
    by_head : (b : Bool) → p c ≡ b → list_all p (take_while p cs) ≡ true → list_all p (cond b (c ∷ take_while p cs) []) ≡ true
    by_head true is all = rw (is, all) refl
    by_head false is all = refl

pub column_takes : (text : List ℕ) (x : ℕ × List ℕ) → column_at text ≡ Some x → (text ≡ column_letters x.0 ++ x.1) × (1 ≤ x.0) × (x.0 ≤ 16384) × (is_ascii_uppercase (slice_index x.1 0) ≡ false)
column_takes text x e =
    parts (take_while is_ascii_uppercase text) (front_and_rest is_ascii_uppercase text) (rest_stops is_ascii_uppercase text refl) (all_pass is_ascii_uppercase text) (sym (column_by_front text (take_while is_ascii_uppercase text) refl) ∙ e)
  where
    parts : (letters : List ℕ) → text ≡ letters ++ drop (length letters) text → is_ascii_uppercase (slice_index (drop (length letters) text) 0) ≡ false → list_all is_ascii_uppercase letters ≡ true → cond (nat_lt 0 (length letters) && nat_le (length letters) 3 && nat_le (column_number letters) 16384) (Some (column_number letters, drop (length letters) text)) None ≡ Some x → (text ≡ column_letters x.0 ++ x.1) × (1 ≤ x.0) × (x.0 ≤ 16384) × (is_ascii_uppercase (slice_index x.1 0) ≡ false)
    parts letters whole stops all h =
        let t = let_through (nat_lt 0 (length letters) && nat_le (length letters) 3) (nat_le (column_number letters) 16384) (column_number letters, drop (length letters) text) x h in
        let some : 1 ≤ length letters = grind (arith, nat_tests, t.0) in
        let few : length letters ≤ 3 = grind (arith, nat_tests, t.0) in
        let small : column_number letters ≤ 16384 = grind (arith, nat_tests, t.1) in
        let is = letters_text letters all some few in
        rw (← t.2) (whole ∙ ap (λ front. front ++ drop (length letters) text) (sym is.0), is.1, small, stops)

-- the letters of a column are one to three, in upper case
pub letters_begin : (n : ℕ) → 1 ≤ n → n ≤ 16384 → (list_all is_ascii_uppercase (column_letters n) ≡ true) × (1 ≤ length (column_letters n)) × (length (column_letters n) ≤ 3)
letters_begin n some small = let s = letters_spell n some (omega arith) in (s.all, s.some, s.few)
