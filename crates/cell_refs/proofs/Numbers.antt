-- A number at the front of a text, both ways.
use Rattle.std.proofs.Common.{◌≡◌, ℕ, zero, suc, ◌<◌, ◌≤◌, ◌^◌, Bool, true, false, cond, ◌&&◌, nat_lt, nat_le, List, [], ◌∷◌, ◌++◌, length, drop, take_while, slice_index, Option, Some, None, decimal, refl, ap, sym, ◌∙◌, arith}
use Rattle.std.proofs.lemmas.Bool.Decides.{nat_tests}
use Rattle.std.proofs.lemmas.Fmt.{decimal_digit, first_decimal, digits_decimal, digits_value-decimal, decimal-digits_value}
use Rattle.std.proofs.lemmas.List.{take-append-drop}
use Rattle.std.proofs.lemmas.List.Folds.{length-prefix_len}
use Rattle.std.proofs.lemmas.List.Sums.{take_while-cons}
use Rattle.std.proofs.Math.Seq.{drop-append_seam}
use Rattle.std.specs.Char.{is_ascii_digit}
use Rattle.std.specs.List.{list_all, prefix_len}
use Rattle.std.specs.Str.{all_ascii_digits}
use Rattle.std.specs.Str.Parse.{digits_value}
use Rattle.cell_refs.specs.Reading.{number_at}
use Rattle.cell_refs.proofs.Capitals.{all_digits}
use Rattle.cell_refs.proofs.Numerals.{numerals}

-- a front that passes, before what doesn't, is the longest
pub take_while-append : (p : ℕ → Bool) (front rest : List ℕ) → p 0 ≡ false → list_all p front ≡ true → p (slice_index rest 0) ≡ false → take_while p (front ++ rest) ≡ front
take_while-append p [] [] none all stops = refl
take_while-append p [] (c ∷ cs) none all stops = take_while-cons p c cs ∙ ap (λ b. cond b (c ∷ take_while p cs) []) stops
take_while-append p (c ∷ cs) rest none all stops =
    let here : (p c ≡ true) × (list_all p cs ≡ true) = both (p c) (list_all p cs) all in
    take_while-cons p c (cs ++ rest) ∙ (ap (λ b. cond b (c ∷ take_while p (cs ++ rest)) []) here.0 ∙ ap (λ front. c ∷ front) (take_while-append p cs rest none here.1 stops))
  where
    both : (a b : Bool) → (a && b) ≡ true → (a ≡ true) × (b ≡ true)
    both true b e = (refl, e)
    both false b e = cc

-- a text is its longest front that passes, and the rest
pub front_and_rest : (p : ℕ → Bool) (text : List ℕ) → text ≡ take_while p text ++ drop (length (take_while p text)) text
front_and_rest p text = sym (take-append-drop (prefix_len p text) text) ∙ ap (λ n. take_while p text ++ drop n text) (sym (length-prefix_len p text))

-- what stands behind the longest front doesn't pass
pub rest_stops : (p : ℕ → Bool) (text : List ℕ) → p 0 ≡ false → p (slice_index (drop (length (take_while p text)) text) 0) ≡ false
rest_stops p [] none = none
rest_stops p (c ∷ cs) none = rw take_while-cons (by_head (p c) refl (rest_stops p cs none))
  where
    by_head : (b : Bool) → p c ≡ b → p (slice_index (drop (length (take_while p cs)) cs) 0) ≡ false → p (slice_index (drop (length (cond b (c ∷ take_while p cs) [])) (c ∷ cs)) 0) ≡ false
    by_head true is stops = stops
    by_head false is stops = is

digits_all : (ds : List ℕ) → list_all is_ascii_digit ds ≡ all_ascii_digits ds
digits_all [] = refl
digits_all (c ∷ cs) = ap (λ b. is_ascii_digit c && b) (digits_all cs)

-- two tests that let a value through
pub let_through : {X : Type 0} (a b : Bool) (y x : X) → cond (a && b) (Some y) None ≡ Some x → (a ≡ true) × (b ≡ true) × (y ≡ x)
let_through true true y x e = (refl, refl, cc)
let_through true false y x e = cc
let_through false b y x e = cc

number_by_front : (limit : ℕ) (text digits : List ℕ) → digits ≡ take_while is_ascii_digit text → number_at limit text ≡ cond (nat_lt 48 (slice_index digits 0) && nat_le (digits_value 10 digits) limit) (Some (digits_value 10 digits, drop (length digits) text)) None
unfolding number_at
number_by_front limit text digits e = rw e refl

pub decimal_front : (n : ℕ) (rest : List ℕ) → n < 2 ^ 64 → is_ascii_digit (slice_index rest 0) ≡ false → decimal n ≡ take_while is_ascii_digit (decimal n ++ rest)
decimal_front n rest room stops =
    sym (take_while-append is_ascii_digit (decimal n) rest refl (digits_all (decimal n) ∙ digits_decimal numerals n room) stops)

pub number_again : (limit n : ℕ) (rest : List ℕ) → limit < 2 ^ 64 → 1 ≤ n → n ≤ limit → is_ascii_digit (slice_index rest 0) ≡ false → number_at limit (decimal n ++ rest) ≡ Some (n, rest)
number_again limit n rest room some small stops =
    let fits : n < 2 ^ 64 = omega arith in
    let first : 48 < slice_index (decimal n) 0 = first_decimal n (omega arith) fits in
    number_by_front limit (decimal n ++ rest) (decimal n) (decimal_front n rest fits stops)
    ∙ rw (digits_value-decimal numerals n fits, drop-append_seam) (passes first)
  where
    passes : 48 < slice_index (decimal n) 0 → cond {A = Option (ℕ × List ℕ)} (nat_lt 48 (slice_index (decimal n) 0) && nat_le n limit) (Some (n, rest)) None ≡ Some (n, rest)
    passes first = grind (arith, nat_tests)

-- digits that begin above 0 are the text of their number
digits_text : (digits : List ℕ) → all_ascii_digits digits ≡ true → 48 < slice_index digits 0 → digits_value 10 digits < 2 ^ 64 → decimal (digits_value 10 digits) ≡ digits
digits_text [] all first room = absurd (omega arith)
digits_text (c ∷ cs) all first room = decimal-digits_value numerals (c ∷ cs) all (omega arith) (λ zero. absurd (omega arith)) room

-- digits that begin above 0 stand for more than 0
digits_some : (digits : List ℕ) → decimal (digits_value 10 digits) ≡ digits → 48 < slice_index digits 0 → 1 ≤ digits_value 10 digits
digits_some digits is first = by_value (digits_value 10 digits) refl
  where
    by_value : (n : ℕ) → digits_value 10 digits ≡ n → 1 ≤ digits_value 10 digits
    by_value zero e = let begins : slice_index digits 0 ≡ 48 = ap (λ ds. slice_index ds 0) (sym is ∙ (ap decimal e ∙ decimal_digit 0 (omega arith))) in absurd (omega arith)
    by_value (suc n) e = omega arith

pub number_takes : (limit : ℕ) (text : List ℕ) (x : ℕ × List ℕ) → limit < 2 ^ 64 → number_at limit text ≡ Some x → (text ≡ decimal x.0 ++ x.1) × (1 ≤ x.0) × (x.0 ≤ limit) × (is_ascii_digit (slice_index x.1 0) ≡ false)
number_takes limit text x room e =
    parts (take_while is_ascii_digit text) (front_and_rest is_ascii_digit text) (rest_stops is_ascii_digit text refl) (all_digits text)
    (let_through (nat_lt 48 (slice_index (take_while is_ascii_digit text) 0)) (nat_le (digits_value 10 (take_while is_ascii_digit text)) limit) (digits_value 10 (take_while is_ascii_digit text), drop (length (take_while is_ascii_digit text)) text) x (sym (number_by_front limit text (take_while is_ascii_digit text) refl) ∙ e))
  where
    parts : (digits : List ℕ) → text ≡ digits ++ drop (length digits) text → is_ascii_digit (slice_index (drop (length digits) text) 0) ≡ false → all_ascii_digits digits ≡ true → (nat_lt 48 (slice_index digits 0) ≡ true) × (nat_le (digits_value 10 digits) limit ≡ true) × ((digits_value 10 digits, drop (length digits) text) ≡ x) → (text ≡ decimal x.0 ++ x.1) × (1 ≤ x.0) × (x.0 ≤ limit) × (is_ascii_digit (slice_index x.1 0) ≡ false)
    parts digits whole stops all h =
        let first : 48 < slice_index digits 0 = grind (arith, nat_tests, h.0) in
        let small : digits_value 10 digits ≤ limit = grind (arith, nat_tests, h.1) in
        let is : decimal (digits_value 10 digits) ≡ digits = digits_text digits all first (omega arith) in
        rw (← h.2) (whole ∙ ap (λ front. front ++ drop (length digits) text) (sym is), digits_some digits is first, small, stops)
