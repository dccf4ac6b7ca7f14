-- When digits stand for a number.
use Rattle.std.proofs.Common.{◌≡◌, ℕ, ◌<◌, ◌≤◌, ◌-◌, ◌&&◌, Bool, true, false, List, length, get_or, Some, None, refl, arith, ap, ◌∙◌, sym, subst, take, take_all, eqb, leb, ltb, cond}
use Rattle.std.proofs.lemmas.Bool.{false_from_ne_true, le-leb, lt-leb, lt-ltb}
use Rattle.std.proofs.lemmas.Str.Parse.{IsNumeralModel, numerals_by_value, tells_all_ascii_digits, not_in_digits}
use Rattle.std.proofs.lemmas.Bool.Decides.{nat_tests}
use Rattle.std.specs.Char.{is_ascii_digit, digit_value}
use Rattle.std.specs.Int.{IsInRange}
use Rattle.std.specs.Str.{all_ascii_digits}
use Rattle.std.specs.Str.Parse.{digits_value, AllDigits}
use Rattle.cell_values.specs.Digits.{whole_number}

-- the test for digits, and their value, in the words of `parse`
pub own : IsNumeralModel (λ ds. all_ascii_digits ds ≡ true) (digits_value 10)
own = numerals_by_value (λ ds. all_ascii_digits ds ≡ true) tells_all_ascii_digits

-- both of two tests are true
pub both_true : (a b : Bool) → (a && b) ≡ true → (a ≡ true) × (b ≡ true)
both_true true b e = (refl, e)
both_true false b e = absurd (cc)

-- a byte that is no digit
pub not_all_digits : (ds : List ℕ) (i : ℕ) → i < length ds → (IsInRange 48 57 (get_or ds i 0) → ⊥) → all_ascii_digits ds ≡ false
not_all_digits ds i lt outside =
    false_from_ne_true (all_ascii_digits ds) (λ all. not_in_digits own ds (get_or ds i 0) all outside i lt refl)

chosen : {A : Type 0} (b : Bool) (x y : A) → b ≡ true → cond b x y ≡ x
chosen b x y e = ap (λ t. cond t x y) e

refused : {A : Type 0} (b : Bool) (x y : A) → b ≡ false → cond b x y ≡ y
refused b x y e = ap (λ t. cond t x y) e

three : (a b d : Bool) → d ≡ false → (a && (b && d)) ≡ false
three true true d e = e
three true false d e = refl
three false b d e = refl

pub all_three : (a b d : Bool) → a ≡ true → b ≡ true → d ≡ true → (a && (b && d)) ≡ true
all_three a b d e f g = grind arith

pub whole_of_no_digit : (ds : List ℕ) (i : ℕ) → i < length ds → (IsInRange 48 57 (get_or ds i 0) → ⊥) → whole_number ds ≡ None
whole_of_no_digit ds i lt outside =
    refused _ _ _ (ap (λ b. b && (ltb 0 (length ds) && leb (digits_value 10 ds) 999999999999999)) (not_all_digits ds i lt outside))

pub whole_too_large : (ds : List ℕ) → 999999999999999 < digits_value 10 ds → whole_number ds ≡ None
whole_too_large ds big = refused _ _ _ (three (all_ascii_digits ds) (ltb 0 (length ds)) _ (lt-leb _ _ big))

pub whole_is : (ds : List ℕ) → 0 < length ds → all_ascii_digits ds ≡ true → digits_value 10 ds ≤ 999999999999999 → whole_number ds ≡ Some (digits_value 10 ds)
whole_is ds some all small = chosen _ _ _ (all_three _ _ _ all (lt-ltb _ _ some) (le-leb _ _ small))

-- the number of the front of digits, where the front is all of them
pub whole_of_front : (ds : List ℕ) (i n : ℕ) → 0 < length ds → length ds ≤ i → n ≡ digits_value 10 (take i ds) → AllDigits 10 (take i ds) → n ≤ 999999999999999 → whole_number ds ≡ Some n
whole_of_front ds i n some past e all small =
    let whole : take i ds ≡ ds = take_all i ds past in
    let value : digits_value 10 ds ≡ n = sym (e ∙ ap (digits_value 10) whole) in
    let digits : all_ascii_digits ds ≡ true = own.from ds (subst (λ xs. AllDigits 10 xs) whole all) in
    whole_is ds some digits (omega arith) ∙ ap Some value

-- a byte that fails the test for digits
pub outside_digits : (c : ℕ) (b : Bool) → b ≡ false → b ≡ is_ascii_digit c → IsInRange 48 57 c → ⊥
outside_digits c b e f inside = grind (arith, nat_tests)

-- the value of a digit
pub value_of_digit : (c : ℕ) (b : Bool) → b ≡ true → b ≡ is_ascii_digit c → digit_value c ≡ c - 48
value_of_digit c b e f = grind (arith, nat_tests)

pub digit_below_ten : (c : ℕ) (b : Bool) → b ≡ true → b ≡ is_ascii_digit c → digit_value c < 10
digit_below_ten c b e f = grind (arith, nat_tests)

-- a list that isn't found empty
pub length_of_some : (n : ℕ) (b : Bool) → b ≡ false → b ≡ eqb n 0 → 0 < n
length_of_some n b e f = grind (arith, nat_tests)
