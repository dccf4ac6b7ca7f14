-- What the floor of a division leaves.
use Rattle.std.proofs.Common.{◌≡◌, ◌≢◌, ℕ, zero, suc, negsuc, neg_ℤ, ◌%◌, ◌≤ℤ◌, ◌<ℤ◌, Bool, true, false, not, ◌&&◌, ◌<◌, cond, ℤ, pos, ◌+ℤ◌, ◌-ℤ◌, ◌*ℤ◌, int_div, int_rem, unsigned_abs, subst, inl, inr, refl, sym, ap, ◌∙◌, arith}
use Rattle.std.proofs.Math.Nat.{zero-mod}
use Rattle.std.proofs.lemmas.Bool.Decides.{nat_tests}
use Rattle.std.specs.Ordering.{int_eq}
use Rattle.std.proofs.Math.IntN.{*ℤ_comm, -ℤ_one, pred_ℤ-*ℤ}
use Rattle.std.proofs.lemmas.Int.{ints, quot-rem, rem_below}
use Rattle.std.proofs.lemmas.Map.Lookups.{exact_signed}
use Rattle.std.proofs.lemmas.Map.Views.{tells_apart}
use Rattle.cell_values.specs.declared.errors.ErrorKind.TheVariants as errors
use Rattle.cell_values.specs.declared.values.Value.TheVariants as values
use Rattle.cell_values.specs.Value.{within_magnitude}
use Rattle.functions.specs.Arithmetic.{floor, is_rounded_up, signs_differ, modulus, whole_quotient}
use Rattle.functions.proofs.NumberLaws.{choice, num_is}

less_whole : (n p r x : ℤ) → p +ℤ r ≡ n → x ≡ p → n -ℤ x ≡ r
less_whole n p r x e f = omega (arith, ints)

less_more : (n p r k x : ℤ) → p +ℤ r ≡ n → x ≡ p -ℤ k → n -ℤ x ≡ r +ℤ k
less_more n p r k x e f = omega (arith, ints)

chosen : {A : Type 0} (b : Bool) (x y : A) → b ≡ true → cond b x y ≡ x
chosen b x y e = ap (λ t. cond t x y) e

refused : {A : Type 0} (b : Bool) (x y : A) → b ≡ false → cond b x y ≡ y
refused b x y e = ap (λ t. cond t x y) e

-- where the quotient toward zero is the floor, the floor leaves what that quotient leaves
pub rest_of_quotient : (n k : ℤ) → is_rounded_up n k ≡ false → n -ℤ k *ℤ floor n k ≡ int_rem n k
rest_of_quotient n k e =
    less_whole n (int_div n k *ℤ k) (int_rem n k) (k *ℤ floor n k) (quot-rem n k)
    (ap (λ q. k *ℤ q) (refused (is_rounded_up n k) (int_div n k -ℤ pos 1) (int_div n k) e) ∙ *ℤ_comm k (int_div n k))

-- else it leaves that and the divisor
pub rest_of_floor : (n k : ℤ) → is_rounded_up n k ≡ true → n -ℤ k *ℤ floor n k ≡ int_rem n k +ℤ k
rest_of_floor n k e =
    less_more n (int_div n k *ℤ k) (int_rem n k) k (k *ℤ floor n k) (quot-rem n k)
    (ap (λ q. k *ℤ q) (chosen (is_rounded_up n k) (int_div n k -ℤ pos 1) (int_div n k) e ∙ -ℤ_one (int_div n k))
    ∙ *ℤ_comm k _ ∙ pred_ℤ-*ℤ (int_div n k) k)

from_not : (b : Bool) → (b ≡ true → ⊥) → b ≡ false
from_not true other = absurd (other refl)
from_not false other = refl

-- by another number than 0 a modulus is what the floor leaves
pub modulus_is : (n k : ℤ) → k ≢ pos 0 → modulus n k ≡ within_magnitude (n -ℤ k *ℤ floor n k)
modulus_is n k other = refused (int_eq k (pos 0)) (values.Error errors.Div0) (within_magnitude (n -ℤ k *ℤ floor n k)) (from_not _ (λ e. other (tells_apart exact_signed k (pos 0) e)))

-- what the floor of a division leaves
abbrev left_over : ℤ → ℤ → ℤ
left_over n k = n -ℤ k *ℤ floor n k

and_false : (b : Bool) → (b && false) ≡ false
and_false true = refl
and_false false = refl

signs_agree : (n k : ℤ) → signs_differ n k ≡ false → left_over n k ≡ int_rem n k
signs_agree n k e = rest_of_quotient n k (ap (λ s. not (int_eq (int_rem n k) (pos 0)) && s) e ∙ and_false (not (int_eq (int_rem n k) (pos 0))))

nothing_left : (n k : ℤ) → int_rem n k ≡ pos 0 → left_over n k ≡ pos 0
nothing_left n k e = rest_of_quotient n k (ap (λ r. not (int_eq r (pos 0)) && signs_differ n k) e) ∙ e

something_left : (n k : ℤ) → int_eq (int_rem n k) (pos 0) ≡ false → signs_differ n k ≡ true → left_over n k ≡ int_rem n k +ℤ k
something_left n k e f = rest_of_floor n k (ap (λ b. not b && signs_differ n k) e ∙ f)

not_zero : (r : ℕ) → int_eq (pos (suc r)) (pos 0) ≡ false
not_zero r = from_not _ (λ e. let same : pos (suc r) ≡ pos 0 = tells_apart exact_signed (pos (suc r)) (pos 0) e in omega (arith, ints))

-- from 0 to below a number above 0
abbrev IsBelowAbove : ℕ → ℤ → Type 0
IsBelowAbove b m = (pos 0 ≤ℤ m) × (m <ℤ pos (suc b))

-- from above a number below 0 to 0
abbrev IsAboveBelow : ℕ → ℤ → Type 0
IsAboveBelow b m = (negsuc b <ℤ m) × (m ≤ℤ pos 0)

negative_by_positive : (a b r : ℕ) → suc a % suc b ≡ r → IsBelowAbove b (left_over (negsuc a) (pos (suc b)))
negative_by_positive a b zero e =
    let m = nothing_left (negsuc a) (pos (suc b)) (ap (λ x. neg_ℤ (pos x)) e) in
    (omega (arith, ints), omega (arith, ints))
negative_by_positive a b (suc r) e =
    let rem : int_rem (negsuc a) (pos (suc b)) ≡ negsuc r = ap (λ x. neg_ℤ (pos x)) e in
    let m : left_over (negsuc a) (pos (suc b)) ≡ negsuc r +ℤ pos (suc b) =
    something_left (negsuc a) (pos (suc b)) (ap (λ x. int_eq x (pos 0)) rem) (grind (arith, nat_tests)) ∙ ap (λ x. x +ℤ pos (suc b)) rem in
    let small : suc r < suc b = omega arith in
    (omega (arith, ints), omega (arith, ints))

positive_by_negative : (a b r : ℕ) → suc a % suc b ≡ r → IsAboveBelow b (left_over (pos (suc a)) (negsuc b))
positive_by_negative a b zero e =
    let m = nothing_left (pos (suc a)) (negsuc b) (ap pos e) in
    (omega (arith, ints), omega (arith, ints))
positive_by_negative a b (suc r) e =
    let rem : int_rem (pos (suc a)) (negsuc b) ≡ pos (suc r) = ap pos e in
    let m : left_over (pos (suc a)) (negsuc b) ≡ pos (suc r) +ℤ negsuc b =
    something_left (pos (suc a)) (negsuc b) (ap (λ x. int_eq x (pos 0)) rem ∙ not_zero r) (grind (arith, nat_tests)) ∙ ap (λ x. x +ℤ negsuc b) rem in
    let small : suc r < suc b = omega arith in
    (omega (arith, ints), omega (arith, ints))

-- what the floor leaves by a number above 0 is from 0 to below that number
floor_leaves_above : (n : ℤ) (b : ℕ) → IsBelowAbove b (left_over n (pos (suc b)))
floor_leaves_above (pos a) b =
    let m : left_over (pos a) (pos (suc b)) ≡ pos (a % suc b) = signs_agree (pos a) (pos (suc b)) (grind (arith, nat_tests)) in
    let small : a % suc b < suc b = omega arith in
    (omega (arith, ints), omega (arith, ints))
floor_leaves_above (negsuc a) b = negative_by_positive a b (suc a % suc b) refl

-- by a number below 0 it is from above that number to 0
floor_leaves_below : (n : ℤ) (b : ℕ) → IsAboveBelow b (left_over n (negsuc b))
floor_leaves_below (pos zero) b =
    let m : left_over (pos 0) (negsuc b) ≡ pos 0 = nothing_left (pos 0) (negsuc b) (ap pos (zero-mod (suc b))) in
    (omega (arith, ints), omega (arith, ints))
floor_leaves_below (pos (suc a)) b = positive_by_negative a b (suc a % suc b) refl
floor_leaves_below (negsuc a) b =
    let m : left_over (negsuc a) (negsuc b) ≡ neg_ℤ (pos (suc a % suc b)) = signs_agree (negsuc a) (negsuc b) refl in
    let small : suc a % suc b < suc b = omega arith in
    (omega (arith, ints), omega (arith, ints))

from_modulus : (n k m : ℤ) → modulus n k ≡ values.Num m → left_over n k ≡ m
from_modulus n k m e = elim (choice (int_eq k (pos 0))) [
  | inl h ↦ (let same : values.Error errors.Div0 ≡ values.Num m =
      sym (chosen (int_eq k (pos 0)) (values.Error errors.Div0) (within_magnitude (left_over n k)) h) ∙ e in
      absurd (cc))
  | inr h ↦ num_is (left_over n k) m (sym (refused (int_eq k (pos 0)) (values.Error errors.Div0) (within_magnitude (left_over n k)) h) ∙ e)
]

put_back : (n p x m : ℤ) → n -ℤ p ≡ x → x ≡ m → p +ℤ m ≡ n
put_back n p x m e f = omega (arith, ints)

-- the divisor times the floor, and the modulus, make the number
pub modulus_meets : (n k m : ℤ) → modulus n k ≡ values.Num m → k *ℤ floor n k +ℤ m ≡ n
modulus_meets n k m e = put_back n (k *ℤ floor n k) (left_over n k) m refl (from_modulus n k m e)

-- a modulus by a number above 0 is from 0 to below that number
pub modulus_above : (n k m : ℤ) → modulus n k ≡ values.Num m → pos 0 <ℤ k → (pos 0 ≤ℤ m) × (m <ℤ k)
modulus_above n (pos zero) m e h = absurd (omega (arith, ints))
modulus_above n (pos (suc b)) m e h =
    let P : ℤ → Type 0 = λ x. (pos 0 ≤ℤ x) × (x <ℤ pos (suc b)) in
    subst P (from_modulus n (pos (suc b)) m e) (floor_leaves_above n b)
modulus_above n (negsuc b) m e h = absurd (omega (arith, ints))

-- a modulus by a number below 0 is from above that number to 0
pub modulus_below : (n k m : ℤ) → modulus n k ≡ values.Num m → k <ℤ pos 0 → (k <ℤ m) × (m ≤ℤ pos 0)
modulus_below n (pos b) m e h = absurd (omega (arith, ints))
modulus_below n (negsuc b) m e h =
    let P : ℤ → Type 0 = λ x. (negsuc b <ℤ x) × (x ≤ℤ pos 0) in
    subst P (from_modulus n (negsuc b) m e) (floor_leaves_below n b)

from_quotient : (n k q : ℤ) → whole_quotient n k ≡ values.Num q → (int_div n k ≡ q) × (int_eq k (pos 0) ≡ false)
from_quotient n k q e = elim (choice (int_eq k (pos 0))) [
  | inl h ↦ (let same : values.Error errors.Div0 ≡ values.Num q =
      sym (chosen (int_eq k (pos 0)) (values.Error errors.Div0) (within_magnitude (int_div n k)) h) ∙ e in
      absurd (cc))
  | inr h ↦ (num_is (int_div n k) q (sym (refused (int_eq k (pos 0)) (values.Error errors.Div0) (within_magnitude (int_div n k)) h) ∙ e), h)
]

some_magnitude : (k : ℤ) → int_eq k (pos 0) ≡ false → 0 < unsigned_abs k
some_magnitude (pos zero) e = absurd (cc)
some_magnitude (pos (suc b)) e = omega arith
some_magnitude (negsuc b) e = omega arith

-- the quotient times the divisor, and what is left, make the number
pub quotient_meets : (n k q : ℤ) → whole_quotient n k ≡ values.Num q → q *ℤ k +ℤ int_rem n k ≡ n
quotient_meets n k q e = ap (λ x. x *ℤ k +ℤ int_rem n k) (sym (from_quotient n k q e).0) ∙ quot-rem n k

-- what a quotient leaves is nearer to 0 than the divisor
pub quotient_leaves : (n k q : ℤ) → whole_quotient n k ≡ values.Num q → unsigned_abs (int_rem n k) < unsigned_abs k
quotient_leaves n k q e = rem_below n k (some_magnitude k (from_quotient n k q e).1)
