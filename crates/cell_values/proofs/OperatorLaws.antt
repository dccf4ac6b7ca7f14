-- Laws of the operators.
use Rattle.std.proofs.Common.{◌≡◌, ℕ, zero, suc, ◌≤◌, ◌<◌, ◌*◌, ◌/◌, ◌%◌, ◌&&◌, Bool, true, false, cond, List, ◌++◌, length, Ok, Some, None, unsigned_abs, nat_abs, int_le, int_div, int_rem, ◌+ℤ◌, ◌*ℤ◌, ◌⊎◌, inl, inr, refl, sym, ap, ◌∙◌, arith, ℤ, pos, negsuc, neg_ℤ, append_assoc}
use Rattle.std.proofs.Math.IntN.{neg_ℤ-neg_ℤ}
use Rattle.std.proofs.lemmas.Bool.{false_from_ne_true, le-leb}
use Rattle.std.specs.Str.{chars}
use Rattle.std.specs.Option.{option_map_or}
use Rattle.cell_values.specs.declared.errors.ErrorKind.TheVariants as errors
use Rattle.cell_values.specs.declared.values.Value.{Value}
use Rattle.cell_values.specs.declared.values.Value.TheVariants as values
use Rattle.std.specs.Ordering.{int_eq}
use Rattle.std.proofs.Math.Nat.{mul-div_cancel, zero-div, zero-mod, mul-mod_left}
use Rattle.std.proofs.lemmas.Int.{quot-rem, ints}
use Rattle.std.proofs.lemmas.Map.Lookups.{exact_signed}
use Rattle.std.proofs.lemmas.Map.Views.{tells_apart}
use Rattle.cell_values.specs.declared.errors.ErrorKind.{ErrorKind}
use Rattle.cell_values.specs.Value.{MAGNITUDE, within_magnitude, negate_of, quotient}
use Rattle.cell_values.specs.Coercion.{text_of, join_of, text_join_of, on_texts}

within_is : (n : ℤ) → unsigned_abs n ≤ 999999999999999 → within_magnitude n ≡ values.Num n
within_is (pos n) small = ap (λ b. cond b (values.Num (pos n)) (values.Error errors.Num)) (le-leb n 999999999999999 small)
within_is (negsuc n) small = ap (λ b. cond (b && true) (values.Num (negsuc n)) (values.Error errors.Num)) (le-leb n 999999999999998 (omega arith))

abs_neg : (n : ℤ) → unsigned_abs (neg_ℤ n) ≡ unsigned_abs n
abs_neg (pos zero) = refl
abs_neg (pos (suc n)) = refl
abs_neg (negsuc n) = refl

-- the opposite of the opposite of a number is the number
pub negate_of-negate_of : (n : ℤ) → unsigned_abs n ≤ 999999999999999 → negate_of (negate_of (values.Num n)) ≡ values.Num n
negate_of-negate_of n small =
    let same = abs_neg n in
    ap negate_of (within_is (neg_ℤ n) (omega (arith, same))) ∙ ap within_magnitude (neg_ℤ-neg_ℤ n) ∙ within_is n small

joined_is : (a b : Value) (s t : List ℕ) → text_of a ≡ Ok s → text_of b ≡ Ok t → length (chars (s ++ t)) ≤ 32767 → join_of a b ≡ values.Text (s ++ t)
joined_is a b s t e f short =
    ap (λ r. on_texts text_join_of r (text_of b)) e ∙ ap (on_texts text_join_of (Ok s)) f
    ∙ ap (λ o. option_map_or values.Text o (values.Error errors.Value)) (ap (λ b. cond b (Some (s ++ t)) None) (le-leb _ _ short))

-- where no operand is an error and nothing is too long, it doesn't matter which two are joined first
pub joined_assoc : (a b c : Value) (s t u : List ℕ) → text_of a ≡ Ok s → text_of b ≡ Ok t → text_of c ≡ Ok u
    → length (chars (s ++ t)) ≤ 32767 → length (chars (t ++ u)) ≤ 32767 → length (chars ((s ++ t) ++ u)) ≤ 32767
    → join_of (join_of a b) c ≡ join_of a (join_of b c)
joined_assoc a b c s t u e f g first last whole =
    let left : join_of (join_of a b) c ≡ values.Text ((s ++ t) ++ u) =
    ap (λ v. join_of v c) (joined_is a b s t e f first) ∙ joined_is (values.Text (s ++ t)) c (s ++ t) u refl g whole in
    let right : join_of a (join_of b c) ≡ values.Text (s ++ (t ++ u)) =
    ap (join_of a) (joined_is b c t u f g last) ∙ joined_is a (values.Text (t ++ u)) s (t ++ u) e refl (rw (← (append_assoc s t u)) whole) in
    left ∙ ap values.Text (append_assoc s t u) ∙ sym right

choice : {A : Type 0} (b : Bool) (x y z : A) → cond b x y ≡ z → ((b ≡ true) × (x ≡ z)) ⊎ ((b ≡ false) × (y ≡ z))
choice true x y z e = inl (refl, e)
choice false x y z e = inr (refl, e)

no_error : (e : ErrorKind) (q : ℤ) → values.Error e ≡ values.Num q → ⊥
no_error e q h = cc

num_same : (k q : ℤ) → values.Num k ≡ values.Num q → k ≡ q
num_same k q e = cc

num_in_magnitude : (k q : ℤ) → within_magnitude k ≡ values.Num q → k ≡ q
num_in_magnitude k q e =
    elim (choice (int_le (neg_ℤ MAGNITUDE) k && int_le k MAGNITUDE) (values.Num k) (values.Error errors.Num) (values.Num q) e) [
      | inl h ↦ num_same k q h.1
      | inr h ↦ absurd (no_error errors.Num q h.1)
    ]

zero_from_test : (k : ℤ) → int_eq k (pos 0) ≡ true → k ≡ pos 0
zero_from_test k e = tells_apart exact_signed k (pos 0) e

add_nothing : (k : ℤ) → k +ℤ pos 0 ≡ k
add_nothing k = omega (arith, ints)

-- a quotient times its divisor is the dividend
pub quotient_times : (m n q : ℤ) → quotient m n ≡ values.Num q → q *ℤ n ≡ m
quotient_times m n q e =
    elim (choice (int_eq n (pos 0)) (values.Error errors.Div0) (cond (int_eq (int_rem m n) (pos 0)) (within_magnitude (int_div m n)) (values.Error errors.Num)) (values.Num q) e) [
      | inl h ↦ absurd (no_error errors.Div0 q h.1)
      | inr h ↦ elim (choice (int_eq (int_rem m n) (pos 0)) (within_magnitude (int_div m n)) (values.Error errors.Num) (values.Num q) h.1) [
        | inr k ↦ absurd (no_error errors.Num q k.1)
        | inl k ↦ (let same = num_in_magnitude (int_div m n) q k.1 in
            let nothing = zero_from_test (int_rem m n) k.0 in
            ap (λ x. x *ℤ n) (sym same) ∙ sym (add_nothing (int_div m n *ℤ n)) ∙ ap (λ x. int_div m n *ℤ n +ℤ x) (sym nothing) ∙ quot-rem m n)
      ]
    ]

some_divisor : (b : ℕ) → (pos b ≡ pos 0 → ⊥) → 0 < b
some_divisor zero other = absurd (other refl)
some_divisor (suc b) other = omega arith

div_of_negative : (x b : ℕ) → int_div (neg_ℤ (pos x)) (pos b) ≡ neg_ℤ (pos (x / b))
div_of_negative zero b = ap pos (zero-div b) ∙ sym (ap (λ k. neg_ℤ (pos k)) (zero-div b))
div_of_negative (suc x) b = refl

div_of_negatives : (x b : ℕ) → int_div (neg_ℤ (pos x)) (negsuc b) ≡ pos (x / suc b)
div_of_negatives zero b = ap (λ k. neg_ℤ (pos k)) (zero-div (suc b)) ∙ sym (ap pos (zero-div (suc b)))
div_of_negatives (suc x) b = refl

rem_of_negative : (x : ℕ) (d : ℤ) → int_rem (neg_ℤ (pos x)) d ≡ neg_ℤ (pos (x % nat_abs d))
rem_of_negative zero d = ap pos (zero-mod (nat_abs d)) ∙ sym (ap (λ k. neg_ℤ (pos k)) (zero-mod (nat_abs d)))
rem_of_negative (suc x) d = refl

div-product : (q n : ℤ) → (n ≡ pos 0 → ⊥) → int_div (q *ℤ n) n ≡ q
div-product (pos a) (pos b) other = ap pos (mul-div_cancel a (some_divisor b other))
div-product (pos a) (negsuc b) other = div_of_negatives (a * suc b) b ∙ ap pos (mul-div_cancel a (omega arith))
div-product (negsuc a) (pos b) other = div_of_negative (suc a * b) b ∙ ap (λ k. neg_ℤ (pos k)) (mul-div_cancel (suc a) (some_divisor b other))
div-product (negsuc a) (negsuc b) other = ap (λ k. neg_ℤ (pos k)) (mul-div_cancel (suc a) (omega arith))

rem-product : (q n : ℤ) → int_rem (q *ℤ n) n ≡ pos 0
rem-product (pos a) (pos b) = ap pos (mul-mod_left a b)
rem-product (pos a) (negsuc b) = rem_of_negative (a * suc b) (negsuc b) ∙ ap (λ k. neg_ℤ (pos k)) (mul-mod_left a (suc b))
rem-product (negsuc a) (pos b) = rem_of_negative (suc a * b) (pos b) ∙ ap (λ k. neg_ℤ (pos k)) (mul-mod_left (suc a) b)
rem-product (negsuc a) (negsuc b) = ap pos (mul-mod_left (suc a) (suc b))

-- a product within the magnitude has its factor as quotient
pub quotient-product : (q n : ℤ) → (n ≡ pos 0 → ⊥) → unsigned_abs q ≤ 999999999999999 → quotient (q *ℤ n) n ≡ values.Num q
quotient-product q n other small =
    let some : int_eq n (pos 0) ≡ false = false_from_ne_true (int_eq n (pos 0)) (λ h. other (zero_from_test n h)) in
    let nothing : int_eq (int_rem (q *ℤ n) n) (pos 0) ≡ true = ap (λ k. int_eq k (pos 0)) (rem-product q n) in
    let answer = within_magnitude (int_div (q *ℤ n) n) in
    ap (λ b. cond b (values.Error errors.Div0) (cond (int_eq (int_rem (q *ℤ n) n) (pos 0)) answer (values.Error errors.Num))) some
    ∙ ap (λ b. cond b answer (values.Error errors.Num)) nothing
    ∙ ap within_magnitude (div-product q n other) ∙ within_is q small
