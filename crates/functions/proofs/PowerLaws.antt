-- Powers: those that leave the magnitude, and those of -1, 0 and 1.
use Rattle.std.proofs.Common.{◌≡◌, ℕ, zero, suc, ◌+◌, ◌<◌, ◌%◌, true, false, cond, ℤ, pos, negsuc, neg_ℤ, ◌*ℤ◌, unsigned_abs, refl, sym, ap, ◌∙◌, subst, arith, eqb}
use Rattle.std.proofs.Math.IntN.{*ℤ-one, *ℤ-negsuc, *ℤ_comm, zero-*ℤ, neg_ℤ-neg_ℤ}
use Rattle.std.proofs.Math.Nat.{le-mul_of_pos_right, mul_comm}
use Rattle.std.proofs.lemmas.Int.{unsigned_abs-mul}
use Rattle.cell_values.specs.declared.errors.ErrorKind.TheVariants as errors
use Rattle.cell_values.specs.declared.values.Value.TheVariants as values
use Rattle.cell_values.specs.Value.{within_magnitude}
use Rattle.functions.specs.Arithmetic.{exact_power}
use Rattle.cell_values.specs.Value.{is_in_magnitude}
use Rattle.functions.proofs.NumberLaws.{outside, far_from}

grows : (m n : ℤ) → 0 < unsigned_abs m → 999999999999999 < unsigned_abs n → 999999999999999 < unsigned_abs (m *ℤ n)
grows m n some far = omega (arith, unsigned_abs-mul m n, mul_comm (unsigned_abs m) (unsigned_abs n), le-mul_of_pos_right (unsigned_abs n) some)

stays_far : (n : ℤ) (i d j : ℕ) → j ≡ d + i → 0 < unsigned_abs n → 999999999999999 < unsigned_abs (exact_power n i) → 999999999999999 < unsigned_abs (exact_power n j)
stays_far n i zero j e some far = let same : i ≡ j = omega arith in let P : ℕ → Type 0 = λ k. 999999999999999 < unsigned_abs (exact_power n k) in subst P same far
stays_far n i (suc d) zero e some far = absurd (omega arith)
stays_far n i (suc d) (suc j) e some far = grows n (exact_power n j) some (stays_far n i d j (omega arith) some far)

-- a power that has left the magnitude doesn't come back
pub power_beyond : (n : ℤ) (i d j : ℕ) → j ≡ d + i → 0 < unsigned_abs n → is_in_magnitude (exact_power n i) ≡ false
    → values.Error errors.Num ≡ within_magnitude (exact_power n j)
power_beyond n i d j e some out =
    sym (ap (λ b. cond b (values.Num (exact_power n j)) (values.Error errors.Num)) (outside (exact_power n j) (stays_far n i d j e some (far_from (exact_power n i) out))))

-- a power within the magnitude
pub power_within : (n : ℤ) (j : ℕ) → is_in_magnitude (exact_power n j) ≡ true → values.Num (exact_power n j) ≡ within_magnitude (exact_power n j)
power_within n j e = sym (ap (λ b. cond b (values.Num (exact_power n j)) (values.Error errors.Num)) e)

-- the powers of 0
pub power_of_zero : (k : ℕ) → exact_power (pos 0) (suc k) ≡ pos 0
power_of_zero k = zero-*ℤ (exact_power (pos 0) k)

-- the powers of 1
pub power_of_one : (k : ℕ) → exact_power (pos 1) k ≡ pos 1
unfolding lib.IntN.one
power_of_one zero = refl
power_of_one (suc k) = *ℤ_comm (pos 1) (exact_power (pos 1) k) ∙ *ℤ-one (exact_power (pos 1) k) ∙ power_of_one k

minus_times : (n : ℤ) → negsuc 0 *ℤ n ≡ neg_ℤ n
unfolding lib.IntN.one
minus_times n = *ℤ_comm (negsuc 0) n ∙ *ℤ-negsuc n 0 ∙ ap neg_ℤ (*ℤ-one n)

two_more : (k : ℕ) → suc (suc k) % 2 ≡ k % 2
two_more k = omega arith

-- the powers of -1 alternate
pub power_of_minus_one : (k : ℕ) → exact_power (negsuc 0) k ≡ cond (eqb (k % 2) 0) (pos 1) (negsuc 0)
power_of_minus_one zero = refl
power_of_minus_one (suc zero) = refl
power_of_minus_one (suc (suc k)) =
    minus_times (negsuc 0 *ℤ exact_power (negsuc 0) k) ∙ ap neg_ℤ (minus_times (exact_power (negsuc 0) k)) ∙ neg_ℤ-neg_ℤ (exact_power (negsuc 0) k)
    ∙ power_of_minus_one k ∙ ap (λ m. cond (eqb m 0) (pos 1) (negsuc 0)) (sym (two_more k))
