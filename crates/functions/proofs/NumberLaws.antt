-- Which numbers are within the magnitude.
use Rattle.std.proofs.Common.{◌≡◌, ℕ, ◌<◌, ◌≤◌, Bool, true, false, ◌&&◌, ℤ, pos, negsuc, unsigned_abs, ◌⊎◌, inl, inr, refl, sym, ap, ◌∙◌, cond, arith, leb}
use Rattle.std.proofs.lemmas.Bool.{le-leb, lt-leb}
use Rattle.std.proofs.lemmas.Bool.Decides.{nat_tests}
use Rattle.cell_values.specs.declared.errors.ErrorKind.TheVariants as errors
use Rattle.cell_values.specs.declared.values.Value.TheVariants as values
use Rattle.cell_values.specs.Value.{within_magnitude}
use Rattle.cell_values.specs.Value.{is_in_magnitude}

-- a test is true or false
pub choice : (b : Bool) → (b ≡ true) ⊎ (b ≡ false)
choice true = inl refl
choice false = inr refl

-- a number of greater magnitude is outside
pub outside : (n : ℤ) → 999999999999999 < unsigned_abs n → is_in_magnitude n ≡ false
outside (pos n) far = lt-leb n 999999999999999 far
outside (negsuc n) far = ap (λ b. b && true) (lt-leb n 999999999999998 (omega arith))

-- a number of lesser magnitude is inside
pub inside : (n : ℤ) → unsigned_abs n ≤ 999999999999999 → is_in_magnitude n ≡ true
inside (pos n) near = le-leb n 999999999999999 near
inside (negsuc n) near = ap (λ b. b && true) (le-leb n 999999999999998 (omega arith))

-- a number that is outside has a greater magnitude
pub far_from : (n : ℤ) → is_in_magnitude n ≡ false → 999999999999999 < unsigned_abs n
far_from (pos n) e = grind (arith, nat_tests)
far_from (negsuc n) e = grind (arith, nat_tests)

-- a number that is answered is the number
pub num_is : (n a : ℤ) → within_magnitude n ≡ values.Num a → n ≡ a
num_is n a e = elim (choice (is_in_magnitude n)) [
  | inl h ↦ (let same : values.Num n ≡ values.Num a = sym (ap (λ b. cond b (values.Num n) (values.Error errors.Num)) h) ∙ e in cc)
  | inr h ↦ (let same : values.Error errors.Num ≡ values.Num a = sym (ap (λ b. cond b (values.Num n) (values.Error errors.Num)) h) ∙ e in absurd (cc))
]
