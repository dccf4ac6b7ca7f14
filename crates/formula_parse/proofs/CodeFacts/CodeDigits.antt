-- Digits as the code takes them.
use Rattle.std.proofs.Common.{◌≡◌, ℕ, suc, zero, ◌-◌, ◌<◌, ◌≤◌, true, List, [], ◌∷◌, length, get_or, arith}
use Rattle.std.proofs.lemmas.Bool.Decides.{nat_tests}
use Rattle.std.specs.Char.{is_ascii_digit, digit_value}
use Rattle.std.specs.Str.{all_ascii_digits}
use Rattle.cell_values.proofs.PublicLaws.{both_true}

-- each byte of digits is a digit
pub digit_at : (ds : List ℕ) (i : ℕ) → all_ascii_digits ds ≡ true → i < length ds → is_ascii_digit (get_or ds i 0) ≡ true
digit_at [] i all lt = absurd (omega arith)
digit_at (c ∷ cs) zero all lt = (both_true (is_ascii_digit c) (all_ascii_digits cs) all).0
digit_at (c ∷ cs) (suc i) all lt = digit_at cs i (both_true (is_ascii_digit c) (all_ascii_digits cs) all).1 (omega arith)

-- a digit has its place behind `0` as its value
pub from_digit : (c : ℕ) → is_ascii_digit c ≡ true → (48 ≤ c) × (digit_value c ≡ c - 48)
from_digit c h = (grind (arith, nat_tests), grind (arith, nat_tests))
