-- What ABS, SIGN, MOD, QUOTIENT and POWER make of numbers.
use Rattle.std.specs.Prelude.{ℕ, zero, suc, ℤ, pos, negsuc, ◌-ℤ◌, ◌*ℤ◌, ◌==◌, ◌&&◌, not, int_lt, Bool, int_div, int_rem, unsigned_abs, if◌then◌else◌}
use Rattle.std.specs.Ordering.{int_eq}
use Rattle.cell_values.specs.declared.errors.ErrorKind.TheVariants as errors
use Rattle.cell_values.specs.declared.values.Value.{Value}
use Rattle.cell_values.specs.declared.values.Value.TheVariants as values
use Rattle.cell_values.specs.Value.{number_of, on_number, on_numbers, within_magnitude}

-- ABS: the magnitude
abbrev pub abs_of : Value → Value
abs_of v = on_number (λ n. within_magnitude (pos (unsigned_abs n))) (number_of v)

-- -1 below 0, 0 at 0, 1 above
abbrev pub sign : ℤ → ℤ
sign (pos zero) = pos 0
sign (pos (suc n)) = pos 1
sign (negsuc n) = negsuc 0

-- SIGN: -1, 0 or 1
abbrev pub sign_of : Value → Value
sign_of v = on_number (λ n. values.Num (sign n)) (number_of v)

-- whether one number is below 0 and the other above
abbrev pub signs_differ : ℤ → ℤ → Bool
signs_differ n k = if int_lt n (pos 0) then int_lt (pos 0) k else int_lt k (pos 0)

-- whether the quotient toward zero is above n by k: something is left, and the signs differ
abbrev pub is_rounded_up : ℤ → ℤ → Bool
is_rounded_up n k = not (int_eq (int_rem n k) (pos 0)) && signs_differ n k

-- the greatest whole number that is at most n by k
abbrev pub floor : ℤ → ℤ → ℤ
floor n k = if is_rounded_up n k then int_div n k -ℤ pos 1 else int_div n k

-- n less k times the floor of n by k; by 0 it is `#DIV/0!`
abbrev pub modulus : ℤ → ℤ → Value
modulus n k =
    if int_eq k (pos 0) then values.Error errors.Div0 else within_magnitude (n -ℤ k *ℤ floor n k)

-- MOD: what the floor of a division leaves
abbrev pub mod_of : Value → Value → Value
mod_of a b = on_numbers modulus (number_of a) (number_of b)

-- n by k toward zero; by 0 it is `#DIV/0!`
abbrev pub whole_quotient : ℤ → ℤ → Value
whole_quotient n k =
    if int_eq k (pos 0) then values.Error errors.Div0 else within_magnitude (int_div n k)

-- QUOTIENT: the quotient toward zero
abbrev pub quotient_of : Value → Value → Value
quotient_of a b = on_numbers whole_quotient (number_of a) (number_of b)

-- n multiplied with itself, k factors in all
abbrev pub exact_power : ℤ → ℕ → ℤ
exact_power n zero = pos 1
exact_power n (suc k) = n *ℤ exact_power n k

-- n to the k: 0 to the 0 is `#NUM!`, 0 to a negative k `#DIV/0!`, and to a negative k only 1 and -1 have a whole power
abbrev pub power : ℤ → ℤ → Value
power n (pos zero) = if int_eq n (pos 0) then values.Error errors.Num else values.Num (pos 1)
power n (pos (suc k)) = within_magnitude (exact_power n (suc k))
power n (negsuc k) =
    if int_eq n (pos 0) then values.Error errors.Div0
    else (if unsigned_abs n == 1 then within_magnitude (exact_power n (suc k))
    else values.Error errors.Num)

-- POWER: the first number to the second
abbrev pub power_of : Value → Value → Value
power_of a b = on_numbers power (number_of a) (number_of b)
