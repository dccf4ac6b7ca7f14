-- Values, and what the operators make of them.
use Rattle.std.specs.Prelude.{ℤ, pos, neg_ℤ, ◌+ℤ◌, ◌-ℤ◌, ◌*ℤ◌, int_le, int_div, int_rem, Bool, ◌&&◌, if◌then◌else◌, Result, Ok, Err}
use Rattle.std.specs.Option.{ok_or}
use Rattle.std.specs.Ordering.{int_eq}
use Rattle.cell_values.specs.declared.errors.ErrorKind.{ErrorKind}
use Rattle.cell_values.specs.declared.errors.ErrorKind.TheVariants as errors
use Rattle.cell_values.specs.declared.limits.TheConstants.{LARGEST_NUMBER}
use Rattle.cell_values.specs.declared.values.Value.{Value}
use Rattle.cell_values.specs.declared.values.Value.TheVariants as values
use Rattle.cell_values.specs.Digits.{signed_number, without_outer_spaces}

-- the number that a value counts as, or the error
abbrev pub number_of : Value → Result ℤ ErrorKind
number_of (values.Num n) = Ok n
number_of (values.Text t) = ok_or (signed_number (without_outer_spaces t)) errors.Value
number_of (values.Bool b) = Ok (if b then pos 1 else pos 0)
number_of (values.Error e) = Err e
number_of values.Blank = Ok (pos 0)

-- the greatest magnitude of a number
abbrev pub MAGNITUDE : ℤ
MAGNITUDE = pos LARGEST_NUMBER

-- whether a number is within the magnitude
abbrev pub is_in_magnitude : ℤ → Bool
is_in_magnitude n = int_le (neg_ℤ MAGNITUDE) n && int_le n MAGNITUDE

-- a number where it is within the magnitude, else `#NUM!`
abbrev pub within_magnitude : ℤ → Value
within_magnitude n = if is_in_magnitude n then values.Num n else values.Error errors.Num

-- what an operation on numbers makes of two values: the first error is the answer
abbrev pub on_numbers : (ℤ → ℤ → Value) → Result ℤ ErrorKind → Result ℤ ErrorKind → Value
on_numbers f (Err e) n = values.Error e
on_numbers f (Ok m) (Err e) = values.Error e
on_numbers f (Ok m) (Ok n) = f m n

-- the sum of two values
abbrev pub add_of : Value → Value → Value
add_of a b = on_numbers (λ m n. within_magnitude (m +ℤ n)) (number_of a) (number_of b)

-- the difference of two values
abbrev pub sub_of : Value → Value → Value
sub_of a b = on_numbers (λ m n. within_magnitude (m -ℤ n)) (number_of a) (number_of b)

-- the product of two values
abbrev pub mul_of : Value → Value → Value
mul_of a b = on_numbers (λ m n. within_magnitude (m *ℤ n)) (number_of a) (number_of b)

-- the exact quotient of two numbers: none by 0, and none where it isn't whole
abbrev pub quotient : ℤ → ℤ → Value
quotient m n =
    if int_eq n (pos 0) then values.Error errors.Div0
    else (if int_eq (int_rem m n) (pos 0) then within_magnitude (int_div m n)
    else values.Error errors.Num)

-- the quotient of two values
abbrev pub div_of : Value → Value → Value
div_of a b = on_numbers quotient (number_of a) (number_of b)

-- what an operation on a number makes of a value: an error is the answer
abbrev pub on_number : (ℤ → Value) → Result ℤ ErrorKind → Value
on_number f (Err e) = values.Error e
on_number f (Ok n) = f n

-- a value with the opposite sign
abbrev pub negate_of : Value → Value
negate_of a = on_number (λ n. within_magnitude (neg_ℤ n)) (number_of a)

-- what a cell shows of a formula's value: Blank becomes 0
abbrev pub final_of : Value → Value
final_of values.Blank = values.Num (pos 0)
final_of v = v
