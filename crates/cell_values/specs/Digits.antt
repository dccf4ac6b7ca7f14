-- Decimal digits, and the numbers that they stand for.
use Rattle.std.specs.Prelude.{ℕ, ℤ, pos, neg_ℤ, Bool, false, ◌==◌, ◌&&◌, nat_lt, nat_le, if◌then◌else◌, List, [], ◌∷◌, reverse, length, Option, Some, None}
use Rattle.std.specs.Char.{is_ascii_digit}
use Rattle.std.specs.List.{list_all}
use Rattle.std.specs.Option.{option_map}
use Rattle.std.specs.Str.{all_ascii_digits}
use Rattle.std.specs.Str.Parse.{digits_value}
use Rattle.cell_values.specs.declared.limits.TheConstants.{LARGEST_NUMBER}

-- one or more decimal digits, whose value is within the magnitude
abbrev pub is_whole : List ℕ → Bool
is_whole ds =
    all_ascii_digits ds && (nat_lt 0 (length ds) && nat_le (digits_value 10 ds) LARGEST_NUMBER)

-- the number that such digits stand for
abbrev pub whole_number : List ℕ → Option ℕ
whole_number ds = if is_whole ds then Some (digits_value 10 ds) else None

-- the number below zero of this magnitude
abbrev pub below_zero : ℕ → ℤ
below_zero n = neg_ℤ (pos n)

-- whether bytes are one or more decimal digits
abbrev pub are_digits : List ℕ → Bool
are_digits [] = false
are_digits (c ∷ cs) = list_all is_ascii_digit (c ∷ cs)

-- whether bytes have the form of a number: an optional `-` and digits, with leading zeros or without
abbrev pub has_number_form : List ℕ → Bool
has_number_form [] = false
has_number_form (c ∷ cs) = if c == 45 then are_digits cs else are_digits (c ∷ cs)

-- the number of bytes that have this form, where it is within the magnitude; `-0` is 0
abbrev pub number_of_digits : List ℕ → Option ℤ
number_of_digits [] = None
number_of_digits (c ∷ cs) =
    if c == 45 then option_map below_zero (whole_number cs)
    else option_map pos (whole_number (c ∷ cs))

-- the same of bytes that a `+` may stand before in place of the `-`
abbrev pub signed_number : List ℕ → Option ℤ
signed_number [] = None
signed_number (c ∷ cs) =
    if c == 43 then option_map pos (whole_number cs) else number_of_digits (c ∷ cs)

-- what follows the spaces at the start
abbrev pub after_spaces : List ℕ → List ℕ
after_spaces [] = []
after_spaces (c ∷ cs) = if c == 32 then after_spaces cs else c ∷ cs

-- without the spaces at both ends
abbrev pub without_outer_spaces : List ℕ → List ℕ
without_outer_spaces t = reverse (after_spaces (reverse (after_spaces t)))
