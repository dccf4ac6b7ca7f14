-- For the crate's own functions: what is kept of the numbers that were met.
use Rattle.std.specs.Prelude.{ℤ, pos, ◌+ℤ◌, ◌*ℤ◌, if◌then◌else◌, Option, Some, None}
use Rattle.std.specs.Int.{int_max, int_min}
use Rattle.std.specs.Ordering.{int_eq}
use Rattle.cell_values.specs.declared.errors.ErrorKind.TheVariants as errors
use Rattle.cell_values.specs.declared.values.Value.{Value}
use Rattle.cell_values.specs.declared.values.Value.TheVariants as values
use Rattle.cell_values.specs.Value.{is_in_magnitude}
use Rattle.functions.specs.declared.tallies.Sum.{Sum}
use Rattle.functions.specs.declared.tallies.Product.{Product}
use Rattle.functions.specs.declared.tallies.Product.TheVariants.{Empty, Within, Beyond}
use Rattle.functions.specs.declared.tallies.Least.{Least}
use Rattle.functions.specs.declared.tallies.Greatest.{Greatest}

-- a sum with one number more
abbrev pub sum_step : Sum → ℤ → Sum
sum_step s n = record { 0 = s.0 +ℤ n }

-- what is kept of a product
abbrev pub product_so_far : ℤ → Product
product_so_far n = if is_in_magnitude n then Within n else Beyond

-- a product with one factor more; outside the magnitude it stays there unless the factor is 0
abbrev pub product_step : Product → ℤ → Product
product_step Empty n = product_so_far n
product_step (Within p) n = product_so_far (p *ℤ n)
product_step Beyond n = if int_eq n (pos 0) then Within (pos 0) else Beyond

-- a product as a value: 0 of no number, `#NUM!` outside the magnitude
abbrev pub product_value : Product → Value
product_value Empty = values.Num (pos 0)
product_value (Within p) = values.Num p
product_value Beyond = values.Error errors.Num

-- the lesser of what was kept and a number
abbrev pub lesser_of : Option ℤ → ℤ → Option ℤ
lesser_of None n = Some n
lesser_of (Some m) n = Some (int_min m n)

-- the least number with one more
abbrev pub least_step : Least → ℤ → Least
least_step s n = record { 0 = lesser_of s.0 n }

-- the greater of what was kept and a number
abbrev pub greater_of : Option ℤ → ℤ → Option ℤ
greater_of None n = Some n
greater_of (Some m) n = Some (int_max m n)

-- the greatest number with one more
abbrev pub greatest_step : Greatest → ℤ → Greatest
greatest_step s n = record { 0 = greater_of s.0 n }
