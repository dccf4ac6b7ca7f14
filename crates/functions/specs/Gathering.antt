-- What SUM, PRODUCT, MIN, MAX, COUNT and COUNTA make of their arguments.
use Rattle.std.specs.Prelude.{ℕ, ℤ, pos, ◌+ℤ◌, ◌*ℤ◌, not, Option, Some, None, Result, Ok, Err, List, [], ◌∷◌, fold, count_by, is_ok, if◌then◌else◌}
use Rattle.std.specs.Int.{int_max, int_min}
use Rattle.std.specs.List.{filter_map, flat_map, sum_by}
use Rattle.cell_values.specs.declared.errors.ErrorKind.{ErrorKind}
use Rattle.cell_values.specs.declared.values.Value.{Value}
use Rattle.cell_values.specs.declared.values.Value.TheVariants as values
use Rattle.cell_values.specs.Value.{number_of, within_magnitude}
use Rattle.functions.specs.declared.arguments.Arg.{Arg}
use Rattle.functions.specs.declared.arguments.Arg.TheVariants.{Direct, Cells}
use Rattle.functions.specs.Inputs.{all_ok}
use Rattle.functions.specs.Kinds.{is_blank, is_number}

-- what a cell of an area gives: its number or its error; texts, booleans and Blanks are skipped
abbrev pub number_in_cell : Value → Option (Result ℤ ErrorKind)
number_in_cell (values.Num n) = Some (Ok n)
number_in_cell (values.Error e) = Some (Err e)
number_in_cell v = None

-- what an argument gives: a direct one the number that it counts as, an area the numbers of its cells
abbrev pub numbers_of : Arg → List (Result ℤ ErrorKind)
numbers_of (Direct v) = number_of v ∷ []
numbers_of (Cells columns vs) = filter_map number_in_cell vs

-- what all arguments give, from left to right
abbrev pub numbers_in : List Arg → List (Result ℤ ErrorKind)
numbers_in args = flat_map numbers_of args

-- the gathered numbers, or the first error among them
abbrev pub numbers_or_error : List Arg → Result (List ℤ) ErrorKind
numbers_or_error args = all_ok (numbers_in args)

-- what a function makes of the gathered numbers: an error is the answer
abbrev pub of_numbers : (List ℤ → Value) → Result (List ℤ) ErrorKind → Value
of_numbers f (Ok ns) = f ns
of_numbers f (Err e) = values.Error e

-- the exact sum of numbers
abbrev pub total : List ℤ → ℤ
total ns = fold ◌+ℤ◌ (pos 0) ns

-- SUM: the exact sum, `#NUM!` outside the magnitude
abbrev pub sum_of : List Arg → Value
sum_of args = of_numbers (λ ns. within_magnitude (total ns)) (numbers_or_error args)

-- the exact product of numbers, 0 for none
abbrev pub product : List ℤ → ℤ
product [] = pos 0
product (n ∷ ns) = fold ◌*ℤ◌ n ns

-- PRODUCT: the exact product, `#NUM!` outside the magnitude
abbrev pub product_of : List Arg → Value
product_of args = of_numbers (λ ns. within_magnitude (product ns)) (numbers_or_error args)

-- the least of numbers, 0 for none
abbrev pub least_of : List ℤ → ℤ
least_of [] = pos 0
least_of (n ∷ ns) = fold int_min n ns

-- MIN: the least number
abbrev pub min_of : List Arg → Value
min_of args = of_numbers (λ ns. values.Num (least_of ns)) (numbers_or_error args)

-- the greatest of numbers, 0 for none
abbrev pub greatest_of : List ℤ → ℤ
greatest_of [] = pos 0
greatest_of (n ∷ ns) = fold int_max n ns

-- MAX: the greatest number
abbrev pub max_of : List Arg → Value
max_of args = of_numbers (λ ns. values.Num (greatest_of ns)) (numbers_or_error args)

-- how many numbers an argument has: a direct one 1 where it counts as a number, an area its numbers
abbrev pub number_count : Arg → ℕ
number_count (Direct v) = if is_ok (number_of v) then 1 else 0
number_count (Cells columns vs) = count_by is_number vs

-- COUNT: how many numbers the arguments have; errors aren't counted
abbrev pub count_of : List Arg → Value
count_of args = values.Num (pos (sum_by number_count args))

-- how many values an argument has: a direct one 1, an area those that aren't Blank
abbrev pub value_count : Arg → ℕ
value_count (Direct v) = 1
value_count (Cells columns vs) = count_by (λ v. not (is_blank v)) vs

-- COUNTA: how many values the arguments have
abbrev pub counta_of : List Arg → Value
counta_of args = values.Num (pos (sum_by value_count args))
