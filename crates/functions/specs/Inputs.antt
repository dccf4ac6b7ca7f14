-- What a function's arguments are: values, and areas of cells.
use Rattle.std.specs.Prelude.{◌≡◌, ◌<◌, ◌≤◌, ◌%◌, ℕ, List, [], ◌∷◌, length, slice_get, Result, Ok, Err, All}
use Rattle.std.specs.Option.{option_map_or}
use Rattle.cell_values.specs.declared.errors.ErrorKind.{ErrorKind}
use Rattle.cell_values.specs.declared.errors.ErrorKind.TheVariants as errors
use Rattle.cell_values.specs.declared.values.Value.{Value}
use Rattle.cell_values.specs.declared.values.Value.TheVariants as values
use Rattle.functions.specs.declared.arguments.Arg.{Arg}
use Rattle.functions.specs.declared.arguments.Arg.TheVariants.{Direct, Cells}
use Rattle.functions.specs.declared.limits.TheConstants.{MOST_ARGUMENTS, MOST_VALUES}

-- the one value that an argument has; an area has none of its own
abbrev pub value_of : Arg → Value
value_of (Direct v) = v
value_of (Cells columns vs) = values.Error errors.Value

-- the value of the argument at a place, or another value where no argument stands there
abbrev pub argument_or : Value → List Arg → ℕ → Value
argument_or other args place = option_map_or value_of (slice_get args place) other

-- the value of the argument at a place, a Blank where no argument stands there
abbrev pub argument : List Arg → ℕ → Value
argument args place = argument_or values.Blank args place

-- a value before the values of a result; an error stays
abbrev pub with_first : {A : Type 0} → A → Result (List A) ErrorKind → Result (List A) ErrorKind
with_first x (Ok xs) = Ok (x ∷ xs)
with_first x (Err e) = Err e

-- the values of a list of results, or its first error
abbrev pub all_ok : {A : Type 0} → List (Result A ErrorKind) → Result (List A) ErrorKind
all_ok [] = Ok []
all_ok (Ok x ∷ rs) = with_first x (all_ok rs)
all_ok (Err e ∷ rs) = Err e

-- an argument in form: an area has at least one column, and at least one value and no more than the limit, in whole rows
abbrev pub IsInput : Arg → Type 0
IsInput (Direct v) = Unit {0}
IsInput (Cells columns vs) =
    (0 < columns) × (0 < length vs) × (length vs ≤ MOST_VALUES) × (length vs % columns ≡ 0)

-- the arguments of a call in form
pub record AreInputs (args : List Arg) : Type 0 where
  pub few : length args ≤ MOST_ARGUMENTS
  pub each : All IsInput args
