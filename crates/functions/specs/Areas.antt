-- What INDEX finds in an area.
use Rattle.std.specs.Prelude.{ℕ, ◌+◌, ◌-◌, ◌*◌, ◌/◌, ℤ, pos, int_lt, unsigned_abs, ◌||◌, if◌then◌else◌, List, length, slice_get, Option, Some, None, unwrap_or}
use Rattle.cell_values.specs.declared.errors.ErrorKind.TheVariants as errors
use Rattle.cell_values.specs.declared.values.Value.{Value}
use Rattle.cell_values.specs.declared.values.Value.TheVariants as values
use Rattle.cell_values.specs.Value.{number_of, on_numbers, final_of}
use Rattle.functions.specs.declared.arguments.Arg.{Arg}
use Rattle.functions.specs.declared.arguments.Arg.TheVariants.{Direct, Cells}
use Rattle.functions.specs.Inputs.{argument}

-- the value at a row and a column, counted from 0, of values that stand by rows
abbrev pub value_at : ℕ → List Value → ℕ → ℕ → Value
value_at columns vs row column = unwrap_or (slice_get vs (row * columns + column)) values.Blank

-- row n, column k, from 1: under 1 is `#VALUE!`, past the area `#REF!`; a Blank is answered as 0
abbrev pub area_cell : ℕ → List Value → ℤ → ℤ → Value
area_cell columns vs n k =
    if int_lt n (pos 1) || int_lt k (pos 1) then values.Error errors.Value
    else (if int_lt (pos (length vs / columns)) n || int_lt (pos columns) k
    then values.Error errors.Ref
    else final_of (value_at columns vs (unsigned_abs n - 1) (unsigned_abs k - 1)))

-- the same of an argument, which is `#VALUE!` where it isn't an area
abbrev pub argument_cell : Option Arg → ℤ → ℤ → Value
argument_cell (Some (Cells columns vs)) n k = area_cell columns vs n k
argument_cell (Some (Direct v)) n k = values.Error errors.Value
argument_cell None n k = values.Error errors.Value

-- INDEX: a cell of the area that is the first argument
abbrev pub index_of : List Arg → Value
index_of args =
    on_numbers (argument_cell (slice_get args 0)) (number_of (argument args 1))
    (number_of (argument args 2))
