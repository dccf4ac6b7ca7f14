-- What AND, OR and NOT make of their arguments.
use Rattle.std.specs.Prelude.{Bool, not, Option, Some, None, Result, Ok, Err, List, [], ◌∷◌}
use Rattle.std.specs.List.{filter_map, flat_map, list_all, list_any}
use Rattle.cell_values.specs.declared.errors.ErrorKind.{ErrorKind}
use Rattle.cell_values.specs.declared.errors.ErrorKind.TheVariants as errors
use Rattle.cell_values.specs.declared.values.Value.{Value}
use Rattle.cell_values.specs.declared.values.Value.TheVariants as values
use Rattle.cell_values.specs.Coercion.{truth_of}
use Rattle.functions.specs.declared.arguments.Arg.{Arg}
use Rattle.functions.specs.declared.arguments.Arg.TheVariants.{Direct, Cells}
use Rattle.functions.specs.Inputs.{all_ok}

-- what a cell of an area gives: its boolean, a number's boolean, or its error; texts and Blanks are skipped
abbrev pub truth_in_cell : Value → Option (Result Bool ErrorKind)
truth_in_cell (values.Num n) = Some (truth_of (values.Num n))
truth_in_cell (values.Bool b) = Some (Ok b)
truth_in_cell (values.Error e) = Some (Err e)
truth_in_cell v = None

-- what an argument gives: a direct one the boolean that it counts as, an area the booleans of its cells
abbrev pub truths_of : Arg → List (Result Bool ErrorKind)
truths_of (Direct v) = truth_of v ∷ []
truths_of (Cells columns vs) = filter_map truth_in_cell vs

-- the booleans to judge, or the first error among them
abbrev pub truths : List Arg → Result (List Bool) ErrorKind
truths args = all_ok (flat_map truths_of args)

-- what a function makes of booleans: an error is the answer, and where there is none at all `#VALUE!`
abbrev pub verdict_of : (List Bool → Bool) → Result (List Bool) ErrorKind → Value
verdict_of f (Err e) = values.Error e
verdict_of f (Ok []) = values.Error errors.Value
verdict_of f (Ok (b ∷ bs)) = values.Bool (f (b ∷ bs))

-- AND: whether all are true
abbrev pub and_of : List Arg → Value
and_of args = verdict_of (λ bs. list_all (λ b. b) bs) (truths args)

-- OR: whether any is true
abbrev pub or_of : List Arg → Value
or_of args = verdict_of (λ bs. list_any (λ b. b) bs) (truths args)

-- the opposite of a boolean: an error is the answer
abbrev pub opposite_of : Result Bool ErrorKind → Value
opposite_of (Ok b) = values.Bool (not b)
opposite_of (Err e) = values.Error e

-- NOT: the opposite of the boolean that a value counts as
abbrev pub not_of : Value → Value
not_of v = opposite_of (truth_of v)
