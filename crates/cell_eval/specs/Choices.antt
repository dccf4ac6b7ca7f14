-- For the crate's own functions: what IF, IFERROR, IFNA and CHOOSE choose by the value of their first argument.
use Rattle.std.specs.Prelude.{ℕ, ℤ, ◌-◌, pos, int_lt, nat_lt, unsigned_abs, Bool, true, false, if◌then◌else◌, List, [], ◌∷◌, length, slice_get, Option, Some, None, Result, Ok, Err}
use Rattle.cell_values.specs.declared.errors.ErrorKind.{ErrorKind}
use Rattle.cell_values.specs.declared.errors.ErrorKind.TheVariants as errors
use Rattle.cell_values.specs.declared.values.Value.{Value}
use Rattle.cell_values.specs.declared.values.Value.TheVariants as values
use Rattle.cell_values.specs.Coercion.{truth_of}
use Rattle.cell_values.specs.Value.{number_of}
use Rattle.cell_eval.specs.declared.choices.Choice.{Choice}
use Rattle.cell_eval.specs.declared.choices.Choice.TheVariants as choices
use Rattle.cell_eval.specs.declared.choices.Chooser.{Chooser}
use Rattle.cell_eval.specs.declared.choices.Chooser.TheVariants as choosers
use Rattle.functions.specs.declared.functions.Function.{Function}
use Rattle.functions.specs.declared.functions.Function.TheVariants as functions
use Rattle.functions.specs.Kinds.{is_error, is_na}
use Rattle.workbook.specs.Evaluation.{Answer, Val, Argument, error_answer, then_with, chosen_at}

-- how a function chooses, if it is one that does
abbrev pub chooser_of : Function → Option Chooser
chooser_of functions.If = Some choosers.If
chooser_of functions.IfError = Some choosers.IfError
chooser_of functions.IfNa = Some choosers.IfNa
chooser_of functions.Choose = Some choosers.Choose
chooser_of other = None

-- IF, by the truth of its test and the number of its other arguments
abbrev pub choice_by_truth : Result Bool ErrorKind → ℕ → Choice
choice_by_truth (Err kind) count = choices.Value (values.Error kind)
choice_by_truth (Ok true) count = choices.Argument 0
choice_by_truth (Ok false) count = if nat_lt 1 count then choices.Argument 1 else choices.Value (values.Bool false)

-- CHOOSE, by its index
abbrev pub choice_by_index : Result ℤ ErrorKind → Choice
choice_by_index (Err kind) = choices.Value (values.Error kind)
choice_by_index (Ok n) = if int_lt (pos 0) n then choices.Argument (unsigned_abs n - 1) else choices.Value (values.Error errors.Value)

-- what is chosen by the value of the first argument, where so many others follow
abbrev pub choice_after : Chooser → Value → ℕ → Choice
choice_after choosers.If v count = choice_by_truth (truth_of v) count
choice_after choosers.IfError v count = if is_error v then choices.Argument 0 else choices.Value v
choice_after choosers.IfNa v count = if is_na v then choices.Argument 0 else choices.Value v
choice_after choosers.Choose v count = choice_by_index (number_of v)

-- the answer of a choice among these arguments
abbrev pub chosen_answer : Choice → List Argument → Answer
chosen_answer (choices.Value v) others = Val v
chosen_answer (choices.Argument place) others = chosen_at (slice_get others place)

-- the answer of a function that chooses
abbrev pub chooser_answer : Chooser → List Argument → Answer
chooser_answer rule [] = error_answer errors.Value
chooser_answer rule (first ∷ others) = then_with first.value (λ v. chosen_answer (choice_after rule v (length others)) others)
