-- What the functions answer.
use Rattle.std.specs.Prelude.{true, false, List, Option}
use Rattle.std.specs.Option.{option_map_or}
use Rattle.cell_values.specs.declared.errors.ErrorKind.TheVariants as errors
use Rattle.cell_values.specs.declared.values.Value.{Value}
use Rattle.cell_values.specs.declared.values.Value.TheVariants as values
use Rattle.functions.specs.declared.arguments.Arg.{Arg}
use Rattle.functions.specs.declared.functions.Function.{Function}
use Rattle.functions.specs.declared.functions.Function.TheVariants as functions
use Rattle.functions.specs.Areas.{index_of}
use Rattle.functions.specs.Arithmetic.{abs_of, sign_of, mod_of, quotient_of, power_of}
use Rattle.functions.specs.Gathering.{sum_of, product_of, min_of, max_of, count_of, counta_of}
use Rattle.functions.specs.Inputs.{argument}
use Rattle.functions.specs.Kinds.{is_number, is_text_value, is_logical, is_error, is_na, is_blank}
use Rattle.functions.specs.Logic.{and_of, or_of, not_of}
use Rattle.functions.specs.Texts.{len_of, left_of, right_of, mid_of, upper_of, lower_of, concatenate_of, exact_of, find_of, rept_of, trim_of, value_function_of}

-- what a function answers; IF, IFERROR, IFNA and CHOOSE choose among arguments that aren't evaluated yet, and have no answer of their own here
abbrev pub result_of : Function → List Arg → Value
result_of functions.True args = values.Bool true
result_of functions.False args = values.Bool false
result_of functions.If args = values.Error errors.Value
result_of functions.IfError args = values.Error errors.Value
result_of functions.IfNa args = values.Error errors.Value
result_of functions.And args = and_of args
result_of functions.Or args = or_of args
result_of functions.Not args = not_of (argument args 0)
result_of functions.IsNumber args = values.Bool (is_number (argument args 0))
result_of functions.IsText args = values.Bool (is_text_value (argument args 0))
result_of functions.IsLogical args = values.Bool (is_logical (argument args 0))
result_of functions.IsError args = values.Bool (is_error (argument args 0))
result_of functions.IsNa args = values.Bool (is_na (argument args 0))
result_of functions.IsBlank args = values.Bool (is_blank (argument args 0))
result_of functions.Na args = values.Error errors.Na
result_of functions.Sum args = sum_of args
result_of functions.Product args = product_of args
result_of functions.Min args = min_of args
result_of functions.Max args = max_of args
result_of functions.Count args = count_of args
result_of functions.CountA args = counta_of args
result_of functions.Abs args = abs_of (argument args 0)
result_of functions.Sign args = sign_of (argument args 0)
result_of functions.Mod args = mod_of (argument args 0) (argument args 1)
result_of functions.Quotient args = quotient_of (argument args 0) (argument args 1)
result_of functions.Power args = power_of (argument args 0) (argument args 1)
result_of functions.Choose args = values.Error errors.Value
result_of functions.Index args = index_of args
result_of functions.Len args = len_of args
result_of functions.Left args = left_of args
result_of functions.Right args = right_of args
result_of functions.Mid args = mid_of args
result_of functions.Upper args = upper_of args
result_of functions.Lower args = lower_of args
result_of functions.Concatenate args = concatenate_of args
result_of functions.Exact args = exact_of args
result_of functions.Find args = find_of args
result_of functions.Rept args = rept_of args
result_of functions.Trim args = trim_of args
result_of functions.Value args = value_function_of args

-- what the function of a name answers; no function's name is `#NAME?`
abbrev pub result_by_name : Option Function → List Arg → Value
result_by_name function args =
    option_map_or (λ f. result_of f args) function (values.Error errors.Name)
