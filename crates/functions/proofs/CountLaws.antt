-- How large counts are.
use Rattle.std.proofs.Common.{◌<◌, ◌≤◌, ◌^◌, Bool, true, false, cond, List, sum_by, not, arith}
use Rattle.std.proofs.lemmas.List.Sums.{count_by-le-length, sum_by-le}
use Rattle.std.proofs.lemmas.List.Elements.{All-weaker}
use Rattle.functions.specs.declared.arguments.Arg.{Arg}
use Rattle.functions.specs.declared.arguments.Arg.TheVariants.{Direct, Cells}
use Rattle.functions.specs.Inputs.{IsInput, AreInputs}
use Rattle.functions.specs.Kinds.{is_blank, is_number}
use Rattle.functions.specs.Gathering.{number_count, value_count}

one_at_most : (b : Bool) → cond b 1 0 ≤ 65536
one_at_most true = omega arith
one_at_most false = omega arith

numbers_few : (arg : Arg) → IsInput arg → number_count arg ≤ 65536
numbers_few (Direct v) h = one_at_most _
numbers_few (Cells columns vs) h = omega (arith, count_by-le-length is_number vs, h.2)

values_few : (arg : Arg) → IsInput arg → value_count arg ≤ 65536
values_few (Direct v) h = omega arith
values_few (Cells columns vs) h = omega (arith, count_by-le-length (λ v. not (is_blank v)) vs, h.2)

-- the arguments of a call have few numbers
pub all_numbers_few : (args : List Arg) → AreInputs args → sum_by number_count args < 2 ^ 63
all_numbers_few args inputs =
    omega (arith, inputs.few, sum_by-le number_count 65536 args (All-weaker IsInput (λ arg. number_count arg ≤ 65536) numbers_few args inputs.each))

-- the arguments of a call have few values
pub all_values_few : (args : List Arg) → AreInputs args → sum_by value_count args < 2 ^ 63
all_values_few args inputs =
    omega (arith, inputs.few, sum_by-le value_count 65536 args (All-weaker IsInput (λ arg. value_count arg ≤ 65536) values_few args inputs.each))
