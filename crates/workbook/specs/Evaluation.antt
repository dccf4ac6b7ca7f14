-- The evaluation of one formula: a recursion over its tree.
use Rattle.std.specs.Prelude.{ℕ, ℤ, zero, suc, ◌+◌, ◌-◌, pos, ◌==◌, int_lt, nat_lt, Bool, true, false, ◌||◌, if◌then◌else◌, List, [], ◌∷◌, map, length, slice_get, Option, Some, None, Result, Ok, Err, unsigned_abs}
use Rattle.std.specs.List.{list_any}
use Rattle.std.specs.Str.{chars}
use Rattle.addin_types.specs.declared.registrations.Kind.{Kind}
use Rattle.addin_types.specs.declared.registrations.Kind.TheVariants as kinds
use Rattle.addin_types.specs.declared.registrations.Registration.{Registration}
use Rattle.cell_refs.specs.declared.areas.Area.{Area}
use Rattle.cell_refs.specs.declared.grid.Cell.{Cell}
use Rattle.cell_refs.specs.Area.{area_of, cells_of}
use Rattle.cell_refs.specs.RefText.{cell_at}
use Rattle.cell_values.specs.declared.errors.ErrorKind.{ErrorKind}
use Rattle.cell_values.specs.declared.errors.ErrorKind.TheVariants as errors
use Rattle.cell_values.specs.declared.topics.Topic.{Topic}
use Rattle.cell_values.specs.declared.values.Value.{Value}
use Rattle.cell_values.specs.declared.values.Value.TheVariants as values
use Rattle.cell_values.specs.Coercion.{text_of, truth_of, join_of}
use Rattle.cell_values.specs.Comparison.{comparison_of}
use Rattle.cell_values.specs.Name.{is_name}
use Rattle.cell_values.specs.Value.{number_of, add_of, sub_of, mul_of, div_of, negate_of, final_of}
use Rattle.formula_parse.specs.declared.callees.Callee.{Callee}
use Rattle.formula_parse.specs.declared.callees.Callee.TheVariants as callees
use Rattle.formula_parse.specs.declared.nodes.Node.{Node}
use Rattle.formula_parse.specs.declared.nodes.Node.TheFolds.{fold-Node}
use Rattle.formula_parse.specs.declared.nodes.Node.TheOpen.{Node-F}
use Rattle.formula_parse.specs.declared.nodes.Node.TheOpen as layer
use Rattle.formula_parse.specs.declared.operators.Operator.{Operator}
use Rattle.formula_parse.specs.declared.operators.Operator.TheVariants as operators
use Rattle.functions.specs.declared.arguments.Arg.{Arg}
use Rattle.functions.specs.declared.arguments.Arg.TheVariants as inputs
use Rattle.functions.specs.declared.functions.Function.{Function}
use Rattle.functions.specs.declared.functions.Function.TheVariants as functions
use Rattle.functions.specs.Applied.{result_of}
use Rattle.functions.specs.Functions.{arity_of, is_within, takes_area}
use Rattle.functions.specs.Inputs.{all_ok}
use Rattle.functions.specs.Kinds.{is_error, is_na}

-- what a formula is evaluated over
pub record World : Type 0 where
  -- the sheet of the formula's cell
  pub home : ℕ
  -- the value of each cell that it names
  pub input : Cell → Value
  -- the value of a topic, where it is known
  pub known : Topic → Option Value
  -- the value that was accepted for the asynchronous call at a site, if one was
  pub accepted : ℕ → Option Value
  -- what a name was registered with, if it was
  pub registered : List ℕ → Option Registration
  -- what an add-in function answers
  pub answer : List ℕ → List Value → Value

-- what evaluation comes to: a value, the asynchronous call that it asks for first, or the first topic that isn't known
pub data Answer : Type 0 where
  Val : Value → Answer
  Asks : ℕ → List ℕ → List Value → Answer
  Needs : Topic → Answer

-- an error as an answer
abbrev pub error_answer : ErrorKind → Answer
error_answer kind = Val (values.Error kind)

-- going on with a value, or stopping
abbrev pub then_with : Answer → (Value → Answer) → Answer
then_with (Val v) next = next v
then_with (Asks site name args) next = Asks site name args
then_with (Needs topic) next = Needs topic

-- going on with all values, from left to right, or stopping at the first that there isn't
abbrev pub with_all : List Answer → (List Value → Answer) → Answer
with_all [] next = next []
with_all (a ∷ answers) next = then_with a (λ v. with_all answers (λ vs. next (v ∷ vs)))

-- an answer in which Blank is made 0
abbrev pub final_answer : Answer → Answer
final_answer (Val v) = Val (final_of v)
final_answer (Asks site name args) = Asks site name args
final_answer (Needs topic) = Needs topic

-- an operator between two values
abbrev pub operation_of : Operator → Value → Value → Value
operation_of (operators.Compare op) a b = comparison_of op a b
operation_of operators.Join a b = join_of a b
operation_of operators.Add a b = add_of a b
operation_of operators.Subtract a b = sub_of a b
operation_of operators.Multiply a b = mul_of a b
operation_of operators.Divide a b = div_of a b

-- the operators of a chain, from left to right
abbrev pub operations_of : Value → List Operator → List Value → Value
operations_of left [] vs = left
operations_of left (op ∷ ops) [] = left
operations_of left (op ∷ ops) (v ∷ vs) = operations_of (operation_of op left v) ops vs

-- the value of a chain
abbrev pub chain_value : List Operator → List Value → Value
chain_value ops [] = values.Blank
chain_value ops (v ∷ vs) = operations_of v ops vs

-- a value negated so many times
abbrev pub repeated_negation : ℕ → Value → Value
repeated_negation zero v = v
repeated_negation (suc count) v = repeated_negation count (negate_of v)

-- a part of a tree: how many sites stand in it, the area that it refers to where it is a reference or an area and nothing else, and its answer behind so many sites
pub record Part : Type 0 where
  pub sites : ℕ
  pub area : Option Area
  pub value : ℕ → Answer

-- an argument of a call
pub record Argument : Type 0 where
  pub area : Option Area
  pub value : Answer

-- how many sites stand in parts
abbrev pub sites_in : List Part → ℕ
sites_in [] = 0
sites_in (part ∷ parts) = part.sites + sites_in parts

-- the arguments that parts are, behind so many sites
abbrev pub arguments_of : ℕ → List Part → List Argument
arguments_of before [] = []
arguments_of before (part ∷ parts) = (record { area = part.area; value = part.value before }) ∷ arguments_of (before + part.sites) parts

-- the answers of parts, behind so many sites
abbrev pub answers_of : ℕ → List Part → List Answer
answers_of before [] = []
answers_of before (part ∷ parts) = part.value before ∷ answers_of (before + part.sites) parts

-- the values of an area, by rows
abbrev pub area_input : World → Area → Arg
area_input world area = inputs.Cells (area.right + 1 - area.left) (map world.input (cells_of area))

-- going on with an argument as a function takes it
abbrev pub with_input : World → Bool → Argument → (Arg → Answer) → Answer
with_input world takes argument next = input_by takes argument.area
  where
    input_by : Bool → Option Area → Answer
    input_by true (Some area) = next (area_input world area)
    input_by true None = then_with argument.value (λ v. next (inputs.Direct v))
    input_by false other = then_with argument.value (λ v. next (inputs.Direct v))

-- going on with all arguments as a function takes them, those from this place on
abbrev pub with_inputs : World → Function → ℕ → List Argument → (List Arg → Answer) → Answer
with_inputs world f place [] next = next []
with_inputs world f place (argument ∷ arguments) next =
    with_input world (takes_area f place) argument (λ first. with_inputs world f (suc place) arguments (λ others. next (first ∷ others)))

-- IF: the second or the third argument by the first
abbrev pub branch : Result Bool ErrorKind → Argument → List Argument → Answer
branch (Err kind) met unmet = error_answer kind
branch (Ok true) met unmet = met.value
branch (Ok false) met [] = Val (values.Bool false)
branch (Ok false) met (unmet ∷ others) = unmet.value

abbrev pub if_answer : List Argument → Answer
if_answer [] = error_answer errors.Value
if_answer (test ∷ []) = error_answer errors.Value
if_answer (test ∷ met ∷ unmet) = then_with test.value (λ v. branch (truth_of v) met unmet)

-- IFERROR and IFNA: the second argument where the first is such an error
abbrev pub unless_answer : (Value → Bool) → List Argument → Answer
unless_answer is_such [] = error_answer errors.Value
unless_answer is_such (first ∷ []) = error_answer errors.Value
unless_answer is_such (first ∷ second ∷ others) = then_with first.value (λ v. if is_such v then second.value else Val v)

-- CHOOSE: the argument of this place among those behind the first
abbrev pub chosen_at : Option Argument → Answer
chosen_at None = error_answer errors.Value
chosen_at (Some argument) = argument.value

abbrev pub choice_of : Result ℤ ErrorKind → List Argument → Answer
choice_of (Err kind) options = error_answer kind
choice_of (Ok n) options = if int_lt (pos 0) n then chosen_at (slice_get options (unsigned_abs n - 1)) else error_answer errors.Value

abbrev pub choose_answer : List Argument → Answer
choose_answer [] = error_answer errors.Value
choose_answer (index ∷ options) = then_with index.value (λ v. choice_of (number_of v) options)

-- a built-in function
abbrev pub function_answer : World → Function → List Argument → Answer
function_answer world functions.If arguments = if_answer arguments
function_answer world functions.IfError arguments = unless_answer is_error arguments
function_answer world functions.IfNa arguments = unless_answer is_na arguments
function_answer world functions.Choose arguments = choose_answer arguments
function_answer world f arguments = with_inputs world f 0 arguments (λ args. Val (result_of f args))

-- the most characters of a topic's string
abbrev pub LONGEST_STRING : ℕ
LONGEST_STRING = 255

-- the value of a topic
abbrev pub known_answer : World → Topic → Option Value → Answer
known_answer world topic None = Needs topic
known_answer world topic (Some v) = Val v

-- RTD by its texts: the server's name, the empty text and the topic's strings; a text that is no name is no server's
abbrev pub topic_answer : World → Result (List (List ℕ)) ErrorKind → Answer
topic_answer world (Err kind) = error_answer kind
topic_answer world (Ok []) = error_answer errors.Value
topic_answer world (Ok (name ∷ [])) = error_answer errors.Value
topic_answer world (Ok (name ∷ machine ∷ strings)) =
    if nat_lt 0 (length machine) || list_any (λ s. nat_lt LONGEST_STRING (length (chars s))) strings then error_answer errors.Value
    else (if is_name name then known_answer world (record { server = name; strings = strings }) (world.known (record { server = name; strings = strings })) else error_answer errors.Na)

-- the least and the most arguments of RTD
abbrev pub RTD_ARITY : ℕ × ℕ
RTD_ARITY = (3, 18)

abbrev pub rtd_answer : World → List Argument → Answer
rtd_answer world arguments =
    if is_within RTD_ARITY (length arguments)
    then with_all (map (λ a. a.value) arguments) (λ vs. topic_answer world (all_ok (map text_of vs)))
    else error_answer errors.Value

-- the accepted value of a site, or the asked call
abbrev pub accepted_answer : ℕ → List ℕ → List Value → Option Value → Answer
accepted_answer site name args None = Asks site name args
accepted_answer site name args (Some v) = Val v

-- a registered function by its kind
abbrev pub kind_answer : World → Kind → ℕ → List ℕ → List Value → Answer
kind_answer world kinds.Plain site name args = Val (world.answer name args)
kind_answer world (kinds.Asynchronous place) site name args = accepted_answer site name args (world.accepted site)

-- an added name, by what it was registered with
abbrev pub added_answer : World → Option Registration → ℕ → List ℕ → List Argument → Answer
added_answer world None site name arguments = error_answer errors.Name
added_answer world (Some registration) site name arguments =
    if length arguments == registration.arguments
    then with_all (map (λ a. a.value) arguments) (λ vs. kind_answer world registration.kind site name (map final_of vs))
    else error_answer errors.Value

-- a call, before Blank is made 0
abbrev pub call_answer : World → Callee → ℕ → List Argument → Answer
call_answer world (callees.BuiltIn f) site arguments = if is_within (arity_of f) (length arguments) then function_answer world f arguments else error_answer errors.Value
call_answer world callees.Rtd site arguments = rtd_answer world arguments
call_answer world (callees.Added name) site arguments = added_answer world (world.registered name) site name arguments

-- 1 for the call of an added name, which is a site, else 0
abbrev pub own_site : Callee → ℕ
own_site (callees.BuiltIn f) = 0
own_site callees.Rtd = 0
own_site (callees.Added name) = 1

-- a part that is one value
abbrev pub one_value : Value → Part
one_value v = record { sites = 0; area = None; value = λ before. Val v }

-- one part of a tree, over its own parts
abbrev pub part_step : World → Node-F Part → Part
part_step world (layer.Number n) = one_value (values.Num n)
part_step world (layer.Text t) = one_value (values.Text t)
part_step world (layer.Error e) = one_value (values.Error e)
part_step world (layer.Boolean b) = one_value (values.Bool b)
part_step world (layer.Reference r) = record { sites = 0; area = Some (area_of r r world.home); value = λ before. Val (world.input (cell_at r world.home)) }
part_step world (layer.Area a b) = record { sites = 0; area = Some (area_of a b world.home); value = λ before. error_answer errors.Value }
part_step world (layer.Call callee arguments) = record {
  sites = own_site callee + sites_in arguments;
  area = None;
  value = λ before. final_answer (call_answer world callee (suc before) (arguments_of (before + own_site callee) arguments));
}
part_step world (layer.Parentheses inner) = record { sites = inner.sites; area = None; value = inner.value }
part_step world (layer.Negation count operand) = record { sites = operand.sites; area = None; value = λ before. then_with (operand.value before) (λ v. Val (repeated_negation count v)) }
part_step world (layer.Chain operands ops) = record {
  sites = sites_in operands;
  area = None;
  value = λ before. with_all (answers_of before operands) (λ vs. Val (chain_value ops vs));
}

-- a part of a tree as it is evaluated
abbrev pub part_of : World → Node → Part
part_of world = fold-Node Part (part_step world)

-- the answer of a formula
abbrev pub answer_of : World → Node → Answer
answer_of world tree = final_answer ((part_of world tree).value 0)
