-- For the crate's own functions: what the steps of an evaluation come to.
use Rattle.std.specs.Prelude.{◌≡◌, ℕ, ℤ, suc, pos, ◌+◌, ◌-◌, ◌≤◌, nat_le, int_lt, unsigned_abs, Bool, true, false, ◌&&◌, if◌then◌else◌, List, [], ◌∷◌, map, slice_get, All, Option, Some, None, Result, Ok, Err}
use Rattle.std.specs.Option.{option_map_or}
use Rattle.cell_refs.specs.declared.areas.Area.{Area}
use Rattle.cell_refs.specs.Area.{size_of}
use Rattle.cell_values.specs.declared.errors.ErrorKind.{ErrorKind}
use Rattle.cell_values.specs.declared.errors.ErrorKind.TheVariants as errors
use Rattle.cell_values.specs.declared.values.Value.{Value}
use Rattle.cell_eval.specs.declared.choices.Chooser.{Chooser}
use Rattle.cell_eval.specs.declared.halts.Halt.{Halt}
use Rattle.cell_eval.specs.declared.halts.Halt.TheVariants as halts
use Rattle.cell_eval.specs.Choices.{chooser_answer}
use Rattle.formula_parse.specs.declared.limits.TheConstants.{LARGEST_AREA}
use Rattle.formula_parse.specs.declared.callees.Callee.{Callee}
use Rattle.formula_parse.specs.declared.callees.Callee.TheVariants as callees
use Rattle.formula_parse.specs.declared.nodes.Node.{Node}
use Rattle.formula_parse.specs.declared.operators.Operator.{Operator}
use Rattle.formula_parse.specs.Tree.{areas_named, site_count}
use Rattle.functions.specs.declared.arguments.Arg.{Arg}
use Rattle.functions.specs.declared.functions.Function.{Function}
use Rattle.functions.specs.Functions.{takes_area}
use Rattle.workbook.specs.Evaluation.{World, Answer, Val, Asks, Needs, Argument, part_of, arguments_of, answers_of, with_all, with_input, with_inputs, chain_value, operation_of, call_answer, rtd_answer, added_answer, chosen_at, own_site}

-- the answer of a part of a tree behind so many sites
unfoldable pub answer_at : World → Node → ℕ → Answer
answer_at world node before = (part_of world node).value before

-- the answers of parts behind so many sites
unfoldable pub answers_at : World → List Node → ℕ → List Answer
answers_at world nodes before = answers_of before (map (part_of world) nodes)

-- the arguments that parts are behind so many sites
unfoldable pub arguments_at : World → List Node → ℕ → List Argument
arguments_at world nodes before = arguments_of before (map (part_of world) nodes)

-- the area that a part of a tree refers to, where it is a reference or an area and nothing else
unfoldable pub area_at : World → Node → Option Area
area_at world node = (part_of world node).area

-- the area that a function takes, if it takes one
abbrev pub taken_area : Bool → Option Area → Option Area
taken_area true area = area
taken_area false area = None

-- a part as an argument behind so many sites
abbrev pub argument_at : World → Node → ℕ → Argument
argument_at world node before = record { area = area_at world node; value = answer_at world node before }

-- the answer of a chain behind so many sites
unfoldable pub chain_at : World → List Node → List Operator → ℕ → Answer
chain_at world operands ops before = with_all (answers_at world operands before) (λ vs. Val (chain_value ops vs))

-- the answer of a call behind so many sites, before Blank is made 0
unfoldable pub call_at : World → Callee → List Node → ℕ → Answer
call_at world callee arguments before = call_answer world callee (suc before) (arguments_at world arguments (before + own_site callee))

-- the answer of a call of a built-in function behind so many sites, before Blank is made 0
unfoldable pub built_in_at : World → Function → List Node → ℕ → Answer
built_in_at world f arguments before = call_answer world (callees.BuiltIn f) 0 (arguments_at world arguments before)

-- the answer of a call of RTD behind so many sites
unfoldable pub rtd_at : World → List Node → ℕ → Answer
rtd_at world arguments before = rtd_answer world (arguments_at world arguments before)

-- the answer of a call of an added function behind so many sites, before Blank is made 0
unfoldable pub added_at : World → List ℕ → List Node → ℕ → Answer
added_at world name arguments before = added_answer world (world.registered name) (suc before) name (arguments_at world arguments (before + 1))

-- the answer of a function that chooses behind so many sites
unfoldable pub chooser_at : World → Chooser → List Node → ℕ → Answer
chooser_at world rule arguments before = chooser_answer rule (arguments_at world arguments before)

-- the answer of the argument at a place behind so many sites
unfoldable pub only_at : World → List Node → ℕ → ℕ → Answer
only_at world arguments place before = chosen_at (slice_get (arguments_at world arguments before) place)

-- what stands left in a chain combined with the operand behind the operator at a place
abbrev pub combination_of : List Operator → ℕ → Value → Value → Value
combination_of ops place left right = option_map_or (λ op. operation_of op left right) (slice_get ops place) left

-- how many sites stand in parts
abbrev pub sites_among : List Node → ℕ
sites_among [] = 0
sites_among (node ∷ nodes) = site_count node + sites_among nodes

-- each area that a part names has at most 65,536 cells
unfoldable pub NamesSmallAreas : ℕ → Node → Type 0
NamesSmallAreas home node = All (λ area. size_of area ≤ LARGEST_AREA) (areas_named node home)

-- why an evaluation went no further: there was no memory, or its answer is no value
abbrev pub Halts : Answer → Halt → Type 0
Halts answer halts.Memory = Unit {0}
Halts answer (halts.Topic topic) = answer ≡ Needs topic
Halts answer (halts.Call site name args) = answer ≡ Asks site name args

-- an evaluation comes to a value, or halts
abbrev pub ComesTo : Answer → Result Value Halt → Type 0
ComesTo answer (Ok v) = answer ≡ Val v
ComesTo answer (Err halt) = Halts answer halt

-- all answers are these values
pub record GiveAll (answers : List Answer) (vs : List Value) : Type 0 where
  pub goes_on : (next : List Value → Answer) → with_all answers next ≡ next vs

-- going on with all answers halts
pub record HaltAll (answers : List Answer) (halt : Halt) : Type 0 where
  pub stays : (next : List Value → Answer) → Halts (with_all answers next) halt

-- the argument at this place is what a function takes
pub record IsTaken (world : World) (f : Function) (place : ℕ) (argument : Argument) (arg : Arg) : Type 0 where
  pub goes_on : (next : Arg → Answer) → with_input world (takes_area f place) argument next ≡ next arg

-- going on with the argument at this place as a function takes it halts
pub record HaltsTaken (world : World) (f : Function) (place : ℕ) (argument : Argument) (halt : Halt) : Type 0 where
  pub stays : (next : Arg → Answer) → Halts (with_input world (takes_area f place) argument next) halt

-- the arguments, those from this place on, are what a function takes
pub record AreTaken (world : World) (f : Function) (place : ℕ) (arguments : List Argument) (args : List Arg) : Type 0 where
  pub goes_on : (next : List Arg → Answer) → with_inputs world f place arguments next ≡ next args

-- going on with the arguments as a function takes them halts
pub record HaltTaken (world : World) (f : Function) (place : ℕ) (arguments : List Argument) (halt : Halt) : Type 0 where
  pub stays : (next : List Arg → Answer) → Halts (with_inputs world f place arguments next) halt
