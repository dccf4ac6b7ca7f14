-- What the answers of parts are.
use Rattle.std.proofs.Common.{◌≡◌, ℕ, ℤ, suc, ◌+◌, Bool, List, [], ◌∷◌, map, length, refl, ap, ◌∙◌}
use Rattle.cell_refs.specs.declared.references.RefText.{RefText}
use Rattle.cell_refs.specs.RefText.{cell_at}
use Rattle.cell_values.specs.declared.errors.ErrorKind.{ErrorKind}
use Rattle.cell_values.specs.declared.errors.ErrorKind.TheVariants as errors
use Rattle.cell_values.specs.declared.texts.Text.{Text}
use Rattle.cell_values.specs.declared.values.Value.TheVariants as values
use Rattle.cell_eval.specs.Steps.{answer_at, answers_at, arguments_at, area_at, call_at, chain_at}
use Rattle.cell_eval.proofs.SiteLaws.{part_sites}
use Rattle.formula_parse.proofs.PublicLaws.{fold_number, fold_text, fold_error, fold_boolean, fold_reference, fold_area, fold_call, fold_parentheses, fold_negation, fold_chain}
use Rattle.formula_parse.specs.declared.callees.Callee.{Callee}
use Rattle.formula_parse.specs.declared.nodes.Node.{Node}
use Rattle.formula_parse.specs.declared.nodes.Node.TheVariants as nodes
use Rattle.formula_parse.specs.declared.operators.Operator.{Operator}
use Rattle.formula_parse.specs.Tree.{site_count}
use Rattle.workbook.specs.Evaluation.{World, Part, Val, Argument, part_of, part_step, arguments_of, answers_of, error_answer, final_answer, then_with, repeated_negation}

-- the answer of a number
pub answer_number : (world : World) (n : ℤ) (before : ℕ) → answer_at world (nodes.Number n) before ≡ Val (values.Num n)
unfolding answer_at
answer_number world n before = ap (λ (part : Part). part.value before) (fold_number Part (part_step world) n)

-- the answer of a text
pub answer_text : (world : World) (t : Text) (before : ℕ) → answer_at world (nodes.Text t) before ≡ Val (values.Text t)
unfolding answer_at
answer_text world t before = ap (λ (part : Part). part.value before) (fold_text Part (part_step world) t)

-- the answer of an error
pub answer_error : (world : World) (e : ErrorKind) (before : ℕ) → answer_at world (nodes.Error e) before ≡ Val (values.Error e)
unfolding answer_at
answer_error world e before = ap (λ (part : Part). part.value before) (fold_error Part (part_step world) e)

-- the answer of a Boolean
pub answer_boolean : (world : World) (b : Bool) (before : ℕ) → answer_at world (nodes.Boolean b) before ≡ Val (values.Bool b)
unfolding answer_at
answer_boolean world b before = ap (λ (part : Part). part.value before) (fold_boolean Part (part_step world) b)

-- the answer of a reference
pub answer_reference : (world : World) (r : RefText) (before : ℕ) → answer_at world (nodes.Reference r) before ≡ Val (world.input (cell_at r world.home))
unfolding answer_at
answer_reference world r before = ap (λ (part : Part). part.value before) (fold_reference Part (part_step world) r)

-- the answer of an area
pub answer_area : (world : World) (a b : RefText) (before : ℕ) → answer_at world (nodes.Area a b) before ≡ error_answer errors.Value
unfolding answer_at
answer_area world a b before = ap (λ (part : Part). part.value before) (fold_area Part (part_step world) a b)

-- the answer of a call
pub answer_call : (world : World) (callee : Callee) (arguments : List Node) (before : ℕ) → answer_at world (nodes.Call callee arguments) before ≡ final_answer (call_at world callee arguments before)
unfolding answer_at call_at arguments_at
answer_call world callee arguments before = ap (λ (part : Part). part.value before) (fold_call Part (part_step world) callee arguments)

-- the answer of what stands in parentheses
pub answer_parentheses : (world : World) (inner : Node) (before : ℕ) → answer_at world (nodes.Parentheses inner) before ≡ answer_at world inner before
unfolding answer_at
answer_parentheses world inner before = ap (λ (part : Part). part.value before) (fold_parentheses Part (part_step world) inner)

-- the answer of an operand behind signs
pub answer_negation : (world : World) (count : ℕ) (operand : Node) (before : ℕ) → answer_at world (nodes.Negation count operand) before ≡ then_with (answer_at world operand before) (λ v. Val (repeated_negation count v))
unfolding answer_at
answer_negation world count operand before = ap (λ (part : Part). part.value before) (fold_negation Part (part_step world) count operand)

-- the answer of a chain
pub answer_chain : (world : World) (operands : List Node) (ops : List Operator) (before : ℕ) → answer_at world (nodes.Chain operands ops) before ≡ chain_at world operands ops before
unfolding answer_at chain_at answers_at
answer_chain world operands ops before = ap (λ (part : Part). part.value before) (fold_chain Part (part_step world) operands ops)

-- the answers of no parts
pub answers_none : (world : World) (before : ℕ) → answers_at world [] before ≡ []
unfolding answers_at
answers_none world before = refl

-- the answer of the first part, and those of the others
pub answers_first : (world : World) (n : Node) (ns : List Node) (before : ℕ) → answers_at world (n ∷ ns) before ≡ answer_at world n before ∷ answers_at world ns (before + site_count n)
unfolding answers_at answer_at
answers_first world n ns before =
    ap (λ k. (part_of world n).value before ∷ answers_of (before + k) (map (part_of world) ns)) (part_sites world n)

-- no arguments
pub arguments_none : (world : World) (before : ℕ) → arguments_at world [] before ≡ []
unfolding arguments_at
arguments_none world before = refl

-- the first argument, and the others
pub arguments_first : (world : World) (n : Node) (ns : List Node) (before : ℕ) → arguments_at world (n ∷ ns) before ≡ (record { area = area_at world n; value = answer_at world n before }) ∷ arguments_at world ns (before + site_count n)
unfolding arguments_at answer_at area_at
arguments_first world n ns before =
    ap (λ k. (record { area = (part_of world n).area; value = (part_of world n).value before }) ∷ arguments_of (before + k) (map (part_of world) ns)) (part_sites world n)

-- the answers of arguments are those of their parts
placed_values : (before : ℕ) (parts : List Part) → map (λ (a : Argument). a.value) (arguments_of before parts) ≡ answers_of before parts
placed_values before [] = refl
placed_values before (part ∷ parts) = ap (λ list. part.value before ∷ list) (placed_values (before + part.sites) parts)

pub argument_values : (world : World) (ns : List Node) (before : ℕ) → map (λ (a : Argument). a.value) (arguments_at world ns before) ≡ answers_at world ns before
unfolding arguments_at answers_at
argument_values world ns before = placed_values before (map (part_of world) ns)

-- there are as many arguments as parts
placed_count : (before : ℕ) (parts : List Part) → length (arguments_of before parts) ≡ length parts
placed_count before [] = refl
placed_count before (part ∷ parts) = ap suc (placed_count (before + part.sites) parts)

parts_count : (world : World) (ns : List Node) → length (map (part_of world) ns) ≡ length ns
parts_count world [] = refl
parts_count world (n ∷ ns) = ap suc (parts_count world ns)

pub argument_count : (world : World) (ns : List Node) (before : ℕ) → length (arguments_at world ns before) ≡ length ns
unfolding arguments_at
argument_count world ns before = placed_count before (map (part_of world) ns) ∙ parts_count world ns
