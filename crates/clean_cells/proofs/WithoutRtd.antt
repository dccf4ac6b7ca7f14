-- A formula without an RTD call reads no topic.
use Rattle.std.proofs.Common.{◌≡◌, ℕ, ℤ, zero, suc, ◌+◌, ◌-◌, ◌==◌, pos, int_lt, unsigned_abs, Bool, true, false, cond, ◌&&◌, List, [], ◌∷◌, map, length, slice_get, All, Option, Some, None, Result, Ok, Err, refl, ap, sym, subst, ◌∙◌}
use Rattle.std.specs.List.{list_any, AllByRecursion}
use Rattle.std.specs.Option.{option_map_or}
use Rattle.std.proofs.lemmas.List.Elements.{All-head, All-tail}
use Rattle.std.proofs.lemmas.List.Folds.{list_any-append}
use Rattle.addin_types.specs.declared.registrations.Kind.{Kind}
use Rattle.addin_types.specs.declared.registrations.Kind.TheVariants as kinds
use Rattle.addin_types.specs.declared.registrations.Registration.{Registration}
use Rattle.cell_refs.specs.declared.areas.Area.{Area}
use Rattle.cell_refs.specs.declared.grid.Cell.{Cell}
use Rattle.cell_values.specs.declared.errors.ErrorKind.{ErrorKind}
use Rattle.cell_values.specs.declared.errors.ErrorKind.TheVariants as errors
use Rattle.cell_values.specs.declared.topics.Topic.{Topic}
use Rattle.cell_values.specs.declared.values.Value.{Value}
use Rattle.cell_values.specs.Coercion.{truth_of}
use Rattle.cell_values.specs.Topic.{same_topic}
use Rattle.cell_values.specs.Value.{final_of, number_of}
use Rattle.formula_parse.specs.declared.callees.Callee.{Callee}
use Rattle.formula_parse.specs.declared.callees.Callee.TheVariants as callees
use Rattle.formula_parse.specs.declared.nodes.Node.{Node}
use Rattle.formula_parse.specs.declared.nodes.Node.TheVariants as nodes
use Rattle.formula_parse.specs.declared.nodes.Node.TheOpen as layer
use Rattle.formula_parse.specs.declared.operators.Operator.{Operator}
use Rattle.formula_parse.specs.Callees.{is_rtd}
use Rattle.formula_parse.specs.Tree.{calls_of, calls_step, concat, has_rtd_call}
use Rattle.formula_parse.proofs.PublicLaws.{fold_number, fold_text, fold_error, fold_boolean, fold_reference, fold_area, fold_call, fold_parentheses, fold_negation, fold_chain, node_induction}
use Rattle.functions.specs.Applied.{result_of}
use Rattle.functions.specs.Functions.{arity_of, takes_area, is_within}
use Rattle.functions.specs.Kinds.{is_error, is_na}
use Rattle.functions.specs.declared.arguments.Arg.{Arg}
use Rattle.functions.specs.declared.arguments.Arg.TheVariants as inputs
use Rattle.functions.specs.declared.functions.Function.{Function}
use Rattle.functions.specs.declared.functions.Function.TheVariants as functions
use Rattle.workbook.specs.declared.contents.Content.{Content}
use Rattle.workbook.specs.declared.contents.Content.TheVariants as contents
use Rattle.workbook.specs.Book.{by_content, content_at}
use Rattle.workbook.specs.Evaluation.{World, Answer, Val, Asks, Needs, Part, Argument, then_with, with_all, chain_value, repeated_negation, arguments_of, answers_of, area_input, with_input, with_inputs, branch, if_answer, unless_answer, chosen_at, choice_of, choose_answer, function_answer, accepted_answer, kind_answer, added_answer, call_answer, final_answer, error_answer, own_site, part_of, part_step}
use Rattle.workbook.specs.Meaning.{Setting}
use Rattle.workbook.specs.Reads.{all_but, cell_reads, is_evaluated, needed_topic, reads_topic, world_in}
use Rattle.workbook.proofs.PublicLaws.{or_false}

-- ---- answers that need no topic
abbrev NeedsNone : Answer → Type 0
NeedsNone answer = needed_topic answer ≡ None

-- an argument whose answer needs none
abbrev IsFree : Argument → Type 0
IsFree argument = NeedsNone argument.value

either_free : (b : Bool) (a other : Answer) → NeedsNone a → NeedsNone other → NeedsNone (cond b a other)
either_free true a other h h_other = h
either_free false a other h h_other = h_other

then_free : (a : Answer) (next : Value → Answer) → NeedsNone a → ((v : Value) → NeedsNone (next v)) → NeedsNone (then_with a next)
then_free (Val v) next h leads = leads v
then_free (Asks site name args) next h leads = refl
then_free (Needs topic) next h leads = cc

all_free : (answers : List Answer) (next : List Value → Answer) → AllByRecursion NeedsNone answers → ((vs : List Value) → NeedsNone (next vs)) → NeedsNone (with_all answers next)
all_free [] next each leads = leads []
all_free (a ∷ answers) next each leads =
    then_free a (λ v. with_all answers (λ vs. next (v ∷ vs))) each.0 (λ v. all_free answers (λ vs. next (v ∷ vs)) each.1 (λ vs. leads (v ∷ vs)))

final_free : (a : Answer) → NeedsNone a → NeedsNone (final_answer a)
final_free (Val v) h = refl
final_free (Asks site name args) h = refl
final_free (Needs topic) h = cc

free_answers : (arguments : List Argument) → AllByRecursion IsFree arguments → AllByRecursion NeedsNone (map (λ a. a.value) arguments)
free_answers [] each = tt
free_answers (a ∷ arguments) each = (each.0, free_answers arguments each.1)

-- ---- functions that choose among their arguments
branch_free : (test : Result Bool ErrorKind) (met : Argument) (unmet : List Argument) → IsFree met → AllByRecursion IsFree unmet → NeedsNone (branch test met unmet)
branch_free (Err kind) met unmet h each = refl
branch_free (Ok true) met unmet h each = h
branch_free (Ok false) met [] h each = refl
branch_free (Ok false) met (a ∷ others) h each = each.0

if_free : (arguments : List Argument) → AllByRecursion IsFree arguments → NeedsNone (if_answer arguments)
if_free [] each = refl
if_free (test ∷ []) each = refl
if_free (test ∷ met ∷ unmet) each = then_free test.value (λ v. branch (truth_of v) met unmet) each.0 (λ v. branch_free (truth_of v) met unmet each.1.0 each.1.1)

unless_free : (is_such : Value → Bool) (arguments : List Argument) → AllByRecursion IsFree arguments → NeedsNone (unless_answer is_such arguments)
unless_free is_such [] each = refl
unless_free is_such (first ∷ []) each = refl
unless_free is_such (first ∷ second ∷ others) each =
    then_free first.value (λ v. cond (is_such v) second.value (Val v)) each.0 (λ v. either_free (is_such v) second.value (Val v) each.1.0 refl)

place_free : (options : List Argument) (place : ℕ) → AllByRecursion IsFree options → NeedsNone (chosen_at (slice_get options place))
place_free [] place each = refl
place_free (a ∷ options) zero each = each.0
place_free (a ∷ options) (suc place) each = place_free options place each.1

chosen_free : (index : Result ℤ ErrorKind) (options : List Argument) → AllByRecursion IsFree options → NeedsNone (choice_of index options)
chosen_free (Err kind) options each = refl
chosen_free (Ok n) options each =
    either_free (int_lt (pos 0) n) (chosen_at (slice_get options (unsigned_abs n - 1))) (error_answer errors.Value) (place_free options (unsigned_abs n - 1) each) refl

choose_free : (arguments : List Argument) → AllByRecursion IsFree arguments → NeedsNone (choose_answer arguments)
choose_free [] each = refl
choose_free (index ∷ options) each = then_free index.value (λ v. choice_of (number_of v) options) each.0 (λ v. chosen_free (number_of v) options each.1)

-- ---- a tree without an RTD call, in any world
module _ (world : World) where
  input_free : (takes : Bool) (area : Option Area) (value : Answer) (next : Arg → Answer) → NeedsNone value → ((arg : Arg) → NeedsNone (next arg))
      → NeedsNone (with_input world takes (record { area = area; value = value }) next)
  input_free true (Some area) value next h leads = leads (area_input world area)
  input_free true None value next h leads = then_free value (λ v. next (inputs.Direct v)) h (λ v. leads (inputs.Direct v))
  input_free false area value next h leads = then_free value (λ v. next (inputs.Direct v)) h (λ v. leads (inputs.Direct v))

  inputs_free : (function : Function) (place : ℕ) (arguments : List Argument) (next : List Arg → Answer) → AllByRecursion IsFree arguments → ((args : List Arg) → NeedsNone (next args))
      → NeedsNone (with_inputs world function place arguments next)
  inputs_free function place [] next each leads = leads []
  inputs_free function place (a ∷ arguments) next each leads =
      input_free (takes_area function place) a.area a.value (λ first. with_inputs world function (suc place) arguments (λ others. next (first ∷ others))) each.0
      (λ first. inputs_free function (suc place) arguments (λ others. next (first ∷ others)) each.1 (λ others. leads (first ∷ others)))

  function_free : (function : Function) (arguments : List Argument) → AllByRecursion IsFree arguments → NeedsNone (function_answer world function arguments)
  function_free functions.If arguments each = if_free arguments each
  function_free functions.IfError arguments each = unless_free is_error arguments each
  function_free functions.IfNa arguments each = unless_free is_na arguments each
  function_free functions.Choose arguments each = choose_free arguments each
  function_free other arguments each = inputs_free other 0 arguments (λ args. Val (result_of other args)) each (λ args. refl)

  accepted_free : (site : ℕ) (name : List ℕ) (args : List Value) (accepted : Option Value) → NeedsNone (accepted_answer site name args accepted)
  accepted_free site name args None = refl
  accepted_free site name args (Some v) = refl

  kind_free : (kind : Kind) (site : ℕ) (name : List ℕ) (args : List Value) → NeedsNone (kind_answer world kind site name args)
  kind_free kinds.Plain site name args = refl
  kind_free (kinds.Asynchronous place) site name args = accepted_free site name args (world.accepted site)

  added_free : (registration : Option Registration) (site : ℕ) (name : List ℕ) (arguments : List Argument) → AllByRecursion IsFree arguments → NeedsNone (added_answer world registration site name arguments)
  added_free None site name arguments each = refl
  added_free (Some r) site name arguments each =
      either_free (length arguments == r.arguments) (with_all (map (λ a. a.value) arguments) (λ vs. kind_answer world r.kind site name (map final_of vs))) (error_answer errors.Value)
      (all_free (map (λ a. a.value) arguments) (λ vs. kind_answer world r.kind site name (map final_of vs)) (free_answers arguments each) (λ vs. kind_free r.kind site name (map final_of vs)))
      refl

  call_free : (callee : Callee) (site : ℕ) (arguments : List Argument) → is_rtd callee ≡ false → AllByRecursion IsFree arguments → NeedsNone (call_answer world callee site arguments)
  call_free (callees.BuiltIn function) site arguments h each =
      either_free (is_within (arity_of function) (length arguments)) (function_answer world function arguments) (error_answer errors.Value) (function_free function arguments each) refl
  call_free callees.Rtd site arguments h each = cc
  call_free (callees.Added name) site arguments h each = added_free (world.registered name) site name arguments each

  -- ---- parts
  abbrev HasFree : Part → Type 0
  HasFree part = (before : ℕ) → NeedsNone (part.value before)

  -- what calls no RTD needs no topic, behind any number of sites
  abbrev IsFreeNode : Node → Type 0
  IsFreeNode node = has_rtd_call node ≡ false → HasFree (part_of world node)

  placed_free : (before : ℕ) (parts : List Part) → AllByRecursion HasFree parts → AllByRecursion IsFree (arguments_of before parts)
  placed_free before [] each = tt
  placed_free before (part ∷ parts) each = (each.0 before, placed_free (before + part.sites) parts each.1)

  answers_free : (before : ℕ) (parts : List Part) → AllByRecursion HasFree parts → AllByRecursion NeedsNone (answers_of before parts)
  answers_free before [] each = tt
  answers_free before (part ∷ parts) each = (each.0 before, answers_free (before + part.sites) parts each.1)

  parts_free : (ns : List Node) → All IsFreeNode ns → list_any is_rtd (concat (map calls_of ns)) ≡ false → AllByRecursion HasFree (map (part_of world) ns)
  parts_free [] h none = tt
  parts_free (n ∷ ns) h none =
      let both = or_false (list_any is_rtd (calls_of n)) (list_any is_rtd (concat (map calls_of ns))) (sym (list_any-append is_rtd (calls_of n) (concat (map calls_of ns))) ∙ none) in
      (All-head IsFreeNode n ns h both.0, parts_free ns (All-tail IsFreeNode n ns h) both.1)

  free_as : (part step : Part) → part ≡ step → HasFree step → HasFree part
  free_as part step e h = subst HasFree (sym e) h

  step_call : (callee : Callee) (parts : List Part) → is_rtd callee ≡ false → AllByRecursion HasFree parts → HasFree (part_step world (layer.Call callee parts))
  step_call callee parts h each before =
      let arguments = arguments_of (before + own_site callee) parts in
      final_free (call_answer world callee (suc before) arguments) (call_free callee (suc before) arguments h (placed_free (before + own_site callee) parts each))

  free_call : (callee : Callee) (arguments : List Node) → All IsFreeNode arguments → IsFreeNode (nodes.Call callee arguments)
  free_call callee arguments h none =
      let both = or_false (is_rtd callee) (list_any is_rtd (concat (map calls_of arguments))) (sym (ap (list_any is_rtd) (fold_call (List Callee) calls_step callee arguments)) ∙ none) in
      free_as _ _ (fold_call Part (part_step world) callee arguments) (step_call callee (map (part_of world) arguments) both.0 (parts_free arguments h both.1))

  free_parentheses : (inner : Node) → IsFreeNode inner → IsFreeNode (nodes.Parentheses inner)
  free_parentheses inner h none =
      free_as _ _ (fold_parentheses Part (part_step world) inner) (h (sym (ap (list_any is_rtd) (fold_parentheses (List Callee) calls_step inner)) ∙ none))

  step_negation : (count : ℕ) (operand : Part) → HasFree operand → HasFree (part_step world (layer.Negation count operand))
  step_negation count operand h before = then_free (operand.value before) (λ v. Val (repeated_negation count v)) (h before) (λ v. refl)

  free_negation : (count : ℕ) (operand : Node) → IsFreeNode operand → IsFreeNode (nodes.Negation count operand)
  free_negation count operand h none =
      free_as _ _ (fold_negation Part (part_step world) count operand)
      (step_negation count (part_of world operand) (h (sym (ap (list_any is_rtd) (fold_negation (List Callee) calls_step count operand)) ∙ none)))

  step_chain : (operands : List Part) (ops : List Operator) → AllByRecursion HasFree operands → HasFree (part_step world (layer.Chain operands ops))
  step_chain operands ops each before = all_free (answers_of before operands) (λ vs. Val (chain_value ops vs)) (answers_free before operands each) (λ vs. refl)

  free_chain : (operands : List Node) (ops : List Operator) → All IsFreeNode operands → IsFreeNode (nodes.Chain operands ops)
  free_chain operands ops h none =
      free_as _ _ (fold_chain Part (part_step world) operands ops)
      (step_chain (map (part_of world) operands) ops (parts_free operands h (sym (ap (list_any is_rtd) (fold_chain (List Callee) calls_step operands ops)) ∙ none)))

  free_tree : (tree : Node) → IsFreeNode tree
  free_tree = node_induction IsFreeNode
      (λ n none. free_as _ _ (fold_number Part (part_step world) n) (λ before. refl))
      (λ t none. free_as _ _ (fold_text Part (part_step world) t) (λ before. refl))
      (λ e none. free_as _ _ (fold_error Part (part_step world) e) (λ before. refl))
      (λ b none. free_as _ _ (fold_boolean Part (part_step world) b) (λ before. refl))
      (λ r none. free_as _ _ (fold_reference Part (part_step world) r) (λ before. refl))
      (λ a b none. free_as _ _ (fold_area Part (part_step world) a b) (λ before. refl))
      free_call free_parentheses free_negation free_chain

-- a formula without an RTD call reads no topic
pub nothing_read : (world : World) (snapshot : Topic → Value) (tree : Node) → has_rtd_call tree ≡ false → (topic : Topic) → reads_topic world snapshot tree topic ≡ false
nothing_read world snapshot tree none topic =
    let known : World = record world { known = all_but topic snapshot } in
    ap (λ needed. option_map_or (same_topic topic) needed false) (final_free ((part_of known tree).value 0) (free_tree known tree none 0))

-- a cell that reads a topic has a formula with an RTD call
abbrev pub calls_rtd : Option Content → Bool
calls_rtd content = by_content (λ v. false) has_rtd_call content

module _ (setting : Setting) (book : List (Cell × Content)) (cell : Cell) (topic : Topic) where
  formula_calls : (tree : Node) (evaluated : Bool) → (evaluated && reads_topic (world_in setting book cell) setting.snapshot tree topic) ≡ true → has_rtd_call tree ≡ true
  formula_calls tree false h = cc
  formula_calls tree true h = elim (has_rtd_call tree) as (λ b. has_rtd_call tree ≡ b → b ≡ true) [
    | true ↦ λ is. refl
    | false ↦ λ is. cc (nothing_read (world_in setting book cell) setting.snapshot tree is topic)
  ] refl

  content_calls : (content : Option Content) → by_content (λ v. false) (λ tree. is_evaluated setting book cell tree && reads_topic (world_in setting book cell) setting.snapshot tree topic) content ≡ true → calls_rtd content ≡ true
  content_calls None h = h
  content_calls (Some (contents.Num n)) h = h
  content_calls (Some (contents.Text t)) h = h
  content_calls (Some (contents.Bool b)) h = h
  content_calls (Some (contents.Error e)) h = h
  content_calls (Some (contents.Formula tree)) h = formula_calls tree (is_evaluated setting book cell tree) h

  pub readers_call : cell_reads setting book cell topic ≡ true → calls_rtd (content_at book cell) ≡ true
  readers_call h = content_calls (content_at book cell) h
