-- Where no name is registered, nothing is asked: each formula over values has a value, and so does each cell
-- that isn't circular.
use Rattle.std.proofs.Common.{◌≡◌, ℕ, ℤ, zero, suc, ◌+◌, ◌-◌, pos, nat_lt, int_lt, unsigned_abs, Bool, true, false, cond, ◌||◌, ◌⊎◌, inl, inr, List, [], ◌∷◌, map, length, slice_get, All, Option, Some, None, Result, Ok, Err, refl, ap, sym, subst, ◌∙◌}
use Rattle.std.specs.List.{list_any, AllByRecursion}
use Rattle.std.specs.Str.{chars}
use Rattle.std.proofs.lemmas.List.Elements.{All-head, All-tail}
use Rattle.cell_refs.specs.declared.areas.Area.{Area}
use Rattle.cell_refs.specs.declared.grid.Cell.{Cell}
use Rattle.cell_refs.specs.declared.references.RefText.{RefText}
use Rattle.cell_refs.specs.RefText.{cell_at}
use Rattle.cell_values.specs.declared.errors.ErrorKind.{ErrorKind}
use Rattle.cell_values.specs.declared.errors.ErrorKind.TheVariants as errors
use Rattle.cell_values.specs.declared.texts.Text.{Text}
use Rattle.cell_values.specs.declared.topics.Topic.{Topic}
use Rattle.cell_values.specs.declared.values.Value.{Value}
use Rattle.cell_values.specs.declared.values.Value.TheVariants as values
use Rattle.cell_values.specs.Coercion.{text_of, truth_of}
use Rattle.cell_values.specs.Name.{is_name}
use Rattle.cell_values.specs.Value.{number_of, final_of}
use Rattle.formula_parse.specs.declared.callees.Callee.{Callee}
use Rattle.formula_parse.specs.declared.callees.Callee.TheVariants as callees
use Rattle.formula_parse.specs.declared.nodes.Node.{Node}
use Rattle.formula_parse.specs.declared.nodes.Node.TheVariants as nodes
use Rattle.formula_parse.specs.declared.nodes.Node.TheOpen as layer
use Rattle.formula_parse.specs.declared.operators.Operator.{Operator}
use Rattle.formula_parse.specs.Tree.{precedents}
use Rattle.formula_parse.proofs.PublicLaws.{fold_number, fold_text, fold_error, fold_boolean, fold_reference, fold_area, fold_call, fold_parentheses, fold_negation, fold_chain, node_induction}
use Rattle.functions.specs.Applied.{result_of}
use Rattle.functions.specs.Functions.{arity_of, takes_area, is_within}
use Rattle.functions.specs.Inputs.{all_ok}
use Rattle.functions.specs.Kinds.{is_error, is_na}
use Rattle.functions.specs.declared.arguments.Arg.{Arg}
use Rattle.functions.specs.declared.arguments.Arg.TheVariants as inputs
use Rattle.functions.specs.declared.functions.Function.{Function}
use Rattle.functions.specs.declared.functions.Function.TheVariants as functions
use Rattle.workbook.specs.declared.contents.Content.{Content}
use Rattle.workbook.specs.declared.contents.Content.TheVariants as contents
use Rattle.workbook.specs.Book.{content_at, has_formula, content_precedents, cell_precedents, formula_count}
use Rattle.workbook.specs.Circular.{walks_on, is_circular}
use Rattle.workbook.specs.Evaluation.{World, Answer, Val, Part, Argument, LONGEST_STRING, RTD_ARITY, then_with, with_all, chain_value, repeated_negation, arguments_of, answers_of, area_input, with_input, with_inputs, branch, if_answer, unless_answer, chosen_at, choice_of, choose_answer, function_answer, known_answer, topic_answer, rtd_answer, added_answer, call_answer, final_answer, error_answer, own_site, part_of, part_step, answer_of}
use Rattle.workbook.specs.Meaning.{Setting, Meaning, Circ, Open, world_at, meaning_of_answer, value_in, is_open, content_meaning, meaning_within, meaning}
use Rattle.workbook.specs.Meaning as meanings
use Rattle.workbook.proofs.Meanings.{none_where, shows_circle, shows_within}

-- ---- answers
-- an answer is a value
abbrev IsValue : Answer → Type 0
IsValue answer = (v : Value) × (answer ≡ Val v)

-- an argument's answer is a value
abbrev IsGiven : Argument → Type 0
IsGiven argument = IsValue argument.value

-- one of two values is a value
either_valued : (b : Bool) (a other : Answer) → IsValue a → IsValue other → IsValue (cond b a other)
either_valued true a other h h_other = h
either_valued false a other h h_other = h_other

-- going on with a value
then_valued : (a : Answer) (next : Value → Answer) → IsValue a → ((v : Value) → IsValue (next v)) → IsValue (then_with a next)
then_valued a next h leads = ((leads h.0).0, ap (λ x. then_with x next) h.1 ∙ (leads h.0).1)

-- going on with all values
all_valued : (answers : List Answer) (next : List Value → Answer) → AllByRecursion IsValue answers → ((vs : List Value) → IsValue (next vs)) → IsValue (with_all answers next)
all_valued [] next each leads = leads []
all_valued (a ∷ answers) next each leads =
    then_valued a (λ v. with_all answers (λ vs. next (v ∷ vs))) each.0 (λ v. all_valued answers (λ vs. next (v ∷ vs)) each.1 (λ vs. leads (v ∷ vs)))

-- a value in which Blank is made 0
final_valued : (a : Answer) → IsValue a → IsValue (final_answer a)
final_valued a h = (final_of h.0, ap final_answer h.1)

-- the answers of arguments
given_answers : (arguments : List Argument) → AllByRecursion IsGiven arguments → AllByRecursion IsValue (map (λ a. a.value) arguments)
given_answers [] each = tt
given_answers (a ∷ arguments) each = (each.0, given_answers arguments each.1)

-- ---- functions that choose among their arguments
-- the second or the third argument of IF
branch_valued : (test : Result Bool ErrorKind) (met : Argument) (unmet : List Argument) → IsGiven met → AllByRecursion IsGiven unmet → IsValue (branch test met unmet)
branch_valued (Err kind) met unmet h each = (values.Error kind, refl)
branch_valued (Ok true) met unmet h each = h
branch_valued (Ok false) met [] h each = (values.Bool false, refl)
branch_valued (Ok false) met (a ∷ others) h each = each.0

-- IF
if_valued : (arguments : List Argument) → AllByRecursion IsGiven arguments → IsValue (if_answer arguments)
if_valued [] each = (values.Error errors.Value, refl)
if_valued (test ∷ []) each = (values.Error errors.Value, refl)
if_valued (test ∷ met ∷ unmet) each = then_valued test.value (λ v. branch (truth_of v) met unmet) each.0 (λ v. branch_valued (truth_of v) met unmet each.1.0 each.1.1)

-- IFERROR and IFNA
unless_valued : (is_such : Value → Bool) (arguments : List Argument) → AllByRecursion IsGiven arguments → IsValue (unless_answer is_such arguments)
unless_valued is_such [] each = (values.Error errors.Value, refl)
unless_valued is_such (first ∷ []) each = (values.Error errors.Value, refl)
unless_valued is_such (first ∷ second ∷ others) each =
    then_valued first.value (λ v. cond (is_such v) second.value (Val v)) each.0 (λ v. either_valued (is_such v) second.value (Val v) each.1.0 (v, refl))

-- the argument at a place
place_valued : (options : List Argument) (place : ℕ) → AllByRecursion IsGiven options → IsValue (chosen_at (slice_get options place))
place_valued [] place each = (values.Error errors.Value, refl)
place_valued (a ∷ options) zero each = each.0
place_valued (a ∷ options) (suc place) each = place_valued options place each.1

-- the argument that a number chooses
chosen_valued : (index : Result ℤ ErrorKind) (options : List Argument) → AllByRecursion IsGiven options → IsValue (choice_of index options)
chosen_valued (Err kind) options each = (values.Error kind, refl)
chosen_valued (Ok n) options each =
    either_valued (int_lt (pos 0) n) (chosen_at (slice_get options (unsigned_abs n - 1))) (error_answer errors.Value) (place_valued options (unsigned_abs n - 1) each) (values.Error errors.Value, refl)

-- CHOOSE
choose_valued : (arguments : List Argument) → AllByRecursion IsGiven arguments → IsValue (choose_answer arguments)
choose_valued [] each = (values.Error errors.Value, refl)
choose_valued (index ∷ options) each = then_valued index.value (λ v. choice_of (number_of v) options) each.0 (λ v. chosen_valued (number_of v) options each.1)

-- ---- formulas in a world that knows each topic and in which no name is registered
module _ (world : World) (all_known : (topic : Topic) → (v : Value) × (world.known topic ≡ Some v)) (unregistered : (name : List ℕ) → world.registered name ≡ None) where
  -- an argument as a function takes it
  input_valued : (takes : Bool) (area : Option Area) (value : Answer) (next : Arg → Answer) → IsValue value → ((arg : Arg) → IsValue (next arg))
      → IsValue (with_input world takes (record { area = area; value = value }) next)
  input_valued true (Some area) value next h leads = leads (area_input world area)
  input_valued true None value next h leads = then_valued value (λ v. next (inputs.Direct v)) h (λ v. leads (inputs.Direct v))
  input_valued false area value next h leads = then_valued value (λ v. next (inputs.Direct v)) h (λ v. leads (inputs.Direct v))

  -- all arguments as a function takes them
  inputs_valued : (function : Function) (place : ℕ) (arguments : List Argument) (next : List Arg → Answer) → AllByRecursion IsGiven arguments → ((args : List Arg) → IsValue (next args))
      → IsValue (with_inputs world function place arguments next)
  inputs_valued function place [] next each leads = leads []
  inputs_valued function place (a ∷ arguments) next each leads =
      input_valued (takes_area function place) a.area a.value (λ first. with_inputs world function (suc place) arguments (λ others. next (first ∷ others))) each.0
      (λ first. inputs_valued function (suc place) arguments (λ others. next (first ∷ others)) each.1 (λ others. leads (first ∷ others)))

  -- a built-in function
  function_valued : (function : Function) (arguments : List Argument) → AllByRecursion IsGiven arguments → IsValue (function_answer world function arguments)
  function_valued functions.If arguments each = if_valued arguments each
  function_valued functions.IfError arguments each = unless_valued is_error arguments each
  function_valued functions.IfNa arguments each = unless_valued is_na arguments each
  function_valued functions.Choose arguments each = choose_valued arguments each
  function_valued other arguments each = inputs_valued other 0 arguments (λ args. Val (result_of other args)) each (λ args. (result_of other args, refl))

  -- a topic
  known_valued : (topic : Topic) → IsValue (known_answer world topic (world.known topic))
  known_valued topic = ((all_known topic).0, ap (known_answer world topic) (all_known topic).1)

  -- RTD by its texts
  topic_valued : (texts : Result (List (List ℕ)) ErrorKind) → IsValue (topic_answer world texts)
  topic_valued (Err kind) = (values.Error kind, refl)
  topic_valued (Ok []) = (values.Error errors.Value, refl)
  topic_valued (Ok (name ∷ [])) = (values.Error errors.Value, refl)
  topic_valued (Ok (name ∷ machine ∷ strings)) =
      let topic : Topic = record { server = name; strings = strings } in
      either_valued (nat_lt 0 (length machine) || list_any (λ s. nat_lt LONGEST_STRING (length (chars s))) strings) (error_answer errors.Value) (cond (is_name name) (known_answer world topic (world.known topic)) (error_answer errors.Na))
      (values.Error errors.Value, refl)
      (either_valued (is_name name) (known_answer world topic (world.known topic)) (error_answer errors.Na) (known_valued topic) (values.Error errors.Na, refl))

  -- RTD
  rtd_valued : (arguments : List Argument) → AllByRecursion IsGiven arguments → IsValue (rtd_answer world arguments)
  rtd_valued arguments each =
      either_valued (is_within RTD_ARITY (length arguments)) (with_all (map (λ a. a.value) arguments) (λ vs. topic_answer world (all_ok (map text_of vs)))) (error_answer errors.Value)
      (all_valued (map (λ a. a.value) arguments) (λ vs. topic_answer world (all_ok (map text_of vs))) (given_answers arguments each) (λ vs. topic_valued (all_ok (map text_of vs))))
      (values.Error errors.Value, refl)

  -- an added name isn't registered
  added_valued : (site : ℕ) (name : List ℕ) (arguments : List Argument) → IsValue (added_answer world (world.registered name) site name arguments)
  added_valued site name arguments = (values.Error errors.Name, ap (λ registration. added_answer world registration site name arguments) (unregistered name))

  -- a call
  call_valued : (callee : Callee) (site : ℕ) (arguments : List Argument) → AllByRecursion IsGiven arguments → IsValue (call_answer world callee site arguments)
  call_valued (callees.BuiltIn function) site arguments each =
      either_valued (is_within (arity_of function) (length arguments)) (function_answer world function arguments) (error_answer errors.Value) (function_valued function arguments each) (values.Error errors.Value, refl)
  call_valued callees.Rtd site arguments each = rtd_valued arguments each
  call_valued (callees.Added name) site arguments each = added_valued site name arguments

  -- ---- parts
  -- a part has a value behind any number of sites
  abbrev HasValues : Part → Type 0
  HasValues part = (before : ℕ) → IsValue (part.value before)

  -- a node is such a part
  abbrev IsValued : Node → Type 0
  IsValued node = HasValues (part_of world node)

  -- the arguments that parts are
  placed_valued : (before : ℕ) (parts : List Part) → AllByRecursion HasValues parts → AllByRecursion IsGiven (arguments_of before parts)
  placed_valued before [] each = tt
  placed_valued before (part ∷ parts) each = (each.0 before, placed_valued (before + part.sites) parts each.1)

  -- the answers of parts
  answers_valued : (before : ℕ) (parts : List Part) → AllByRecursion HasValues parts → AllByRecursion IsValue (answers_of before parts)
  answers_valued before [] each = tt
  answers_valued before (part ∷ parts) each = (each.0 before, answers_valued (before + part.sites) parts each.1)

  -- the parts of several nodes
  parts_valued : (ns : List Node) → All IsValued ns → AllByRecursion HasValues (map (part_of world) ns)
  parts_valued [] h = tt
  parts_valued (n ∷ ns) h = (All-head IsValued n ns h, parts_valued ns (All-tail IsValued n ns h))

  -- a part that is equal to such a part
  valued_as : (part step : Part) → part ≡ step → HasValues step → HasValues part
  valued_as part step e h = subst HasValues (sym e) h

  -- a number
  valued_number : (n : ℤ) → IsValued (nodes.Number n)
  valued_number n = valued_as _ _ (fold_number Part (part_step world) n) (λ before. (values.Num n, refl))

  -- a text
  valued_text : (t : Text) → IsValued (nodes.Text t)
  valued_text t = valued_as _ _ (fold_text Part (part_step world) t) (λ before. (values.Text t, refl))

  -- an error
  valued_error : (e : ErrorKind) → IsValued (nodes.Error e)
  valued_error e = valued_as _ _ (fold_error Part (part_step world) e) (λ before. (values.Error e, refl))

  -- a Boolean
  valued_boolean : (b : Bool) → IsValued (nodes.Boolean b)
  valued_boolean b = valued_as _ _ (fold_boolean Part (part_step world) b) (λ before. (values.Bool b, refl))

  -- a reference
  valued_reference : (r : RefText) → IsValued (nodes.Reference r)
  valued_reference r = valued_as _ _ (fold_reference Part (part_step world) r) (λ before. (world.input (cell_at r world.home), refl))

  -- an area
  valued_area : (a b : RefText) → IsValued (nodes.Area a b)
  valued_area a b = valued_as _ _ (fold_area Part (part_step world) a b) (λ before. (values.Error errors.Value, refl))

  -- a call over its parts
  step_call : (callee : Callee) (parts : List Part) → AllByRecursion HasValues parts → HasValues (part_step world (layer.Call callee parts))
  step_call callee parts each before =
      let arguments = arguments_of (before + own_site callee) parts in
      final_valued (call_answer world callee (suc before) arguments) (call_valued callee (suc before) arguments (placed_valued (before + own_site callee) parts each))

  -- a call
  valued_call : (callee : Callee) (arguments : List Node) → All IsValued arguments → IsValued (nodes.Call callee arguments)
  valued_call callee arguments h = valued_as _ _ (fold_call Part (part_step world) callee arguments) (step_call callee (map (part_of world) arguments) (parts_valued arguments h))

  -- what stands in parentheses
  valued_parentheses : (inner : Node) → IsValued inner → IsValued (nodes.Parentheses inner)
  valued_parentheses inner h = valued_as _ _ (fold_parentheses Part (part_step world) inner) h

  -- an operand behind signs
  step_negation : (count : ℕ) (operand : Part) → HasValues operand → HasValues (part_step world (layer.Negation count operand))
  step_negation count operand h before = then_valued (operand.value before) (λ v. Val (repeated_negation count v)) (h before) (λ v. (repeated_negation count v, refl))

  -- a negation
  valued_negation : (count : ℕ) (operand : Node) → IsValued operand → IsValued (nodes.Negation count operand)
  valued_negation count operand h = valued_as _ _ (fold_negation Part (part_step world) count operand) (step_negation count (part_of world operand) h)

  -- a chain over its parts
  step_chain : (operands : List Part) (ops : List Operator) → AllByRecursion HasValues operands → HasValues (part_step world (layer.Chain operands ops))
  step_chain operands ops each before = all_valued (answers_of before operands) (λ vs. Val (chain_value ops vs)) (answers_valued before operands each) (λ vs. (chain_value ops vs, refl))

  -- a chain
  valued_chain : (operands : List Node) (ops : List Operator) → All IsValued operands → IsValued (nodes.Chain operands ops)
  valued_chain operands ops h = valued_as _ _ (fold_chain Part (part_step world) operands ops) (step_chain (map (part_of world) operands) ops (parts_valued operands h))

  -- each tree
  valued_tree : (tree : Node) → IsValued tree
  valued_tree = node_induction IsValued
      valued_number valued_text valued_error valued_boolean valued_reference valued_area
      valued_call valued_parentheses valued_negation valued_chain

  -- a formula
  pub evaluated_valued : (tree : Node) → IsValue (answer_of world tree)
  evaluated_valued tree = final_valued ((part_of world tree).value 0) (valued_tree tree 0)

-- ---- what cells mean
-- a meaning is a value
abbrev IsMeantValue : Meaning → Type 0
IsMeantValue m = (v : Value) × (m ≡ meanings.Val v)

-- where each of a list means a value, none asks or waits
none_open : (f : Cell → Meaning) (cells : List Cell) → AllByRecursion (λ d. IsMeantValue (f d)) cells → list_any (λ d. is_open (f d)) cells ≡ false
none_open f [] each = refl
none_open f (d ∷ cells) each = ap (λ m. is_open m || list_any (λ e. is_open (f e)) cells) each.0.1 ∙ none_open f cells each.1

module _ (setting : Setting) (unregistered : (name : List ℕ) → setting.registered name ≡ None) where
  -- the formula of a cell over cells that mean values
  formula_valued : (cell : Cell) (f : Cell → Meaning) (tree : Node) → AllByRecursion (λ d. IsMeantValue (f d)) (precedents tree cell.sheet)
      → IsMeantValue (content_meaning setting cell f (Some (contents.Formula tree)))
  formula_valued cell f tree each =
      let found = evaluated_valued (world_at setting cell (λ d. value_in (f d))) (λ topic. (setting.snapshot topic, refl)) unregistered tree in (
        found.0,
        ap (λ b. cond b Open (meaning_of_answer (answer_of (world_at setting cell (λ d. value_in (f d))) tree))) (none_open f (precedents tree cell.sheet) each)
            ∙ ap meaning_of_answer found.1,
      )

  -- a content over cells that mean values
  content_valued : (cell : Cell) (content : Option Content) (f : Cell → Meaning) → AllByRecursion (λ d. IsMeantValue (f d)) (content_precedents content cell.sheet)
      → IsMeantValue (content_meaning setting cell f content)
  content_valued cell None f each = (values.Blank, refl)
  content_valued cell (Some (contents.Num n)) f each = (values.Num n, refl)
  content_valued cell (Some (contents.Text t)) f each = (values.Text t, refl)
  content_valued cell (Some (contents.Bool b)) f each = (values.Bool b, refl)
  content_valued cell (Some (contents.Error e)) f each = (values.Error e, refl)
  content_valued cell (Some (contents.Formula tree)) f each = formula_valued cell f tree each

  -- a content that is no formula
  constant_valued : (cell : Cell) (content : Option Content) (f : Cell → Meaning) → has_formula content ≡ false → IsMeantValue (content_meaning setting cell f content)
  constant_valued cell None f h = (values.Blank, refl)
  constant_valued cell (Some (contents.Num n)) f h = (values.Num n, refl)
  constant_valued cell (Some (contents.Text t)) f h = (values.Text t, refl)
  constant_valued cell (Some (contents.Bool b)) f h = (values.Bool b, refl)
  constant_valued cell (Some (contents.Error e)) f h = (values.Error e, refl)
  constant_valued cell (Some (contents.Formula tree)) f h = cc

  -- a cell without a walk of n steps means a value within n steps
  within_valued : (book : List (Cell × Content)) (n : ℕ) (cell : Cell) → walks_on book n cell ≡ false → IsMeantValue (meaning_within setting book n cell)
  within_valued book zero cell h = constant_valued cell (content_at book cell) (λ d. meanings.Val values.Blank) h
  within_valued book (suc n) cell h =
      content_valued cell (content_at book cell) (meaning_within setting book n) (none_where (walks_on book n) _ (within_valued book n) (cell_precedents book cell) h)

  -- each cell is circular or means a value
  pub circular_or_valued : (book : List (Cell × Content)) (cell : Cell) → (meaning setting book cell ≡ Circ) ⊎ IsMeantValue (meaning setting book cell)
  circular_or_valued book cell =
      elim (is_circular book cell) as (λ b. is_circular book cell ≡ b → (meaning setting book cell ≡ Circ) ⊎ IsMeantValue (meaning setting book cell)) [
        | true ↦ λ e. inl (shows_circle setting book cell e)
        | false ↦ λ e. let found = within_valued book (formula_count book) cell e in inr (found.0, shows_within setting book cell e ∙ found.1)
      ] refl
