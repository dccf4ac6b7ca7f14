-- What IF, IFERROR, IFNA and CHOOSE come to, by what they choose.
use Rattle.std.proofs.Common.{◌≡◌, ℕ, zero, suc, ◌+◌, ◌-◌, ◌<◌, ◌≤◌, ℤ, pos, int_lt, nat_lt, nat_le, unsigned_abs, Bool, true, false, cond, List, [], ◌∷◌, length, take, get_or, Option, Some, None, Result, Ok, Err, refl, sym, ap, ◌∙◌, arith}
use Rattle.std.proofs.lemmas.Bool.Decides.{nat_tests}
use Rattle.std.proofs.lemmas.Option.{slice_get_past}
use Rattle.std.specs.List.{slice_get}
use Rattle.cell_values.specs.declared.errors.ErrorKind.{ErrorKind}
use Rattle.cell_values.specs.declared.errors.ErrorKind.TheVariants as errors
use Rattle.cell_values.specs.declared.values.Value.{Value}
use Rattle.cell_values.specs.declared.values.Value.TheVariants as values
use Rattle.cell_values.specs.Coercion.{truth_of}
use Rattle.cell_values.specs.Value.{number_of}
use Rattle.cell_eval.specs.declared.choices.Choice.{Choice}
use Rattle.cell_eval.specs.declared.choices.Choice.TheVariants as choices
use Rattle.cell_eval.specs.declared.choices.Chooser.{Chooser}
use Rattle.cell_eval.specs.declared.choices.Chooser.TheVariants as choosers
use Rattle.cell_eval.specs.declared.halts.Halt.{Halt}
use Rattle.cell_eval.specs.Choices.{chooser_of, choice_by_truth, choice_by_index, choice_after, chosen_answer, chooser_answer}
use Rattle.cell_eval.specs.Steps.{Halts, answer_at, argument_at, arguments_at, chooser_at, only_at, sites_among}
use Rattle.cell_eval.proofs.AnswerLaws.{arguments_none, arguments_first, argument_count}
use Rattle.cell_eval.proofs.Halting.{Halts-same, Halts-then, then_with-same}
use Rattle.formula_parse.specs.declared.nodes.Node.{Node}
use Rattle.formula_parse.specs.Tree.{site_count}
use Rattle.functions.specs.declared.functions.Function.{Function}
use Rattle.functions.specs.declared.functions.Function.TheVariants as functions
use Rattle.functions.specs.Functions.{arity_of, is_within}
use Rattle.functions.specs.Kinds.{is_error, is_na}
use Rattle.workbook.specs.Evaluation.{World, Val, Argument, error_answer, then_with, branch, choice_of, chosen_at, function_answer}

-- ---- each function answers what it chooses
two_or_more : (n : ℕ) → nat_lt 1 (suc (suc n)) ≡ true
two_or_more n = grind (arith, nat_tests)

by_truth : (r : Result Bool ErrorKind) (met : Argument) (unmet : List Argument) → branch r met unmet ≡ chosen_answer (choice_by_truth r (suc (length unmet))) (met ∷ unmet)
by_truth (Err kind) met unmet = refl
by_truth (Ok true) met unmet = refl
by_truth (Ok false) met [] = refl
by_truth (Ok false) met (other ∷ others) = ap (λ b. chosen_answer (cond b (choices.Argument 1) (choices.Value (values.Bool false))) (met ∷ other ∷ others)) (sym (two_or_more (length others)))

by_test : (b : Bool) (v : Value) (second : Argument) (others : List Argument) → cond b second.value (Val v) ≡ chosen_answer (cond b (choices.Argument 0) (choices.Value v)) (second ∷ others)
by_test true v second others = refl
by_test false v second others = refl

by_sign : (above : Bool) (n : ℤ) (options : List Argument)
    → cond above (chosen_at (slice_get options (unsigned_abs n - 1))) (error_answer errors.Value) ≡ chosen_answer (cond above (choices.Argument (unsigned_abs n - 1)) (choices.Value (values.Error errors.Value))) options
by_sign true n options = refl
by_sign false n options = refl

by_index : (r : Result ℤ ErrorKind) (options : List Argument) → choice_of r options ≡ chosen_answer (choice_by_index r) options
by_index (Err kind) options = refl
by_index (Ok n) options = by_sign (int_lt (pos 0) n) n options

-- a function that chooses, by the chooser, where it has as many arguments as it takes
pub chooses : (world : World) (f : Function) (rule : Chooser) (arguments : List Argument) → chooser_of f ≡ Some rule → is_within (arity_of f) (length arguments) ≡ true → function_answer world f arguments ≡ chooser_answer rule arguments
chooses world functions.If rule [] e within = absurd (cc)
chooses world functions.If rule (test ∷ []) e within = absurd (cc)
chooses world functions.If rule (test ∷ met ∷ unmet) e within =
    let same : choosers.If ≡ rule = cc in
    then_with-same test.value (λ v. branch (truth_of v) met unmet) (λ v. chosen_answer (choice_by_truth (truth_of v) (suc (length unmet))) (met ∷ unmet)) (λ v. by_truth (truth_of v) met unmet)
    ∙ ap (λ c. chooser_answer c (test ∷ met ∷ unmet)) same
chooses world functions.IfError rule [] e within = absurd (cc)
chooses world functions.IfError rule (first ∷ []) e within = absurd (cc)
chooses world functions.IfError rule (first ∷ second ∷ others) e within =
    let same : choosers.IfError ≡ rule = cc in
    then_with-same first.value (λ v. cond (is_error v) second.value (Val v)) (λ v. chosen_answer (cond (is_error v) (choices.Argument 0) (choices.Value v)) (second ∷ others)) (λ v. by_test (is_error v) v second others)
    ∙ ap (λ c. chooser_answer c (first ∷ second ∷ others)) same
chooses world functions.IfNa rule [] e within = absurd (cc)
chooses world functions.IfNa rule (first ∷ []) e within = absurd (cc)
chooses world functions.IfNa rule (first ∷ second ∷ others) e within =
    let same : choosers.IfNa ≡ rule = cc in
    then_with-same first.value (λ v. cond (is_na v) second.value (Val v)) (λ v. chosen_answer (cond (is_na v) (choices.Argument 0) (choices.Value v)) (second ∷ others)) (λ v. by_test (is_na v) v second others)
    ∙ ap (λ c. chooser_answer c (first ∷ second ∷ others)) same
chooses world functions.Choose rule [] e within = absurd (cc)
chooses world functions.Choose rule (index ∷ options) e within =
    let same : choosers.Choose ≡ rule = cc in
    then_with-same index.value (λ v. choice_of (number_of v) options) (λ v. chosen_answer (choice_by_index (number_of v)) options) (λ v. by_index (number_of v) options)
    ∙ ap (λ c. chooser_answer c (index ∷ options)) same
chooses world f rule arguments e within = absurd (cc)

-- ---- a function that chooses, behind so many sites
-- with no argument
pub chooser_none : (world : World) (rule : Chooser) (ns : List Node) (before : ℕ) → ns ≡ [] → chooser_at world rule ns before ≡ error_answer errors.Value
unfolding chooser_at
chooser_none world rule ns before is = ap (λ n. chooser_answer rule (arguments_at world n before)) is ∙ ap (chooser_answer rule) (arguments_none world before)

start : (world : World) (rule : Chooser) (ns : List Node) (first : Node) (others : List Node) (before : ℕ) → ns ≡ first ∷ others
    → chooser_at world rule ns before ≡ then_with (answer_at world first before) (λ v. chosen_answer (choice_after rule v (length others)) (arguments_at world others (before + site_count first)))
unfolding chooser_at
start world rule ns first others before is =
    ap (λ n. chooser_answer rule (arguments_at world n before)) is
    ∙ ap (chooser_answer rule) (arguments_first world first others before)
    ∙ ap (λ count. then_with (answer_at world first before) (λ v. chosen_answer (choice_after rule v count) (arguments_at world others (before + site_count first)))) (argument_count world others (before + site_count first))

-- the first argument halts
pub chooser_halts : (world : World) (rule : Chooser) (ns : List Node) (first : Node) (others : List Node) (before : ℕ) (halt : Halt) → ns ≡ first ∷ others → Halts (answer_at world first before) halt → Halts (chooser_at world rule ns before) halt
chooser_halts world rule ns first others before halt is h = Halts-same _ _ halt (start world rule ns first others before is) (Halts-then (answer_at world first before) halt _ h)

-- by what is chosen
by_choice : (world : World) (rule : Chooser) (ns : List Node) (first : Node) (others : List Node) (before there : ℕ) (v : Value) (choice : Choice) → ns ≡ first ∷ others → answer_at world first before ≡ Val v → there ≡ before + site_count first
    → choice ≡ choice_after rule v (length others) → chooser_at world rule ns before ≡ chosen_answer choice (arguments_at world others there)
by_choice world rule ns first others before there v choice is value at chosen =
    start world rule ns first others before is
    ∙ ap (λ a. then_with a (λ w. chosen_answer (choice_after rule w (length others)) (arguments_at world others (before + site_count first)))) value
    ∙ ap (λ b. chosen_answer (choice_after rule v (length others)) (arguments_at world others b)) (sym at)
    ∙ ap (λ c. chosen_answer c (arguments_at world others there)) (sym chosen)

-- a value is chosen
pub chooser_value : (world : World) (rule : Chooser) (ns : List Node) (first : Node) (others : List Node) (before there : ℕ) (v : Value) (choice : Choice) (w : Value) → ns ≡ first ∷ others → answer_at world first before ≡ Val v → there ≡ before + site_count first
    → choice ≡ choice_after rule v (length others) → choice ≡ choices.Value w → chooser_at world rule ns before ≡ Val w
chooser_value world rule ns first others before there v choice w is value at chosen which =
    by_choice world rule ns first others before there v choice is value at chosen ∙ ap (λ c. chosen_answer c (arguments_at world others there)) which

-- an argument is chosen
pub chooser_only : (world : World) (rule : Chooser) (ns : List Node) (first : Node) (others : List Node) (before there : ℕ) (v : Value) (choice : Choice) (place : ℕ) → ns ≡ first ∷ others → answer_at world first before ≡ Val v → there ≡ before + site_count first
    → choice ≡ choice_after rule v (length others) → choice ≡ choices.Argument place → chooser_at world rule ns before ≡ only_at world others place there
unfolding only_at
chooser_only world rule ns first others before there v choice place is value at chosen which =
    by_choice world rule ns first others before there v choice is value at chosen ∙ ap (λ c. chosen_answer c (arguments_at world others there)) which

-- ---- the argument at a place
-- among several
arguments_get : (world : World) (ns : List Node) (i : ℕ) (d : Node) (before : ℕ) → i < length ns → slice_get (arguments_at world ns before) i ≡ Some (argument_at world (get_or ns i d) (before + sites_among (take i ns)))
arguments_get world [] i d before lt = absurd (omega arith)
arguments_get world (n ∷ ns) zero d before lt =
    let at : before ≡ before + 0 = omega arith in
    ap (λ list. slice_get list 0) (arguments_first world n ns before) ∙ ap (λ b. Some (argument_at world n b)) at
arguments_get world (n ∷ ns) (suc i) d before lt =
    let at : before + site_count n + sites_among (take i ns) ≡ before + (site_count n + sites_among (take i ns)) = omega arith in
    ap (λ list. slice_get list (suc i)) (arguments_first world n ns before)
    ∙ arguments_get world ns i d (before + site_count n) (omega arith)
    ∙ ap (λ b. Some (argument_at world (get_or ns i d) b)) at

-- past the last
pub only_past : (world : World) (ns : List Node) (place before : ℕ) → length ns ≤ place → only_at world ns place before ≡ error_answer errors.Value
unfolding only_at
only_past world ns place before past =
    let count = argument_count world ns before in
    ap chosen_at (slice_get_past (arguments_at world ns before) place (omega arith))

-- within
pub only_taken : (world : World) (ns : List Node) (place before there : ℕ) (x : Node) → place < length ns → x ≡ get_or ns place x → there ≡ before + sites_among (take place ns) → only_at world ns place before ≡ answer_at world x there
unfolding only_at
only_taken world ns place before there x lt is at =
    ap chosen_at (arguments_get world ns place x before lt)
    ∙ ap (λ b. answer_at world (get_or ns place x) b) (sym at)
    ∙ ap (λ (n : Node). answer_at world n there) (sym is)
