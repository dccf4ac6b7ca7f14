-- What calls come to, by the function that is called.
use Rattle.std.proofs.Common.{◌≡◌, ℕ, suc, ◌+◌, ◌==◌, Bool, true, false, cond, List, map, length, Option, Some, None, Result, Ok, Err, refl, sym, ap, ◌∙◌, arith}
use Rattle.addin_types.specs.declared.registrations.Kind.{Kind}
use Rattle.addin_types.specs.declared.registrations.Registration.{Registration}
use Rattle.cell_values.specs.declared.errors.ErrorKind.{ErrorKind}
use Rattle.cell_values.specs.declared.errors.ErrorKind.TheVariants as errors
use Rattle.cell_values.specs.declared.names.Name.{Name}
use Rattle.cell_values.specs.declared.values.Value.{Value}
use Rattle.cell_values.specs.Coercion.{text_of}
use Rattle.cell_values.specs.Value.{final_of}
use Rattle.cell_eval.specs.declared.choices.Chooser.{Chooser}
use Rattle.cell_eval.specs.declared.halts.Halt.{Halt}
use Rattle.cell_eval.specs.Added.{kind_called}
use Rattle.cell_eval.specs.Choices.{chooser_of}
use Rattle.cell_eval.specs.Steps.{Halts, GiveAll, HaltAll, AreTaken, HaltTaken, answers_at, arguments_at, call_at, built_in_at, rtd_at, added_at, chooser_at}
use Rattle.cell_eval.proofs.AnswerLaws.{argument_values, argument_count}
use Rattle.cell_eval.proofs.Choosing.{chooses}
use Rattle.cell_eval.proofs.Halting.{Halts-same}
use Rattle.formula_parse.specs.declared.callees.Callee.{Callee}
use Rattle.formula_parse.specs.declared.callees.Callee.TheVariants as callees
use Rattle.formula_parse.specs.declared.nodes.Node.{Node}
use Rattle.functions.specs.declared.arguments.Arg.{Arg}
use Rattle.functions.specs.declared.functions.Function.{Function}
use Rattle.functions.specs.declared.functions.Function.TheVariants as functions
use Rattle.functions.specs.Applied.{result_of}
use Rattle.functions.specs.Functions.{arity_of, is_within}
use Rattle.functions.specs.Inputs.{all_ok}
use Rattle.workbook.specs.Evaluation.{World, Answer, Val, Argument, RTD_ARITY, error_answer, with_all, with_inputs, call_answer, function_answer, rtd_answer, added_answer, topic_answer, kind_answer, own_site}

-- ---- calls of functions
-- by whether the count of arguments is right
by_count : (world : World) (f : Function) (ns : List Node) (before : ℕ) (b : Bool) → is_within (arity_of f) (length ns) ≡ b → built_in_at world f ns before ≡ cond b (function_answer world f (arguments_at world ns before)) (error_answer errors.Value)
unfolding built_in_at
by_count world f ns before b e =
    ap (λ t. cond t (function_answer world f (arguments_at world ns before)) (error_answer errors.Value)) (ap (is_within (arity_of f)) (argument_count world ns before) ∙ e)

-- a wrong count
pub built_in_outside : (world : World) (f : Function) (ns : List Node) (before : ℕ) → is_within (arity_of f) (length ns) ≡ false → built_in_at world f ns before ≡ error_answer errors.Value
built_in_outside world f ns before e = by_count world f ns before false e

-- a function that chooses
pub built_in_chosen : (world : World) (f : Function) (rule : Chooser) (ns : List Node) (before : ℕ) → is_within (arity_of f) (length ns) ≡ true → chooser_of f ≡ Some rule → built_in_at world f ns before ≡ chooser_at world rule ns before
unfolding chooser_at
built_in_chosen world f rule ns before e is =
    by_count world f ns before true e ∙ chooses world f rule (arguments_at world ns before) is (ap (is_within (arity_of f)) (argument_count world ns before) ∙ e)

-- another function
other_function : (world : World) (f : Function) (arguments : List Argument) → chooser_of f ≡ None → function_answer world f arguments ≡ with_inputs world f 0 arguments (λ args. Val (result_of f args))
other_function world functions.If arguments e = absurd (cc)
other_function world functions.IfError arguments e = absurd (cc)
other_function world functions.IfNa arguments e = absurd (cc)
other_function world functions.Choose arguments e = absurd (cc)
other_function world f arguments e = refl

built_in_other : (world : World) (f : Function) (ns : List Node) (before : ℕ) → is_within (arity_of f) (length ns) ≡ true → chooser_of f ≡ None
    → built_in_at world f ns before ≡ with_inputs world f 0 (arguments_at world ns before) (λ args. Val (result_of f args))
built_in_other world f ns before e is = by_count world f ns before true e ∙ other_function world f (arguments_at world ns before) is

pub built_in_applied : (world : World) (f : Function) (ns : List Node) (before : ℕ) (args : List Arg) → is_within (arity_of f) (length ns) ≡ true → chooser_of f ≡ None
    → AreTaken world f 0 (arguments_at world ns before) args → built_in_at world f ns before ≡ Val (result_of f args)
built_in_applied world f ns before args e is h = built_in_other world f ns before e is ∙ h.goes_on (λ list. Val (result_of f list))

pub built_in_halts : (world : World) (f : Function) (ns : List Node) (before : ℕ) (halt : Halt) → is_within (arity_of f) (length ns) ≡ true → chooser_of f ≡ None
    → HaltTaken world f 0 (arguments_at world ns before) halt → Halts (built_in_at world f ns before) halt
built_in_halts world f ns before halt e is h = Halts-same _ _ halt (built_in_other world f ns before e is) (h.stays (λ list. Val (result_of f list)))

-- ---- calls by their callee
-- a built-in function
pub call_built_in : (world : World) (callee : Callee) (f : Function) (ns : List Node) (before : ℕ) → callee ≡ callees.BuiltIn f → call_at world callee ns before ≡ built_in_at world f ns before
unfolding call_at built_in_at
call_built_in world callee f ns before is =
    let at : before + 0 ≡ before = omega arith in
    ap (λ c. call_answer world c (suc before) (arguments_at world ns (before + own_site c))) is
    ∙ ap (λ b. call_answer world (callees.BuiltIn f) 0 (arguments_at world ns b)) at

-- RTD
pub call_rtd : (world : World) (callee : Callee) (ns : List Node) (before : ℕ) → callee ≡ callees.Rtd → call_at world callee ns before ≡ rtd_at world ns before
unfolding call_at rtd_at
call_rtd world callee ns before is =
    let at : before + 0 ≡ before = omega arith in
    ap (λ c. call_answer world c (suc before) (arguments_at world ns (before + own_site c))) is
    ∙ ap (λ b. rtd_answer world (arguments_at world ns b)) at

-- an added function
pub call_added : (world : World) (callee : Callee) (name : List ℕ) (ns : List Node) (before : ℕ) → callee ≡ callees.Added name → call_at world callee ns before ≡ added_at world name ns before
unfolding call_at added_at
call_added world callee name ns before is = ap (λ c. call_answer world c (suc before) (arguments_at world ns (before + own_site c))) is

-- the sites of its own
pub own_none : (callee : Callee) (f : Function) → callee ≡ callees.BuiltIn f → own_site callee ≡ 0
own_none callee f is = ap own_site is

pub own_rtd : (callee : Callee) → callee ≡ callees.Rtd → own_site callee ≡ 0
own_rtd callee is = ap own_site is

pub own_added : (callee : Callee) (name : Name) → callee ≡ callees.Added name → own_site callee ≡ 1
own_added callee name is = ap own_site is

-- ---- RTD
-- by whether the count of arguments is right
rtd_counted : (world : World) (ns : List Node) (before : ℕ) (b : Bool) → is_within RTD_ARITY (length ns) ≡ b
    → rtd_at world ns before ≡ cond b (with_all (answers_at world ns before) (λ vs. topic_answer world (all_ok (map text_of vs)))) (error_answer errors.Value)
unfolding rtd_at
rtd_counted world ns before b e =
    ap (λ t. cond t (with_all (map (λ (a : Argument). a.value) (arguments_at world ns before)) (λ vs. topic_answer world (all_ok (map text_of vs)))) (error_answer errors.Value))
    (ap (is_within RTD_ARITY) (argument_count world ns before) ∙ e)
    ∙ ap (λ list. cond b (with_all list (λ vs. topic_answer world (all_ok (map text_of vs)))) (error_answer errors.Value)) (argument_values world ns before)

-- a wrong count
pub rtd_outside : (world : World) (ns : List Node) (before : ℕ) → is_within RTD_ARITY (length ns) ≡ false → rtd_at world ns before ≡ error_answer errors.Value
rtd_outside world ns before e = rtd_counted world ns before false e

-- all values
pub rtd_value : (world : World) (ns : List Node) (before : ℕ) (vs : List Value) → is_within RTD_ARITY (length ns) ≡ true → GiveAll (answers_at world ns before) vs → rtd_at world ns before ≡ topic_answer world (all_ok (map text_of vs))
rtd_value world ns before vs e h = rtd_counted world ns before true e ∙ h.goes_on (λ list. topic_answer world (all_ok (map text_of list)))

-- a value that isn't there
pub rtd_halts : (world : World) (ns : List Node) (before : ℕ) (halt : Halt) → is_within RTD_ARITY (length ns) ≡ true → HaltAll (answers_at world ns before) halt → Halts (rtd_at world ns before) halt
rtd_halts world ns before halt e h = Halts-same _ _ halt (rtd_counted world ns before true e) (h.stays (λ vs. topic_answer world (all_ok (map text_of vs))))

-- ---- added functions
-- the answer of an added function of this kind, or of a call that is wrong
abbrev added_by : World → Result Kind ErrorKind → ℕ → List ℕ → List Answer → Answer
added_by world (Err kind) site name answers = error_answer kind
added_by world (Ok kind) site name answers = with_all answers (λ vs. kind_answer world kind site name (map final_of vs))

-- by whether the count of arguments is right
counted_by : (world : World) (kind : Kind) (right : Bool) (site : ℕ) (name : List ℕ) (answers : List Answer)
    → cond right (with_all answers (λ vs. kind_answer world kind site name (map final_of vs))) (error_answer errors.Value) ≡ added_by world (cond right (Ok kind) (Err errors.Value)) site name answers
counted_by world kind true site name answers = refl
counted_by world kind false site name answers = refl

-- by what the name was registered with
registered_by : (world : World) (registered : Option Registration) (site : ℕ) (name : List ℕ) (arguments : List Argument)
    → added_answer world registered site name arguments ≡ added_by world (kind_called registered (length arguments)) site name (map (λ (a : Argument). a.value) arguments)
registered_by world None site name arguments = refl
registered_by world (Some registration) site name arguments = counted_by world registration.kind (length arguments == registration.arguments) site name (map (λ (a : Argument). a.value) arguments)

added_called : (world : World) (name : List ℕ) (ns : List Node) (before site : ℕ) (called : Result Kind ErrorKind) → site ≡ before + 1 → called ≡ kind_called (world.registered name) (length ns)
    → added_at world name ns before ≡ added_by world called site name (answers_at world ns site)
unfolding added_at
added_called world name ns before site called at is =
    let same : suc before ≡ site = omega arith in
    ap (λ s. added_answer world (world.registered name) s name (arguments_at world ns (before + 1))) same
    ∙ ap (λ b. added_answer world (world.registered name) site name (arguments_at world ns b)) (sym at)
    ∙ registered_by world (world.registered name) site name (arguments_at world ns site)
    ∙ ap (λ count. added_by world (kind_called (world.registered name) count) site name (map (λ (a : Argument). a.value) (arguments_at world ns site))) (argument_count world ns site)
    ∙ ap (λ list. added_by world (kind_called (world.registered name) (length ns)) site name list) (argument_values world ns site)
    ∙ ap (λ k. added_by world k site name (answers_at world ns site)) (sym is)

-- what is wrong with a call
pub added_wrong : (world : World) (name : List ℕ) (ns : List Node) (before site : ℕ) (called : Result Kind ErrorKind) (kind : ErrorKind) → site ≡ before + 1 → called ≡ kind_called (world.registered name) (length ns)
    → called ≡ Err kind → added_at world name ns before ≡ error_answer kind
added_wrong world name ns before site called kind at is wrong = added_called world name ns before site called at is ∙ ap (λ k. added_by world k site name (answers_at world ns site)) wrong

-- all values
pub added_value : (world : World) (name : List ℕ) (ns : List Node) (before site : ℕ) (called : Result Kind ErrorKind) (kind : Kind) (vs : List Value) → site ≡ before + 1 → called ≡ kind_called (world.registered name) (length ns)
    → called ≡ Ok kind → GiveAll (answers_at world ns site) vs → added_at world name ns before ≡ kind_answer world kind site name (map final_of vs)
added_value world name ns before site called kind vs at is right h =
    added_called world name ns before site called at is
    ∙ ap (λ k. added_by world k site name (answers_at world ns site)) right
    ∙ h.goes_on (λ list. kind_answer world kind site name (map final_of list))

-- a value that isn't there
pub added_halts : (world : World) (name : List ℕ) (ns : List Node) (before site : ℕ) (called : Result Kind ErrorKind) (kind : Kind) (halt : Halt) → site ≡ before + 1 → called ≡ kind_called (world.registered name) (length ns)
    → called ≡ Ok kind → HaltAll (answers_at world ns site) halt → Halts (added_at world name ns before) halt
added_halts world name ns before site called kind halt at is right h =
    Halts-same _ _ halt (added_called world name ns before site called at is ∙ ap (λ k. added_by world k site name (answers_at world ns site)) right)
    (h.stays (λ vs. kind_answer world kind site name (map final_of vs)))
