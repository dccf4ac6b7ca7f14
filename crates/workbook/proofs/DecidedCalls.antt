-- What calls come to over arguments that are given by decisions.
use Rattle.std.proofs.Common.{◌≡◌, ℕ, ℤ, zero, suc, ◌+◌, ◌-◌, ◌<◌, ◌≤◌, pos, int_lt, nat_lt, nat_eq, unsigned_abs, Bool, true, false, ◌||◌, cond, List, [], ◌∷◌, map, length, slice_get, Option, Some, None, Result, Ok, Err, refl, ap, arith}
use Rattle.std.specs.List.{list_any}
use Rattle.std.specs.Str.{chars}
use Rattle.std.proofs.lemmas.List.{length-map}
use Rattle.addin_types.specs.declared.registrations.Kind.{Kind}
use Rattle.addin_types.specs.declared.registrations.Kind.TheVariants as kinds
use Rattle.addin_types.specs.declared.registrations.Registration.{Registration}
use Rattle.cell_refs.specs.declared.areas.Area.{Area}
use Rattle.cell_values.specs.declared.errors.ErrorKind.{ErrorKind}
use Rattle.cell_values.specs.declared.errors.ErrorKind.TheVariants as errors
use Rattle.cell_values.specs.declared.topics.Topic.{Topic}
use Rattle.cell_values.specs.declared.values.Value.{Value}
use Rattle.cell_values.specs.declared.values.Value.TheVariants as values
use Rattle.cell_values.specs.Coercion.{text_of, truth_of}
use Rattle.cell_values.specs.Name.{is_name}
use Rattle.cell_values.specs.Value.{number_of, final_of}
use Rattle.formula_parse.specs.declared.callees.Callee.{Callee}
use Rattle.formula_parse.specs.declared.callees.Callee.TheVariants as callees
use Rattle.functions.specs.declared.arguments.Arg.{Arg}
use Rattle.functions.specs.declared.arguments.Arg.TheVariants as inputs
use Rattle.functions.specs.declared.functions.Function.{Function}
use Rattle.functions.specs.declared.functions.Function.TheVariants as functions
use Rattle.functions.specs.Applied.{result_of}
use Rattle.functions.specs.Functions.{arity_of, takes_area, is_within}
use Rattle.functions.specs.Inputs.{all_ok}
use Rattle.functions.specs.Kinds.{is_error, is_na}
use Rattle.workbook.specs.Evaluation.{World, Answer, Val, Argument, error_answer, then_with, with_all, with_input, with_inputs, area_input, branch, if_answer, unless_answer, choice_of, chosen_at, choose_answer, function_answer, topic_answer, known_answer, rtd_answer, accepted_answer, kind_answer, added_answer, call_answer, own_site, LONGEST_STRING, RTD_ARITY}
use Rattle.workbook.proofs.Decisions.{Given, Decision, Gives, Takes, Looks, IsWithin, world_over, taken, looked, run, Decides, decides_value, decides_run, decides_more, decides_same, decides_cond, decides_then}

-- an argument before anything is given, within bounds
pub record Open (lo hi : ℕ) : Type 0 where
  pub area : Option Area
  pub looks : ℕ
  pub decision : Decision
  pub within : IsWithin lo hi decision looks

module _ (world : World) (lo hi : ℕ) where
  -- the argument where this is given
  abbrev pub closed : Given → Open lo hi → Argument
  closed given o = record { area = o.area; value = run given o.decision }

  -- how many topics arguments look up at most
  abbrev pub looks_of : List (Open lo hi) → ℕ
  looks_of [] = 0
  looks_of (o ∷ os) = o.looks + looks_of os

  -- an error
  decides_failed : (looks : ℕ) (kind : ErrorKind) → Decides lo hi looks (λ given. error_answer kind)
  decides_failed looks kind = decides_value lo hi looks (values.Error kind)

  -- an argument
  decides_open : (o : Open lo hi) (many : ℕ) → o.looks ≤ many → Decides lo hi many (λ given. run given o.decision)
  decides_open o many more = decides_run lo hi o.decision o.looks many more o.within

  -- ---- IF, IFERROR, IFNA and CHOOSE
  -- the branch of IF that is taken
  decides_branch : (truth : Result Bool ErrorKind) (met : Open lo hi) (unmet : List (Open lo hi)) → Decides lo hi (met.looks + looks_of unmet) (λ given. branch truth (closed given met) (map (closed given) unmet))
  decides_branch (Err kind) met unmet = decides_failed (met.looks + looks_of unmet) kind
  decides_branch (Ok true) met unmet = decides_open met (met.looks + looks_of unmet) (omega arith)
  decides_branch (Ok false) met [] = decides_value lo hi (met.looks + 0) (values.Bool false)
  decides_branch (Ok false) met (unmet ∷ others) = decides_open unmet (met.looks + (unmet.looks + looks_of others)) (omega arith)

  -- IF
  decides_if : (os : List (Open lo hi)) → Decides lo hi (looks_of os) (λ given. if_answer (map (closed given) os))
  decides_if [] = decides_failed 0 errors.Value
  decides_if (test ∷ []) = decides_failed (test.looks + 0) errors.Value
  decides_if (test ∷ met ∷ unmet) =
      decides_then lo hi (λ given. run given test.decision) (λ given v. branch (truth_of v) (closed given met) (map (closed given) unmet)) (decides_open test test.looks (omega arith))
      (λ v. decides_branch (truth_of v) met unmet)

  -- IFERROR and IFNA
  decides_unless : (is_such : Value → Bool) (os : List (Open lo hi)) → Decides lo hi (looks_of os) (λ given. unless_answer is_such (map (closed given) os))
  decides_unless is_such [] = decides_failed 0 errors.Value
  decides_unless is_such (first ∷ []) = decides_failed (first.looks + 0) errors.Value
  decides_unless is_such (first ∷ second ∷ others) =
      decides_then lo hi (λ given. run given first.decision) (λ given v. cond (is_such v) (run given second.decision) (Val v)) (decides_open first first.looks (omega arith))
      (λ v. decides_cond lo hi (is_such v) (λ given. run given second.decision) (λ given. Val v) (decides_open second (second.looks + looks_of others) (omega arith)) (decides_value lo hi (second.looks + looks_of others) v))

  -- the argument of CHOOSE at a place
  decides_chosen_at : (options : List (Open lo hi)) (place : ℕ) → Decides lo hi (looks_of options) (λ given. chosen_at (slice_get (map (closed given) options) place))
  decides_chosen_at [] place = decides_failed 0 errors.Value
  decides_chosen_at (o ∷ options) zero = decides_open o (o.looks + looks_of options) (omega arith)
  decides_chosen_at (o ∷ options) (suc place) =
      decides_more lo hi (o.looks + looks_of options) (λ given. chosen_at (slice_get (map (closed given) options) place)) (omega arith) (decides_chosen_at options place)

  -- the argument of CHOOSE that is taken
  decides_chosen : (n : Result ℤ ErrorKind) (options : List (Open lo hi)) → Decides lo hi (looks_of options) (λ given. choice_of n (map (closed given) options))
  decides_chosen (Err kind) options = decides_failed (looks_of options) kind
  decides_chosen (Ok n) options =
      decides_cond lo hi (int_lt (pos 0) n) (λ given. chosen_at (slice_get (map (closed given) options) (unsigned_abs n - 1))) (λ given. error_answer errors.Value)
      (decides_chosen_at options (unsigned_abs n - 1)) (decides_failed (looks_of options) errors.Value)

  -- CHOOSE
  decides_choose : (os : List (Open lo hi)) → Decides lo hi (looks_of os) (λ given. choose_answer (map (closed given) os))
  decides_choose [] = decides_failed 0 errors.Value
  decides_choose (index ∷ options) =
      decides_then lo hi (λ given. run given index.decision) (λ given v. choice_of (number_of v) (map (closed given) options)) (decides_open index index.looks (omega arith))
      (λ v. decides_chosen (number_of v) options)

  -- ---- the other functions
  -- an argument by its value
  decides_direct : (o : Open lo hi) (many : ℕ) (next : Given → Arg → Answer) → ((arg : Arg) → Decides lo hi many (λ given. next given arg))
      → Decides lo hi (o.looks + many) (λ given. then_with (run given o.decision) (λ v. next given (inputs.Direct v)))
  decides_direct o many next h =
      decides_then lo hi (λ given. run given o.decision) (λ given v. next given (inputs.Direct v)) (decides_open o o.looks (omega arith)) (λ v. h (inputs.Direct v))

  -- an argument as a function takes it, where it refers to an area or to none
  decides_input : (takes : Bool) (area : Option Area) (o : Open lo hi) (many : ℕ) (next : Given → Arg → Answer) → ((arg : Arg) → Decides lo hi many (λ given. next given arg))
      → Decides lo hi (o.looks + many) (λ given. with_input (world_over world given) takes (record { area = area; value = run given o.decision }) (next given))
  decides_input true (Some area) o many next h = decides_more lo hi (o.looks + many) (λ given. next given (area_input world area)) (omega arith) (h (area_input world area))
  decides_input true None o many next h = decides_direct o many next h
  decides_input false (Some area) o many next h = decides_direct o many next h
  decides_input false None o many next h = decides_direct o many next h

  -- all arguments as a function takes them
  decides_inputs : (f : Function) (place : ℕ) (os : List (Open lo hi)) (next : Given → List Arg → Answer) → ((args : List Arg) → Decides lo hi 0 (λ given. next given args))
      → Decides lo hi (looks_of os) (λ given. with_inputs (world_over world given) f place (map (closed given) os) (next given))
  decides_inputs f place [] next h = h []
  decides_inputs f place (o ∷ os) next h =
      decides_input (takes_area f place) o.area o (looks_of os) (λ given first. with_inputs (world_over world given) f (suc place) (map (closed given) os) (λ others. next given (first ∷ others)))
      (λ first. decides_inputs f (suc place) os (λ given others. next given (first ∷ others)) (λ others. h (first ∷ others)))

  -- a function that takes all its arguments
  decides_applied : (f : Function) (os : List (Open lo hi)) → Decides lo hi (looks_of os) (λ given. with_inputs (world_over world given) f 0 (map (closed given) os) (λ args. Val (result_of f args)))
  decides_applied f os = decides_inputs f 0 os (λ given args. Val (result_of f args)) (λ args. decides_value lo hi 0 (result_of f args))

  -- a built-in function
  decides_function : (f : Function) (os : List (Open lo hi)) → Decides lo hi (looks_of os) (λ given. function_answer (world_over world given) f (map (closed given) os))
  decides_function functions.If os = decides_if os
  decides_function functions.IfError os = decides_unless is_error os
  decides_function functions.IfNa os = decides_unless is_na os
  decides_function functions.Choose os = decides_choose os
  decides_function f os = decides_applied f os

  -- ---- RTD and added functions
  -- all values of arguments
  pub decides_values : (os : List (Open lo hi)) (many : ℕ) (next : Given → List Value → Answer) → ((vs : List Value) → Decides lo hi many (λ given. next given vs))
      → Decides lo hi (looks_of os + many) (λ given. with_all (map (λ (a : Argument). a.value) (map (closed given) os)) (next given))
  decides_values [] many next h = decides_more lo hi (0 + many) (λ given. next given []) (omega arith) (h [])
  decides_values (o ∷ os) many next h =
      decides_more lo hi (o.looks + looks_of os + many) (λ given. then_with (run given o.decision) (λ v. with_all (map (λ (a : Argument). a.value) (map (closed given) os)) (λ vs. next given (v ∷ vs)))) (omega arith)
      (decides_then lo hi (λ given. run given o.decision) (λ given v. with_all (map (λ (a : Argument). a.value) (map (closed given) os)) (λ vs. next given (v ∷ vs)))
      (decides_open o o.looks (omega arith)) (λ v. decides_values os many (λ given vs. next given (v ∷ vs)) (λ vs. h (v ∷ vs))))

  -- a test of how many arguments there are
  decides_counted : {looks : ℕ} (test : ℕ → Bool) (os : List (Open lo hi)) (x : Given → Answer) (y : Answer) → Decides lo hi looks x → Decides lo hi looks (λ given. y)
      → Decides lo hi looks (λ given. cond (test (length (map (closed given) os))) (x given) y)
  decides_counted test os x y h k =
      decides_same lo hi (λ given. cond (test (length (map (closed given) os))) (x given) y) (λ given. cond (test (length os)) (x given) y)
      (λ given. ap (λ count. cond (test count) (x given) y) (length-map os (closed given)))
      (decides_cond lo hi (test (length os)) x (λ given. y) h k)

  -- a topic's value is looked up
  known_looked : (any : World) (topic : Topic) (o : Option Value) → known_answer any topic o ≡ looked topic o (λ v. Val v)
  known_looked any topic None = refl
  known_looked any topic (Some v) = refl

  -- a topic's value
  decides_known : (topic : Topic) → Decides lo hi 1 (λ given. known_answer (world_over world given) topic (given.topic topic))
  decides_known topic = record {
    decision = Looks topic Gives;
    runs = λ given. known_looked (world_over world given) topic (given.topic topic);
    within = (omega arith, λ v. tt);
  }

  -- RTD by its texts
  decides_topic : (texts : Result (List (List ℕ)) ErrorKind) → Decides lo hi 1 (λ given. topic_answer (world_over world given) texts)
  decides_topic (Err kind) = decides_failed 1 kind
  decides_topic (Ok []) = decides_failed 1 errors.Value
  decides_topic (Ok (name ∷ [])) = decides_failed 1 errors.Value
  decides_topic (Ok (name ∷ machine ∷ strings)) =
      let topic : Topic = record { server = name; strings = strings } in
      decides_cond lo hi (nat_lt 0 (length machine) || list_any (λ s. nat_lt LONGEST_STRING (length (chars s))) strings)
      (λ given. error_answer errors.Value) (λ given. cond (is_name name) (known_answer (world_over world given) topic (given.topic topic)) (error_answer errors.Na))
      (decides_failed 1 errors.Value)
      (decides_cond lo hi (is_name name) (λ given. known_answer (world_over world given) topic (given.topic topic)) (λ given. error_answer errors.Na) (decides_known topic) (decides_failed 1 errors.Na))

  -- RTD
  decides_rtd : (os : List (Open lo hi)) → Decides lo hi (looks_of os + 1) (λ given. rtd_answer (world_over world given) (map (closed given) os))
  decides_rtd os =
      decides_counted (is_within RTD_ARITY) os (λ given. with_all (map (λ (a : Argument). a.value) (map (closed given) os)) (λ vs. topic_answer (world_over world given) (all_ok (map text_of vs)))) (error_answer errors.Value)
      (decides_values os 1 (λ given vs. topic_answer (world_over world given) (all_ok (map text_of vs))) (λ vs. decides_topic (all_ok (map text_of vs))))
      (decides_failed (looks_of os + 1) errors.Value)

  -- the accepted value of a site is taken
  accepted_taken : (site : ℕ) (name : List ℕ) (args : List Value) (o : Option Value) → accepted_answer site name args o ≡ taken site name args o (λ v. Val v)
  accepted_taken site name args None = refl
  accepted_taken site name args (Some v) = refl

  -- a registered function by its kind
  decides_kind : (kind : Kind) (site : ℕ) (name : List ℕ) (args : List Value) → lo < site → site ≤ hi → Decides lo hi 0 (λ given. kind_answer (world_over world given) kind site name args)
  decides_kind kinds.Plain site name args above below = decides_value lo hi 0 (world.answer name args)
  decides_kind (kinds.Asynchronous place) site name args above below = record {
    decision = Takes site name args Gives;
    runs = λ given. accepted_taken site name args (given.site site);
    within = (above, below, λ v. tt);
  }

  -- an added name
  decides_added : (registered : Option Registration) (site : ℕ) (name : List ℕ) (os : List (Open lo hi)) → lo < site → site ≤ hi
      → Decides lo hi (looks_of os + 0) (λ given. added_answer (world_over world given) registered site name (map (closed given) os))
  decides_added None site name os above below = decides_failed (looks_of os + 0) errors.Name
  decides_added (Some registration) site name os above below =
      decides_counted (λ count. nat_eq count registration.arguments) os
      (λ given. with_all (map (λ (a : Argument). a.value) (map (closed given) os)) (λ vs. kind_answer (world_over world given) registration.kind site name (map final_of vs))) (error_answer errors.Value)
      (decides_values os 0 (λ given vs. kind_answer (world_over world given) registration.kind site name (map final_of vs)) (λ vs. decides_kind registration.kind site name (map final_of vs) above below))
      (decides_failed (looks_of os + 0) errors.Value)

  -- a call, at the site behind lo
  pub decides_call : (callee : Callee) (os : List (Open lo hi)) → lo + own_site callee ≤ hi
      → Decides lo hi (looks_of os + 1) (λ given. call_answer (world_over world given) callee (suc lo) (map (closed given) os))
  decides_call (callees.BuiltIn f) os below =
      decides_counted (is_within (arity_of f)) os (λ given. function_answer (world_over world given) f (map (closed given) os)) (error_answer errors.Value)
      (decides_more lo hi (looks_of os + 1) (λ given. function_answer (world_over world given) f (map (closed given) os)) (omega arith) (decides_function f os)) (decides_failed (looks_of os + 1) errors.Value)
  decides_call callees.Rtd os below = decides_rtd os
  decides_call (callees.Added name) os below =
      decides_more lo hi (looks_of os + 1) (λ given. added_answer (world_over world given) (world.registered name) (suc lo) name (map (closed given) os)) (omega arith)
      (decides_added (world.registered name) (suc lo) name os (omega arith) (omega arith))
