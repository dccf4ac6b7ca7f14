-- Answers as trees of decisions over what is given: the values of the topics that are known, and the values that
-- were accepted at sites. A tree has a bound on how many topics it looks up, and bounds on the sites that it asks.
use Rattle.std.proofs.Common.{◌≡◌, ℕ, ◌+◌, ◌-◌, ◌<◌, ◌≤◌, Bool, true, false, cond, List, Option, Some, None, refl, sym, ap, ◌∙◌, arith}
use mathlib.Core.Path.{fun_ext}
use Rattle.cell_values.specs.declared.topics.Topic.{Topic}
use Rattle.cell_values.specs.declared.values.Value.{Value}
use Rattle.cell_values.specs.Value.{final_of}
use Rattle.workbook.specs.Evaluation.{World, Answer, Val, Asks, Needs, then_with, final_answer}

-- what is given: the values of the topics that are known, and the accepted values at sites
pub record Given : Type 0 where
  pub topic : Topic → Option Value
  pub site : ℕ → Option Value

-- a world in which this is given
abbrev pub world_over : World → Given → World
world_over world given = record world { known = given.topic; accepted = given.site }

-- an answer before anything is given: a value, or what it goes on with behind the value of a site or of a topic
pub data Decision : Type 0 where
  Gives : Value → Decision
  Takes : ℕ → List ℕ → List Value → (Value → Decision) → Decision
  Looks : Topic → (Value → Decision) → Decision

-- the accepted value of a site, or the asked call
abbrev pub taken : ℕ → List ℕ → List Value → Option Value → (Value → Answer) → Answer
taken site name args None next = Asks site name args
taken site name args (Some v) next = next v

-- a topic's value looked up
abbrev pub looked : Topic → Option Value → (Value → Answer) → Answer
looked topic None next = Needs topic
looked topic (Some v) next = next v

-- the answer of a decision where this is given
abbrev pub run : Given → Decision → Answer
run given (Gives v) = Val v
run given (Takes site name args next) = taken site name args (given.site site) (λ v. run given (next v))
run given (Looks topic next) = looked topic (given.topic topic) (λ v. run given (next v))

-- a decision, and others behind its value
abbrev pub then_decides : Decision → (Value → Decision) → Decision
then_decides (Gives v) next = next v
then_decides (Takes site name args others) next = Takes site name args (λ v. then_decides (others v) next)
then_decides (Looks topic others) next = Looks topic (λ v. then_decides (others v) next)

-- a decision looks up at most so many topics in turn, and asks sites behind lo alone, up to hi
abbrev pub IsWithin : ℕ → ℕ → Decision → ℕ → Type 0
IsWithin lo hi (Gives v) looks = Unit {0}
IsWithin lo hi (Takes site name args next) looks = (lo < site) × (site ≤ hi) × ((v : Value) → IsWithin lo hi (next v) looks)
IsWithin lo hi (Looks topic next) looks = (0 < looks) × ((v : Value) → IsWithin lo hi (next v) (looks - 1))

-- wider bounds
pub within_wider : (lo hi low high : ℕ) → low ≤ lo → hi ≤ high → (d : Decision) (few many : ℕ) → few ≤ many → IsWithin lo hi d few → IsWithin low high d many
within_wider lo hi low high a b (Gives v) few many more h = tt
within_wider lo hi low high a b (Takes site name args next) few many more h =
    (within_low h.0, within_high h.1, λ v. within_wider lo hi low high a b (next v) few many more (h.2 v))
  where
    within_low : lo < site → low < site
    within_low below = omega arith

    within_high : site ≤ hi → site ≤ high
    within_high below = omega arith
within_wider lo hi low high a b (Looks topic next) few many more h =
    (some_left h.0, λ v. within_wider lo hi low high a b (next v) (few - 1) (many - 1) (omega arith) (h.1 v))
  where
    some_left : 0 < few → 0 < many
    some_left some = omega arith

-- going on behind a site
taken_then : (site : ℕ) (name : List ℕ) (args : List Value) (o : Option Value) (f g : Value → Answer) (next : Value → Answer) → ((v : Value) → f v ≡ then_with (g v) next)
    → taken site name args o f ≡ then_with (taken site name args o g) next
taken_then site name args None f g next h = refl
taken_then site name args (Some v) f g next h = h v

-- going on behind a topic that is looked up
looked_then : (topic : Topic) (o : Option Value) (f g : Value → Answer) (next : Value → Answer) → ((v : Value) → f v ≡ then_with (g v) next)
    → looked topic o f ≡ then_with (looked topic o g) next
looked_then topic None f g next h = refl
looked_then topic (Some v) f g next h = h v

-- going on behind a decision
run_then : (given : Given) (d : Decision) (next : Value → Decision) → run given (then_decides d next) ≡ then_with (run given d) (λ v. run given (next v))
run_then given (Gives v) next = refl
run_then given (Takes site name args others) next =
    taken_then site name args (given.site site) (λ v. run given (then_decides (others v) next)) (λ v. run given (others v)) (λ v. run given (next v)) (λ v. run_then given (others v) next)
run_then given (Looks topic others) next =
    looked_then topic (given.topic topic) (λ v. run given (then_decides (others v) next)) (λ v. run given (others v)) (λ v. run given (next v)) (λ v. run_then given (others v) next)

-- ---- answers that a decision within bounds gives, whatever is given
pub record Decides (lo hi looks : ℕ) (answer : Given → Answer) : Type 0 where
  pub decision : Decision
  pub runs : (given : Given) → answer given ≡ run given decision
  pub within : IsWithin lo hi decision looks

-- in wider bounds
pub decides_wider : {lo hi few : ℕ} (low high many : ℕ) (a : Given → Answer) → low ≤ lo → hi ≤ high → few ≤ many → Decides lo hi few a → Decides low high many a
decides_wider {lo = lo} {hi = hi} {few = few} low high many a below above more h = record {
  decision = h.decision;
  runs = h.runs;
  within = within_wider lo hi low high below above h.decision few many more h.within;
}

module _ (lo hi : ℕ) where
  -- behind a decision of so many topics stand others of so many
  within_then : (d : Decision) (first others : ℕ) (next : Value → Decision) → IsWithin lo hi d first → ((v : Value) → IsWithin lo hi (next v) others)
      → IsWithin lo hi (then_decides d next) (first + others)
  within_then (Gives v) first others next h k = within_wider lo hi lo hi (omega arith) (omega arith) (next v) others (first + others) (omega arith) (k v)
  within_then (Takes site name args rest) first others next h k = (h.0, h.1, λ v. within_then (rest v) first others next (h.2 v) k)
  within_then (Looks topic rest) first others next h k =
      (some_left h.0, λ v. within_wider lo hi lo hi (omega arith) (omega arith) (then_decides (rest v) next) (first - 1 + others) (first + others - 1) (one_less h.0) (within_then (rest v) (first - 1) others next (h.1 v) k))
    where
      some_left : 0 < first → 0 < first + others
      some_left some = omega arith

      one_less : 0 < first → first - 1 + others ≤ first + others - 1
      one_less some = omega arith

  -- a value
  pub decides_value : (looks : ℕ) (v : Value) → Decides lo hi looks (λ given. Val v)
  decides_value looks v = record { decision = Gives v; runs = λ given. refl; within = tt }

  -- a decision
  pub decides_run : (d : Decision) (few many : ℕ) → few ≤ many → IsWithin lo hi d few → Decides lo hi many (λ given. run given d)
  decides_run d few many more h = record { decision = d; runs = λ given. refl; within = within_wider lo hi lo hi (omega arith) (omega arith) d few many more h }

  -- with more topics
  pub decides_more : {few : ℕ} (many : ℕ) (a : Given → Answer) → few ≤ many → Decides lo hi few a → Decides lo hi many a
  decides_more many a more h = decides_wider lo hi many a (omega arith) (omega arith) more h

  -- equal answers
  pub decides_same : {looks : ℕ} (a b : Given → Answer) → ((given : Given) → a given ≡ b given) → Decides lo hi looks b → Decides lo hi looks a
  decides_same a b same h = record { decision = h.decision; runs = λ given. same given ∙ h.runs given; within = h.within }

  -- one of two answers
  pub decides_cond : {looks : ℕ} (b : Bool) (x y : Given → Answer) → Decides lo hi looks x → Decides lo hi looks y → Decides lo hi looks (λ given. cond b (x given) (y given))
  decides_cond true x y h k = h
  decides_cond false x y h k = k

  -- going on behind an answer
  pub decides_then : {first others : ℕ} (a : Given → Answer) (next : Given → Value → Answer) → Decides lo hi first a → ((v : Value) → Decides lo hi others (λ given. next given v))
      → Decides lo hi (first + others) (λ given. then_with (a given) (next given))
  decides_then {first = first} {others = others} a next h k = record {
    decision = then_decides h.decision (λ v. (k v).decision);
    runs = λ given.
        ap (λ x. then_with x (next given)) (h.runs given)
        ∙ ap (then_with (run given h.decision)) (fun_ext (λ v. (k v).runs given))
        ∙ sym (run_then given h.decision (λ v. (k v).decision));
    within = within_then h.decision first others (λ v. (k v).decision) h.within (λ v. (k v).within);
  }

  -- an answer in which Blank is made 0 goes on with its value
  final_then : (a : Answer) → final_answer a ≡ then_with a (λ v. Val (final_of v))
  final_then (Val v) = refl
  final_then (Asks site name args) = refl
  final_then (Needs topic) = refl

  -- an answer in which Blank is made 0
  pub decides_final : {looks : ℕ} (a : Given → Answer) → Decides lo hi looks a → Decides lo hi looks (λ given. final_answer (a given))
  decides_final {looks = looks} a h =
      decides_same (λ given. final_answer (a given)) (λ given. then_with (a given) (λ v. Val (final_of v))) (λ given. final_then (a given))
      (decides_more looks (λ given. then_with (a given) (λ v. Val (final_of v))) (omega arith)
      (decides_then {others = 0} a (λ given v. Val (final_of v)) h (λ v. decides_value 0 (final_of v))))
