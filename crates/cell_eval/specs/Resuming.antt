-- What a formula comes to as its topics become known.
use Rattle.std.specs.Prelude.{◌≡◌, ℕ, true, List, [], ◌∷◌, ◌++◌, Option, Some, None, IfSome}
use Rattle.cell_values.specs.declared.topics.Topic.{Topic}
use Rattle.cell_values.specs.declared.values.Value.{Value}
use Rattle.cell_eval.specs.declared.jobs.Job.{Job}
use Rattle.cell_eval.specs.Jobs.{topic_value, world_of}
use Rattle.formula_parse.specs.declared.nodes.Node.{Node}
use Rattle.workbook.specs.Evaluation.{World, Answer, Val, Asks, Needs, answer_of}
use Rattle.workbook.specs.Reads.{answer_knowing, is_listed}

-- each topic that is known has its value of a snapshot
abbrev pub AgreesWith : (Topic → Value) → (Topic → Option Value) → Type 0
AgreesWith snapshot known = (topic : Topic) → IfSome (known topic) (λ v. v ≡ snapshot topic)

-- the answer of a formula where each topic has its value of a snapshot
abbrev pub full_answer : World → Node → (Topic → Value) → Answer
full_answer world tree snapshot = answer_knowing world tree (λ topic. Some (snapshot topic))

-- what an answer says of the full answer: that it is the same, unless it needs a topic, which is listed and isn't known
abbrev pub Foretells : (Topic → Option Value) → List Topic → Answer → Answer → Type 0
Foretells known topics full (Val v) = full ≡ Val v
Foretells known topics full (Asks site name args) = full ≡ Asks site name args
Foretells known topics full (Needs topic) = (known topic ≡ None) × (is_listed topics topic ≡ true)

-- these topics suffice for a formula over a snapshot: whichever topics are known by it, no other topic is needed, and a value or a call is the full answer
pub record TopicsSuffice (world : World) (tree : Node) (snapshot : Topic → Value) (topics : List Topic) : Type 0 where
  pub foretold : (known : Topic → Option Value) → AgreesWith snapshot known → Foretells known topics (full_answer world tree snapshot) (answer_knowing world tree known)

-- a formula needs this topic where the job knows what it knows, and so not this one
abbrev pub NeedsNext : (List ℕ → List Value → Value) → Job → Topic → Type 0
NeedsNext answer job topic = (answer_of (world_of answer job) job.tree ≡ Needs topic) × (topic_value job.topics topic ≡ None)

-- the job that knows one topic more
abbrev pub knowing_more : Job → Topic → Value → Job
knowing_more job topic value = record job { topics = job.topics ++ (topic, value) ∷ [] }

-- each of these topics is the next one that a formula needs, where the job knows those before it, each with this value
abbrev pub AreNeeded : (List ℕ → List Value → Value) → Job → Value → List Topic → Type 0
AreNeeded answer job value [] = Unit {0}
AreNeeded answer job value (topic ∷ topics) = NeedsNext answer job topic × AreNeeded answer (knowing_more job topic value) value topics
