-- A job that is evaluated again and again, with a topic more each time.
use Rattle.std.proofs.Common.{◌≡◌, ℕ, ◌<◌, List, [], ◌∷◌, ◌++◌, map, Option, Some, None, unwrap_or, IfSome, refl, sym, ap, ◌∙◌, subst, append_assoc, append-nil}
use Rattle.std.proofs.lemmas.List.{map-append}
use Rattle.cell_values.specs.declared.topics.Topic.{Topic}
use Rattle.cell_values.specs.declared.values.Value.{Value}
use Rattle.cell_eval.specs.declared.jobs.Job.{Job}
use Rattle.cell_eval.specs.declared.jobs.Outcome.{Outcome}
use Rattle.cell_eval.specs.declared.jobs.Outcome.TheVariants as outcomes
use Rattle.cell_eval.specs.Jobs.{topic_value, world_of, closed_world}
use Rattle.cell_eval.specs.Outcomes.{outcome_answer}
use Rattle.cell_eval.specs.Resuming.{AgreesWith, AreNeeded, Foretells, NeedsNext, knowing_more}
use Rattle.cell_eval.proofs.KnownTopics.{unknown_count, unknown_fewer, value_more}
use Rattle.cell_eval.proofs.Reading.{topics_suffice}
use Rattle.workbook.specs.Evaluation.{Answer, Val, Asks, Needs, answer_of}
use Rattle.workbook.specs.Reads.{answer_knowing, topics_read}

-- the value of each topic, where those that a job doesn't know have this value
abbrev pub snapshot_of : Job → Value → Topic → Value
snapshot_of job value topic = unwrap_or (topic_value job.topics topic) value

-- a job that has become another by topics of this value alone, each of which was needed when it came
pub record HasGrown (answer : List ℕ → List Value → Value) (old : Job) (value : Value) (job : Job) : Type 0 where
  pub added : List Topic
  pub needed : AreNeeded answer old value added
  pub grown : job ≡ record old { topics = old.topics ++ map (λ topic. (topic, value)) added }
  pub alike : (topic : Topic) → snapshot_of job value topic ≡ snapshot_of old value topic

-- at first it is the same job
pub grown_first : (answer : List ℕ → List Value → Value) (old job : Job) (value : Value) → job ≡ old → HasGrown answer old value job
grown_first answer old job value same = record {
  added = [];
  needed = tt;
  grown = same ∙ ap (λ topics. record old { topics = topics }) (sym (append-nil old.topics));
  alike = λ topic. ap (λ j. snapshot_of j value topic) same;
}

-- topics of a value behind others, and one more
entries_more : (topics : List (Topic × Value)) (value : Value) (added : List Topic) (topic : Topic)
    → (topics ++ map (λ t. (t, value)) added) ++ (topic, value) ∷ [] ≡ topics ++ map (λ t. (t, value)) (added ++ topic ∷ [])
entries_more topics value added topic = append_assoc topics (map (λ t. (t, value)) added) ((topic, value) ∷ []) ∙ ap (λ es. topics ++ es) (sym (map-append (λ (t : Topic). (t, value)) added (topic ∷ [])))

-- one more that is needed
needed_more : (answer : List ℕ → List Value → Value) (value : Value) (added : List Topic) (topic : Topic) (old : Job) → AreNeeded answer old value added
    → NeedsNext answer (record old { topics = old.topics ++ map (λ t. (t, value)) added }) topic → AreNeeded answer old value (added ++ topic ∷ [])
needed_more answer value [] topic old each needs = (subst (λ topics. NeedsNext answer (record old { topics = topics }) topic) (append-nil old.topics) needs, tt)
needed_more answer value (t ∷ added) topic old each needs = (
  each.0,
  needed_more answer value added topic (knowing_more old t value) each.1
      (subst (λ topics. NeedsNext answer (record old { topics = topics }) topic) (sym (append_assoc old.topics ((t, value) ∷ []) (map (λ s. (s, value)) added))) needs),
)

-- a topic more
pub grown_more : (answer : List ℕ → List Value → Value) (old job new : Job) (value : Value) (topic : Topic) → HasGrown answer old value job → NeedsNext answer job topic → new ≡ record job { topics = job.topics ++ (topic, value) ∷ [] } → HasGrown answer old value new
grown_more answer old job new value topic h needs is = record {
  added = h.added ++ topic ∷ [];
  needed = needed_more answer value h.added topic old h.needed (subst (λ j. NeedsNext answer j topic) h.grown needs);
  grown = is ∙ ap (λ (j : Job). record j { topics = j.topics ++ (topic, value) ∷ [] }) h.grown ∙ ap (λ topics. record old { topics = topics }) (entries_more old.topics value h.added topic);
  alike = λ t. ap (λ j. snapshot_of j value t) is ∙ value_more job.topics topic value t ∙ h.alike t;
}

-- nothing but the topics has changed
grown_kept : (answer : List ℕ → List Value → Value) (old job : Job) (value : Value) → HasGrown answer old value job → job ≡ record old { topics = job.topics }
grown_kept answer old job value h = h.grown ∙ ap (λ topics. record old { topics = topics }) (sym (ap (λ (j : Job). j.topics) h.grown))

-- ---- how many of the topics that a formula reads aren't known
-- of the topics that a job's formula reads over a snapshot, how many aren't among these
pub left_count : (List ℕ → List Value → Value) → Job → Value → List (Topic × Value) → ℕ
left_count answer old value topics = unknown_count topics (topics_read (world_of answer old) (snapshot_of old value) old.tree)

-- a value that is found is that of the snapshot
agrees_some : (o p : Option Value) (value : Value) → unwrap_or o value ≡ unwrap_or p value → IfSome o (λ v. v ≡ unwrap_or p value)
agrees_some None p value h = tt
agrees_some (Some v) p value h = h

-- what a grown job knows agrees with the snapshot
grown_agrees : (answer : List ℕ → List Value → Value) (old job : Job) (value : Value) → HasGrown answer old value job → AgreesWith (snapshot_of old value) (topic_value job.topics)
grown_agrees answer old job value h topic = agrees_some (topic_value job.topics topic) (topic_value old.topics topic) value (h.alike topic)

-- the world of a grown job
grown_world : (answer : List ℕ → List Value → Value) (old job : Job) (value : Value) → HasGrown answer old value job → answer_of (world_of answer job) job.tree ≡ answer_knowing (world_of answer old) old.tree (topic_value job.topics)
unfolding world_of
grown_world answer old job value h = ap (λ (j : Job). answer_of (world_of answer j) j.tree) (grown_kept answer old job value h)

-- what a grown job's answer says of that of the closed world
grown_foretells : (answer : List ℕ → List Value → Value) (old job : Job) (value : Value) (a : Answer) → HasGrown answer old value job → a ≡ answer_of (world_of answer job) job.tree
    → Foretells (topic_value job.topics) (topics_read (world_of answer old) (snapshot_of old value) old.tree) (answer_of (closed_world answer old value) old.tree) a
unfolding world_of closed_world
grown_foretells answer old job value a h is =
    subst (Foretells (topic_value job.topics) (topics_read (world_of answer old) (snapshot_of old value) old.tree) (answer_of (closed_world answer old value) old.tree))
    (sym (is ∙ grown_world answer old job value h))
    ((topics_suffice (world_of answer old) old.tree (snapshot_of old value)).foretold (topic_value job.topics) (grown_agrees answer old job value h))

-- the topic that a grown job needs
pub next_needed : (answer : List ℕ → List Value → Value) (old job : Job) (value : Value) (topic : Topic) → HasGrown answer old value job → Needs topic ≡ answer_of (world_of answer job) job.tree → NeedsNext answer job topic
next_needed answer old job value topic h is = (sym is, (grown_foretells answer old job value (Needs topic) h is).0)

-- a needed topic that is added leaves fewer
pub left_fewer : (answer : List ℕ → List Value → Value) (old job new : Job) (value : Value) (topic : Topic) → HasGrown answer old value job → Needs topic ≡ answer_of (world_of answer job) job.tree
    → new ≡ record job { topics = job.topics ++ (topic, value) ∷ [] } → left_count answer old value new.topics < left_count answer old value job.topics
unfolding left_count
left_fewer answer old job new value topic h is more =
    let outcome_answer = grown_foretells answer old job value (Needs topic) h is in
    subst (λ topics. left_count answer old value topics < left_count answer old value job.topics) (sym (ap (λ (j : Job). j.topics) more))
    (unknown_fewer job.topics topic value (topics_read (world_of answer old) (snapshot_of old value) old.tree) outcome_answer.0 outcome_answer.1)

-- an answer that needs no topic is the full one
foretold_end : (known : Topic → Option Value) (topics : List Topic) (full a : Answer) → ((topic : Topic) → a ≡ Needs topic → ⊥) → Foretells known topics full a → a ≡ full
foretold_end known topics full (Val v) other h = sym h
foretold_end known topics full (Asks site name args) other h = sym h
foretold_end known topics full (Needs topic) other h = absurd (other topic refl)

-- an answer of a grown job that needs no topic is that of the closed world
pub ends_closed : (answer : List ℕ → List Value → Value) (old job : Job) (value : Value) (a : Answer) → HasGrown answer old value job → a ≡ answer_of (world_of answer job) job.tree
    → ((topic : Topic) → a ≡ Needs topic → ⊥) → a ≡ answer_of (closed_world answer old value) old.tree
ends_closed answer old job value a h is other =
    foretold_end (topic_value job.topics) (topics_read (world_of answer old) (snapshot_of old value) old.tree) (answer_of (closed_world answer old value) old.tree) a other
    (grown_foretells answer old job value a h is)

-- an outcome that is no topic needs none
pub told_other : (outcome : Outcome) → ((topic : Topic) → outcome ≡ outcomes.Topic topic → ⊥) → (topic : Topic) → outcome_answer outcome ≡ Needs topic → ⊥
told_other (outcomes.Done v) other topic e = cc
told_other (outcomes.Topic t) other topic e = other t refl
told_other (outcomes.Call site name args) other topic e = cc
