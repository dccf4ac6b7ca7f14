-- The topics that a formula reads over a snapshot suffice for it.
use Rattle.std.proofs.Common.{◌≡◌, inl, inr, List, Option, None, refl, sym, subst}
use Rattle.cell_values.specs.declared.topics.Topic.{Topic}
use Rattle.cell_values.specs.declared.values.Value.{Value}
use Rattle.cell_eval.specs.Resuming.{Foretells, TopicsSuffice, full_answer}
use Rattle.formula_parse.specs.declared.nodes.Node.{Node}
use Rattle.workbook.specs.Evaluation.{World, Answer, Val, Asks, Needs}
use Rattle.workbook.specs.Reads.{answer_knowing, needed_topic, topics_read}
use Rattle.workbook.proofs.PublicLaws.{full_needs_none, read_foretells}

-- an answer that needs no topic foretells itself
foretells_itself : (known : Topic → Option Value) (topics : List Topic) (full : Answer) → needed_topic full ≡ None → Foretells known topics full full
foretells_itself known topics (Val v) none = refl
foretells_itself known topics (Asks site name args) none = refl
foretells_itself known topics (Needs topic) none = cc

-- the topics that a formula reads suffice
pub topics_suffice : (world : World) (tree : Node) (snapshot : Topic → Value) → TopicsSuffice world tree snapshot (topics_read world snapshot tree)
topics_suffice world tree snapshot = record {
  foretold = λ known agrees. elim (read_foretells world tree snapshot known agrees) as (λ _. Foretells known (topics_read world snapshot tree) (full_answer world tree snapshot) (answer_knowing world tree known)) [
    | inl same ↦ subst (Foretells known (topics_read world snapshot tree) (full_answer world tree snapshot)) (sym same)
        (foretells_itself known (topics_read world snapshot tree) (full_answer world tree snapshot) (full_needs_none world tree snapshot))
    | inr needs ↦ subst (Foretells known (topics_read world snapshot tree) (full_answer world tree snapshot)) (sym needs.1) (needs.2, needs.3)
  ];
}
