use Rattle.std.proofs.Common.{◌≡◌, ◌+◌, ◌||◌, Result, Ok, Err, Some, cond, sym, ap, subst, ◌∙◌}
use Rattle.std.specs.Prelude.{IfOk, IsOkAnd}
use Rattle.std.specs.Map.{lookup}
use Rattle.cell_values.specs.declared.topics.Topic.{Topic}
use Rattle.cell_values.specs.Topic.{same_topic}
use Rattle.topic_table.specs.Table.{ConnectedTopic, id_of}
use Rattle.topic_table.proofs.RowChanges.{id_of-push}
use Rattle.topic_table.proofs.tables.Topics.connect.Goals as goal

-- what holds of the copy holds of the topic
of_copy : {E : Type 0} (Q : Topic → Type 0) (topic : Topic) (copy : Result Topic E) → IfOk copy (λ made. made ≡ topic) → IsOkAnd copy Q → Q topic
of_copy Q topic (Ok made) is holds = subst Q is holds
of_copy Q topic (Err e) is holds = absurd holds

-- what holds of each topic with the copy holds of one
at_topic : {E : Type 0} {K : Type 0} (Q : Topic → K → Type 0) (copy : Result Topic E) (k : K) → IsOkAnd copy (λ made. (t : K) → Q made t) → IsOkAnd copy (λ made. Q made k)
at_topic Q (Ok made) k holds = holds k
at_topic Q (Err e) k holds = holds

pub invariant_of-self-then-self : goal.invariant_of-self-then-self
invariant_of-self-then-self c =
    let ts = c.self.inside.rows.topics in
    let t : ConnectedTopic = record { id = c.self.inside.rows.greatest + 1; topic = c.args.topic; value = c.args.value; round = c.args.round } in
    let absent = ap (λ v. id_of v.topics c.args.topic) c.self.view_is ∙ c.requires in (
      λ added q.
          of_copy (λ made. lookup (same_topic q) c.add_copy-self-inside.new.ids ≡ cond (same_topic made q) (Some c.in_ok-id.id) (lookup (same_topic q) c.self.inside.ids)) c.args.topic c.copy-copy.result c.copy-copy.ensures (at_topic (λ made r. lookup (same_topic r) c.add_copy-self-inside.new.ids ≡ cond (same_topic made r) (Some c.in_ok-id.id) (lookup (same_topic r) c.self.inside.ids)) c.copy-copy.result q (c.add_copy-self-inside.ensures added))
          ∙ ap (cond (same_topic c.args.topic q) (Some c.in_ok-id.id)) (c.self.invariant.0 c.if-self.true q)
          ∙ ap (λ id. cond (same_topic c.args.topic q) (Some id) (id_of ts q)) c.in_ok-id.ensures.id
          ∙ sym (ap (λ l. id_of l q) c.in_ok-id.ensures.topics ∙ id_of-push ts t absent q),
      λ linked id cell reads. c.self.invariant.1 linked id cell
          ((λ i. sym (c.in_ok-id.ensures.readers id cell) i || sym (c.in_ok-id.ensures.running id cell) i) ∙ reads),
    )
