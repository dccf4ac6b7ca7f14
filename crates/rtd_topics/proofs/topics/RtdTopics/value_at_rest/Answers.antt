use Rattle.std.proofs.Common.{Option, None, Some, cond, ap, sym, ◌∙◌}
use Rattle.std.specs.Prelude.{unwrap_or}
use Rattle.std.specs.Option.{option_and_then}
use Rattle.cell_values.specs.declared.errors.ErrorKind.TheVariants as errors
use Rattle.cell_values.specs.declared.topics.Topic.{Topic}
use Rattle.cell_values.specs.declared.values.Value.{Value}
use Rattle.cell_values.specs.declared.values.Value.TheVariants as values
use Rattle.rtd_topics.specs.Parts.{opening_of}
use Rattle.topic_table.specs.Table.{id_of}
use Rattle.rtd_topics.proofs.Reading.{snapshot-absent}
use Rattle.rtd_topics.proofs.topics.RtdTopics.value_at_rest.Goals as goal

pub returns-in-None : goal.returns-in-None
returns-in-None g c =
    sym (snapshot-absent g.S.RtdServer.state c.args.self.now c.args.topic.now (sym (ap (λ p. id_of p.table.topics c.args.topic.now) c.self.view_is) ∙ sym c.in-None.ensures)
    ∙ ap (λ b. unwrap_or (option_and_then (λ (o : Topic → Option Value). o c.args.topic.now) (cond b (Some (opening_of g.S.RtdServer.state c.args.self.now.servers)) None)) (values.Error errors.Na)) c.requires)
