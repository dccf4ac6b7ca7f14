use Rattle.std.proofs.Common.{sym, ap, ◌∙◌}
use Rattle.std.specs.Option.{option_map}
use Rattle.topic_table.specs.declared.places.Row.{Row}
use Rattle.topic_table.specs.Rows.{row_at}
use Rattle.topic_table.specs.Table.{ConnectedTopic, topic_at}
use Rattle.topic_table.proofs.RowLaws.{value-of, topic-at}
use Rattle.topic_table.proofs.rows.Rows.value.Goals as goal

pub returns-in-Some : goal.returns-in-Some
returns-in-Some c = ap (option_map (λ (row : Row). row.value)) c.in-Some.ensures ∙ (value-of c.args.id (row_at c.self.inside.rows.entries c.args.id)
    ∙ ap (option_map (λ (t : ConnectedTopic). t.value)) (sym (topic-at c.self.inside.rows.entries c.self.inside.greatest c.self.invariant.0 c.args.id))
    ∙ ap (λ v. option_map (λ (t : ConnectedTopic). t.value) (topic_at v.topics c.args.id)) c.self.view_is)

pub returns-in-None : goal.returns-in-None
returns-in-None c = ap (option_map (λ (row : Row). row.value)) c.in-None.ensures ∙ (value-of c.args.id (row_at c.self.inside.rows.entries c.args.id)
    ∙ ap (option_map (λ (t : ConnectedTopic). t.value)) (sym (topic-at c.self.inside.rows.entries c.self.inside.greatest c.self.invariant.0 c.args.id))
    ∙ ap (λ v. option_map (λ (t : ConnectedTopic). t.value) (topic_at v.topics c.args.id)) c.self.view_is)
