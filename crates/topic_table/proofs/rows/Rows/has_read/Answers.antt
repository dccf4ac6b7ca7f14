use Rattle.std.proofs.Common.{sym, ap, ◌∙◌}
use Rattle.cell_refs.specs.Cell.{is_among}
use Rattle.topic_table.specs.Rows.{running_in}
use Rattle.topic_table.specs.Table.{has_read}
use Rattle.topic_table.proofs.RowLaws.{running-at}
use Rattle.topic_table.proofs.rows.Rows.has_read.Goals as goal

pub returns-in-Some : goal.returns-in-Some
returns-in-Some c = c.has_read.ensures ∙ ap (λ place. is_among (running_in place) c.args.cell) c.in-Some.ensures ∙ (ap (λ l. is_among l c.args.cell) (sym (running-at c.self.inside.rows.entries c.self.inside.greatest 0 0 c.self.invariant.0 c.args.id)) ∙ ap (λ v. has_read v c.args.id c.args.cell) c.self.view_is)

pub returns-in-None : goal.returns-in-None
returns-in-None c = ap (λ place. is_among (running_in place) c.args.cell) c.in-None.ensures ∙ (ap (λ l. is_among l c.args.cell) (sym (running-at c.self.inside.rows.entries c.self.inside.greatest 0 0 c.self.invariant.0 c.args.id)) ∙ ap (λ v. has_read v c.args.id c.args.cell) c.self.view_is)
