use Rattle.std.proofs.Common.{[], sym, ap, subst, ◌∙◌}
use Rattle.std.specs.List.{IsDistinct}
use Rattle.cell_refs.specs.Cell.{same_cell}
use Rattle.topic_table.specs.Rows.{kept_in}
use Rattle.topic_table.specs.Table.{readers_of}
use Rattle.topic_table.proofs.RowLaws.{readers-at}
use Rattle.topic_table.proofs.rows.Rows.readers.Goals as goal

nothing-once : IsDistinct same_cell []
unfolding IsDistinct
nothing-once = tt

pub returns-in-Some-clause-cells : goal.returns-in-Some-clause-cells
returns-in-Some-clause-cells c = c.kept.ensures.cells ∙ ap kept_in c.in-Some.ensures ∙ (sym (readers-at c.self.inside.rows.entries c.self.inside.greatest 0 0 c.self.invariant.0 c.args.id) ∙ ap (λ v. readers_of v c.args.id) c.self.view_is)

pub returns-in-Some-clause-once : goal.returns-in-Some-clause-once
returns-in-Some-clause-once c = subst (IsDistinct same_cell) (ap kept_in c.in-Some.ensures ∙ (sym (readers-at c.self.inside.rows.entries c.self.inside.greatest 0 0 c.self.invariant.0 c.args.id) ∙ ap (λ v. readers_of v c.args.id) c.self.view_is)) c.kept.ensures.once

pub returns-in-None-clause-cells : goal.returns-in-None-clause-cells
returns-in-None-clause-cells c = ap kept_in c.in-None.ensures ∙ (sym (readers-at c.self.inside.rows.entries c.self.inside.greatest 0 0 c.self.invariant.0 c.args.id) ∙ ap (λ v. readers_of v c.args.id) c.self.view_is)

pub returns-in-None-clause-once : goal.returns-in-None-clause-once
returns-in-None-clause-once c = subst (IsDistinct same_cell) (ap kept_in c.in-None.ensures ∙ (sym (readers-at c.self.inside.rows.entries c.self.inside.greatest 0 0 c.self.invariant.0 c.args.id) ∙ ap (λ v. readers_of v c.args.id) c.self.view_is)) nothing-once
