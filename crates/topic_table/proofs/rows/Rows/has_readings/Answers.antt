use Rattle.std.proofs.Common.{◌&&◌, not, sym, ap, ◌∙◌}
use Rattle.topic_table.specs.Rows.{kept_in, row_at, running_in}
use Rattle.topic_table.specs.Table.{is_no_cell, readers_of, running_of}
use Rattle.topic_table.proofs.RowLaws.{readers-at, running-at}
use Rattle.topic_table.proofs.rows.Rows.has_readings.Goals as goal

pub returns-in-Some : goal.returns-in-Some
returns-in-Some c = c.is_any.ensures ∙ ap (λ place. not (is_no_cell (kept_in place) && is_no_cell (running_in place))) c.in-Some.ensures ∙ (ap (λ l. not (is_no_cell l && is_no_cell (running_in (row_at c.self.inside.rows.entries c.args.id)))) (sym (readers-at c.self.inside.rows.entries c.self.inside.greatest 0 0 c.self.invariant.0 c.args.id) ∙ ap (λ v. readers_of v c.args.id) c.self.view_is)
    ∙ ap (λ l. not (is_no_cell (readers_of c.args.self.now c.args.id) && is_no_cell l)) (sym (running-at c.self.inside.rows.entries c.self.inside.greatest 0 0 c.self.invariant.0 c.args.id) ∙ ap (λ v. running_of v c.args.id) c.self.view_is))

pub returns-in-None : goal.returns-in-None
returns-in-None c = ap (λ place. not (is_no_cell (kept_in place) && is_no_cell (running_in place))) c.in-None.ensures ∙ (ap (λ l. not (is_no_cell l && is_no_cell (running_in (row_at c.self.inside.rows.entries c.args.id)))) (sym (readers-at c.self.inside.rows.entries c.self.inside.greatest 0 0 c.self.invariant.0 c.args.id) ∙ ap (λ v. readers_of v c.args.id) c.self.view_is)
    ∙ ap (λ l. not (is_no_cell (readers_of c.args.self.now c.args.id) && is_no_cell l)) (sym (running-at c.self.inside.rows.entries c.self.inside.greatest 0 0 c.self.invariant.0 c.args.id) ∙ ap (λ v. running_of v c.args.id) c.self.view_is))
