use Rattle.std.proofs.Common.{◌≡◌, ◌&&◌, not, map, sym, ap, subst, ◌∙◌, refl}
use Rattle.cell_refs.specs.Cell.{is_among, same_cell}
use Rattle.topic_table.specs.Rows.{IsForgotten, IsOnce, connected, kept_in, live, running_in}
use Rattle.topic_table.specs.Table.{has_read, has_reader}
use Rattle.topic_table.proofs.RowLaws.{connected-each, read-each, reader-each, readers-at, rising-each, running-at}
use Rattle.topic_table.proofs.rows.Rows.forget_everywhere.Goals as goal

topics : (c : goal.After-forget_all) → map connected (live c.forget_all.new.rows.entries) ≡ map connected (live c.self.inside.rows.entries)
topics c = connected-each (IsForgotten c.args.cell) (λ old new made. made.row) c.self.inside.rows.entries c.forget_all.new.rows.entries c.forget_all.ensures.places

pub invariant_of-self : goal.invariant_of-self
invariant_of-self c = (
  rising-each (IsForgotten c.args.cell) c.self.inside.rows.entries c.forget_all.new.rows.entries 0 c.self.inside.greatest c.forget_all.ensures.places c.self.invariant.0,
  subst IsOnce (sym (topics c)) c.self.invariant.1,
  refl,
  c.self.invariant.3,
)

pub returns-clause-topics : goal.returns-clause-topics
returns-clause-topics c = record { topics = topics c ∙ ap (λ v. v.topics) c.self.view_is; greatest = ap (λ v. v.greatest) c.self.view_is }

pub returns-clause-readers : goal.returns-clause-readers
returns-clause-readers c q cell =
    let es = c.self.inside.rows.entries in
    let high = c.self.inside.greatest in
    reader-each (IsForgotten c.args.cell) es c.forget_all.new.rows.entries high c.self.invariant.0 c.forget_all.ensures.places 0 0 0 0 cell q
    (λ place. is_among (kept_in place) cell) refl (λ old new made. made.kept cell)
    ∙ ap (λ l. is_among l cell) (sym (readers-at es high 0 0 c.self.invariant.0 q))
    ∙ ap (λ v. has_reader v q cell) c.self.view_is

pub returns-clause-running : goal.returns-clause-running
returns-clause-running c q cell =
    let es = c.self.inside.rows.entries in
    let high = c.self.inside.greatest in
    read-each (IsForgotten c.args.cell) es c.forget_all.new.rows.entries high c.self.invariant.0 c.forget_all.ensures.places 0 0 0 0 cell q
    (λ place. is_among (running_in place) cell && not (same_cell cell c.args.cell)) refl (λ old new made. made.running cell)
    ∙ ap (λ l. is_among l cell && not (same_cell cell c.args.cell)) (sym (running-at es high 0 0 c.self.invariant.0 q))
    ∙ ap (λ v. has_read v q cell && not (same_cell cell c.args.cell)) c.self.view_is
