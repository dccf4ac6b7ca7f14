use Rattle.std.proofs.Common.{◌≡◌, ◌&&◌, ℕ, not, sym, ap, ◌∙◌}
use Rattle.std.specs.Prelude.{List, nat_eq}
use Rattle.std.specs.List.{list_any}
use Rattle.cell_refs.specs.declared.grid.Cell.{Cell}
use Rattle.cell_refs.specs.Cell.{same_cell}
use Rattle.topic_table.specs.Linking.{has_link}
use Rattle.topic_table.specs.Table.{has_read, id_of}
use Rattle.topic_table.proofs.LinkLaws.{forgotten-noted, link-read, linked-cleaned}
use Rattle.topic_table.proofs.tables.Topics.forget.Goals as goal

-- all that the cell has read is forgotten
forgotten : (c : goal.After-clean) (q : ℕ) (d : Cell) → has_read c.forget_at.new.rows q d ≡ (has_read c.self.inside.rows q d && not (same_cell d c.args.cell))
forgotten c q d =
    let rows = c.self.inside.rows in
    let links = c.self.inside.links in
    c.forget_at.ensures.running q d
    ∙ ap (λ (ids : List ℕ). has_read rows q d && not (list_any (nat_eq q) ids && same_cell d c.args.cell)) c.ids.ensures
    ∙ forgotten-noted (has_read rows q d) (has_link links c.args.cell q) (same_cell d c.args.cell)
    (λ read same. link-read links rows (c.self.invariant.1 c.if-self.true) c.args.cell d q read same)

pub invariant_of-self : goal.invariant_of-self
invariant_of-self c = (
  λ indexed topic. c.self.invariant.0 indexed topic ∙ ap (λ topics. id_of topics topic) (sym c.forget_at.ensures.topics.topics),
  λ linked. linked-cleaned c.self.inside.links c.clean.new.self c.self.inside.rows c.forget_at.new.rows c.args.cell
      (c.self.invariant.1 linked) c.forget_at.ensures.readers (forgotten c) c.clean.ensures,
)

pub returns-then-self-clause-running : goal.returns-then-self-clause-running
returns-then-self-clause-running c q d = forgotten c q d ∙ ap (λ table. has_read table q d && not (same_cell d c.args.cell)) c.self.view_is
