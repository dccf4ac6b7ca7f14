use Rattle.std.proofs.Common.{ℕ, ◌&&◌, ◌||◌, not, sym, ap, ◌∙◌}
use Rattle.std.specs.Map.{set_value}
use Rattle.cell_refs.specs.Cell.{same_cell}
use Rattle.topic_table.specs.Linking.{has_link}
use Rattle.topic_table.specs.Table.{has_reader}
use Rattle.topic_table.proofs.LinkLaws.{link-absent, link-cleaned}
use Rattle.topic_table.proofs.links.Links.clean.Goals as goal

pub returns-in_default : goal.returns-in_default
returns-in_default c cell q =
    ap (λ m. has_link m.entries cell q) c.get_mut.follows.holds-at-none
    ∙ link-absent c.self.inside.links.entries c.args.cell (λ id. has_reader c.args.rows.now id c.args.cell) (sym c.in_default.ensures.value) cell q
    ∙ ap (λ v. has_link v cell q && (not (same_cell cell c.args.cell) || has_reader c.args.rows.now q c.args.cell)) c.self.view_is

pub returns : goal.returns
returns c cell q =
    let es = c.self.inside.links.entries in
    let f = λ (id : ℕ). has_reader c.args.rows.now id c.args.cell in
    ap (λ l. has_link l cell q) ((c.get_mut.follows.holds c.retain_read.new.self).0 ∙ ap (set_value (same_cell c.args.cell) es) c.retain_read.ensures)
    ∙ link-cleaned es c.args.cell c.in-Some.ids.now f c.in-Some.ensures.value cell q
    ∙ ap (λ v. has_link v cell q && (not (same_cell cell c.args.cell) || has_reader c.args.rows.now q c.args.cell)) c.self.view_is
