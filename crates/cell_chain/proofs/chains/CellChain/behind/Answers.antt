use Rattle.std.proofs.Common.{◌≡◌, true, ap, subst, sym, ◌∙◌}
use Rattle.cell_refs.specs.Cell.{is_among}
use Rattle.cell_chain.specs.CellOrder.{is_behind}
use Rattle.cell_chain.proofs.CellLaws.{behind-answer, entry-numbered}
use Rattle.cell_chain.proofs.chains.CellChain.behind.Goals as goal

pub number_at-first-requires : goal.number_at-first-requires
number_at-first-requires c =
    entry-numbered c.self.inside.numbering c.self.inside.chain _ c.self.invariant c.args.x
    (subst (λ v. is_among v.entries c.args.x ≡ true) (sym c.self.view_is) c.requires.first)

pub number_at-second-requires : goal.number_at-second-requires
number_at-second-requires c =
    entry-numbered c.self.inside.numbering c.self.inside.chain _ c.self.invariant c.args.y
    (subst (λ v. is_among v.entries c.args.y ≡ true) (sym c.self.view_is) c.requires.second)

pub returns : goal.returns
returns c =
    c.behind.ensures
    ∙ behind-answer c.self.inside.numbering c.self.inside.chain _ c.number_at-first.result c.number_at-second.result c.args.x c.args.y c.self.invariant
    c.number_at-first.ensures c.number_at-second.ensures
    ∙ ap (λ v. is_behind v.entries c.args.x c.args.y) c.self.view_is
