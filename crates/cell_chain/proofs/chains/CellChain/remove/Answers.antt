use Rattle.std.proofs.Common.{ap, ◌∙◌}
use Rattle.cell_chain.specs.CellOrder.{without}
use Rattle.cell_chain.specs.Numbering.{cells_in}
use Rattle.cell_chain.proofs.CellLaws.{numbered-without, view-without, view-without_none}
use Rattle.cell_chain.proofs.chains.CellChain.remove.Goals as goal

pub invariant_of-self : goal.invariant_of-self
invariant_of-self c =
    numbered-without c.self.inside.numbering c.remove.new.self c.self.inside.chain c.remove-in-Some.new.self _ c.in-Some.number c.args.cell c.self.invariant
    c.in-Some.ensures.free c.in-Some.ensures.others c.in-Some.ensures.once c.remove-in-Some.ensures

pub returns-in-Some : goal.returns-in-Some
returns-in-Some c =
    view-without c.self.inside.numbering c.remove.new.self c.self.inside.chain c.remove-in-Some.new.self _ c.in-Some.number c.args.cell c.self.invariant
    c.in-Some.ensures.found c.in-Some.ensures.others c.remove-in-Some.ensures
    ∙ ap (λ v. record { entries = without v.entries c.args.cell; due = without v.due c.args.cell }) c.self.view_is

pub returns-in_default : goal.returns-in_default
returns-in_default c =
    ap (λ slots. cells_in slots c.self.inside.chain) c.in_default.ensures.unchanged
    ∙ view-without_none c.self.inside.numbering c.self.inside.chain _ c.args.cell c.self.invariant c.in_default.ensures.none
    ∙ ap (λ v. record { entries = without v.entries c.args.cell; due = without v.due c.args.cell }) c.self.view_is
