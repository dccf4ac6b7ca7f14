use Rattle.std.proofs.Common.{ap, subst, ◌∙◌}
use Rattle.cell_refs.specs.Cell.{is_among}
use Rattle.cell_chain.specs.CellOrder.{IsCellChain}
use Rattle.cell_chain.proofs.CellLaws.{has-answer, is-cell-chain}
use Rattle.cell_chain.proofs.chains.CellChain.has.Goals as goal

pub returns-clause-entry : goal.returns-clause-entry
returns-clause-entry c =
    c.is_some.ensures
    ∙ has-answer c.self.inside.numbering c.self.inside.chain _ c.self.invariant c.args.cell c.number_of.result c.number_of.ensures.found c.number_of.ensures.none
    ∙ ap (λ v. is_among v.entries c.args.cell) c.self.view_is

pub returns-clause-chain : goal.returns-clause-chain
returns-clause-chain c = subst IsCellChain c.self.view_is (is-cell-chain c.self.inside.numbering c.self.inside.chain _ c.self.invariant)
