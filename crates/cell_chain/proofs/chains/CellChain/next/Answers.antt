use Rattle.cell_chain.proofs.CellLaws.{due-used, first-due, is-cell-chain, numbered-next}
use Rattle.cell_chain.proofs.chains.CellChain.next.Goals as goal

pub cell_at-requires : goal.cell_at-requires
cell_at-requires g c =
    due-used c.self.inside.numbering c.self.inside.chain _ c.self.invariant c.in_ok-number.number (first-due c.self.inside.chain.due c.in_ok-number.number c.in_ok-number.ensures.first)

pub invariant_of-self-2 : goal.invariant_of-self-2
invariant_of-self-2 g c = numbered-next c.self.inside.numbering c.self.inside.chain c.next.new.self _ c.self.invariant c.next.ensures.left

pub returns-clause-chain : goal.returns-clause-chain
returns-clause-chain g c = is-cell-chain c.self.inside.numbering c.next.new.self _ (invariant_of-self-2 g c)

pub returns-in_err-number-clause-chain : goal.returns-in_err-number-clause-chain
returns-in_err-number-clause-chain g c =
    is-cell-chain c.self.inside.numbering c.next.new.self _ (numbered-next c.self.inside.numbering c.self.inside.chain c.next.new.self _ c.self.invariant c.next.ensures.left)
