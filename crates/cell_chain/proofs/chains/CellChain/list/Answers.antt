use Rattle.std.proofs.Common.{subst}
use Rattle.cell_chain.specs.CellOrder.{IsCellChain}
use Rattle.cell_chain.proofs.CellLaws.{is-cell-chain}
use Rattle.cell_chain.proofs.chains.CellChain.list.Goals as goal

pub returns-in_err-numbers-clause-chain : goal.returns-in_err-numbers-clause-chain
returns-in_err-numbers-clause-chain c = subst IsCellChain c.self.view_is (is-cell-chain c.self.inside.numbering c.self.inside.chain _ c.self.invariant)

pub returns-clause-chain : goal.returns-clause-chain
returns-clause-chain c = subst IsCellChain c.self.view_is (is-cell-chain c.self.inside.numbering c.self.inside.chain _ c.self.invariant)
