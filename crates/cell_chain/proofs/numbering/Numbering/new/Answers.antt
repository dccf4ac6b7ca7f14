use Rattle.cell_chain.proofs.NumberLaws.{one_to_one-none}
use Rattle.cell_chain.proofs.numbering.Numbering.new.Goals as goal

pub returns-clause-once : goal.returns-clause-once
returns-clause-once c = one_to_one-none _ c.new-2.ensures.empty
