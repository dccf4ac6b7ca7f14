use Rattle.calc_chain.proofs.KeepsLaws.{keeps_none}
use Rattle.calc_chain.proofs.orders.LinkedOrder.new.Goals as goal

pub invariant_of-result : goal.invariant_of-result
invariant_of-result c = keeps_none c.new.result c.new.ensures.at c.new.ensures.empty
