use Rattle.functions.proofs.Division.{quotient_meets, quotient_leaves}
use Rattle.functions.proofs.laws.a_quotient_leaves_less_than_the_divisor.Goals as goal

pub returns-clause-meets : goal.returns-clause-meets
returns-clause-meets c = quotient_meets

pub returns-clause-small : goal.returns-clause-small
returns-clause-small c = quotient_leaves
