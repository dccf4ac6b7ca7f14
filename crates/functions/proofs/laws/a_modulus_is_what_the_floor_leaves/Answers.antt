use Rattle.functions.proofs.Division.{modulus_meets, modulus_above, modulus_below}
use Rattle.functions.proofs.laws.a_modulus_is_what_the_floor_leaves.Goals as goal

pub returns-clause-meets : goal.returns-clause-meets
returns-clause-meets c = modulus_meets

pub returns-clause-above : goal.returns-clause-above
returns-clause-above c = modulus_above

pub returns-clause-below : goal.returns-clause-below
returns-clause-below c = modulus_below
