use Rattle.calc_round.specs.Looks.{IsOther}
use Rattle.calc_round.proofs.Unknowns.{ahead}
use Rattle.calc_round.proofs.places.place_behind_unfinished.Given as goal

-- what was found is another cell of the chain
abbrev pub invariant-unknowns : goal.invariant-unknowns
invariant-unknowns l = IsOther l.chain.entries l.cell l.last

abbrev pub decreases-unknowns : goal.decreases-unknowns
decreases-unknowns l = ahead l.store l.after
