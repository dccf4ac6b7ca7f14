use Rattle.calc_round.specs.Looks.{IsOther}
use Rattle.calc_round.proofs.places.place_behind_named.Given as goal

-- what was found is another cell of the chain
abbrev pub invariant-loop-named : goal.invariant-loop-named
invariant-loop-named l = IsOther l.chain.entries l.cell l.last
