use Rattle.calc_round.proofs.Chains.{reordered-moved}
use Rattle.calc_round.proofs.places.place_behind.Goals as goal

pub returns-in-Some : goal.returns-in-Some
returns-in-Some c = reordered-moved _ _ c.args.cell c.in-Some.other _ c.requires.entry c.move_behind.ensures.moved
