use Rattle.calc_round.proofs.Unknowns.{fewer-ahead}
use Rattle.calc_round.proofs.places.place_behind_unfinished.Goals as goal

pub unknowns-smaller : goal.unknowns-smaller
unknowns-smaller c = fewer-ahead c.args.store.now c.args.areas.now c.unknowns.after c.in-Some.named c.in-Some.ensures.0
