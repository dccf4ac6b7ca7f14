use Rattle.calc_round.proofs.Accepting.{accepted-reads, accepted-working}
use Rattle.calc_round.proofs.laws.accepted_one.Goals as goal

pub returns : goal.returns
returns c = record { working = accepted-working; reads = accepted-reads }
