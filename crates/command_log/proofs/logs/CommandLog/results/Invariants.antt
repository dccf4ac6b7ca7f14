use Rattle.std.proofs.Common.{◌≡◌, ◌++◌}
use Rattle.command_log.specs.Log.{AreLinked, IsBehindReturn, results_from, results_of}
use Rattle.command_log.proofs.logs.CommandLog.results.Given as goal

abbrev pub invariant-links : goal.invariant-links
invariant-links l = record {
  linked : AreLinked l.self.entries l.self.links l.self.heads;
  behind : IsBehindReturn l.self.entries l.place;
  values : l.results.items ++ results_from l.self.entries l.self.links l.place l.place ≡ results_of l.self l.fn.cell;
}

abbrev pub decreases-links : goal.decreases-links
decreases-links l = l.place
