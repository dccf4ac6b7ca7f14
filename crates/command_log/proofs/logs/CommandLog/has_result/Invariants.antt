use Rattle.std.proofs.Common.{◌≡◌}
use Rattle.command_log.specs.Log.{AreLinked, IsBehindReturn, has_site, results_from, results_of}
use Rattle.command_log.proofs.logs.CommandLog.has_result.Given as goal

abbrev pub invariant-links : goal.invariant-links
invariant-links l = record {
  linked : AreLinked l.self.entries l.self.links l.self.heads;
  behind : IsBehindReturn l.self.entries l.place;
  values : has_site (results_from l.self.entries l.self.links l.place l.place) l.site ≡ has_site (results_of l.self l.fn.cell) l.site;
}

abbrev pub decreases-links : goal.decreases-links
decreases-links l = l.place
