use Rattle.std.proofs.Common.{◌≡◌, ◌<◌, ◌≤◌, ℕ, drop, get_or, length}
use Rattle.known_servers.specs.Server.{ServerParts}
use Rattle.rtd_topics.specs.Parts.{KeepsReadings, TakesServer, topics_after}
use Rattle.rtd_topics.proofs.pulls.take_each.Given as goal

abbrev pub invariant-loop-known : goal.invariant-loop-known
invariant-loop-known g l = record {
  done : (j : ℕ) (d : ServerParts g.row.S.Denot) → j < l.known-index → TakesServer (get_or l.fn.servers j d) (get_or l.servers j d);
  rest : (j : ℕ) (d : ServerParts g.row.S.Denot) → l.known-index ≤ j → get_or l.servers j d ≡ get_or l.fn.servers j d;
  long : length l.servers ≡ length l.fn.servers;
  topics : topics_after (drop l.known-index l.fn.servers) l.table.topics ≡ topics_after l.fn.servers l.fn.table.topics;
  others : KeepsReadings l.fn.table l.table;
}
