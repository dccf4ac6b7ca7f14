use Rattle.std.proofs.Common.{◌≡◌, ◌<◌, ◌≤◌, ℕ, get_or, length}
use Rattle.known_servers.specs.Server.{ServerParts}
use Rattle.rtd_topics.specs.Parts.{OpensServer}
use Rattle.rtd_topics.proofs.servers.open_each.Given as goal

abbrev pub invariant-loop-known : goal.invariant-loop-known
invariant-loop-known g l = record {
  done : (j : ℕ) (d : ServerParts g.row.S.Denot) → j < l.known-index → OpensServer g.S.RtdServer.state (get_or l.fn.servers j d) (get_or l.servers j d);
  rest : (j : ℕ) (d : ServerParts g.row.S.Denot) → l.known-index ≤ j → get_or l.servers j d ≡ get_or l.fn.servers j d;
  long : length l.servers ≡ length l.fn.servers;
}
