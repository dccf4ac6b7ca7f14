use Rattle.std.proofs.Common.{◌≡◌, ◌<◌, ℕ, get_or, length}
use Rattle.known_servers.specs.Server.{ServerParts}
use Rattle.rtd_topics.specs.Parts.{IsPreparedServer, KeepsServer}
use Rattle.rtd_topics.proofs.servers.gather_each.Given as goal

abbrev pub invariant-loop-known : goal.invariant-loop-known
invariant-loop-known g l = record {
  kept : (j : ℕ) (d : ServerParts g.row.S.Denot) → KeepsServer g.S.RtdServer.state (get_or l.fn.servers j d) (get_or l.servers j d);
  done : (j : ℕ) (d : ServerParts g.row.S.Denot) → j < l.known-index → IsPreparedServer g.S.RtdServer.state (get_or l.servers j d);
  long : length l.servers ≡ length l.fn.servers;
}
