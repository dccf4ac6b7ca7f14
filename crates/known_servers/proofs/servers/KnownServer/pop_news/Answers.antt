use Rattle.std.specs.Prelude.{option_to_list}
use Rattle.known_servers.proofs.Pending.{sound-popped}
use Rattle.known_servers.proofs.servers.KnownServer.pop_news.Goals as goal

pub invariant_of-self : goal.invariant_of-self
invariant_of-self g c = (
  sound-popped (g.S.RtdServer.state c.self.inside.server) c.self.inside.news c.pop.new.self (option_to_list c.pop.result) c.pop.ensures.given c.pop.ensures.sorted c.self.invariant.0,
  c.self.invariant.1,
)
