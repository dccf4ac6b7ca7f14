use Rattle.std.proofs.Common.{ap, ◌∙◌}
use Rattle.known_servers.proofs.Pending.{pending-refreshed, sound-kept}
use Rattle.known_servers.proofs.servers.KnownServer.refresh.Goals as goal

pub invariant_of-self : goal.invariant_of-self
invariant_of-self g c = (
  sound-kept (g.S.RtdServer.state c.self.inside.server) (g.S.RtdServer.state c.refresh_data.new.self) c.self.inside.news c.give.new.self
      c.self.invariant.0 c.refresh_data.ensures.published c.refresh_data.ensures.connected
      (pending-refreshed (g.S.RtdServer.state c.self.inside.server) (g.S.RtdServer.state c.refresh_data.new.self) c.self.inside.news c.give.new.self c.in-Ok.pairs.items
      (ap (λ k. k.news.given) c.self.view_is ∙ c.requires) c.give.ensures c.in-Ok.ensures.news c.in-Ok.ensures.due),
  c.self.invariant.1,
)

pub returns-in-Ok-clause-view : goal.returns-in-Ok-clause-view
returns-in-Ok-clause-view g c = rw (← c.self.view_is) (
  (c.refresh_data.ensures.published.0, c.refresh_data.ensures.published.1),
  c.refresh_data.ensures.connected,
  pending-refreshed (g.S.RtdServer.state c.self.inside.server) (g.S.RtdServer.state c.refresh_data.new.self) c.self.inside.news c.give.new.self c.in-Ok.pairs.items
      (ap (λ k. k.news.given) c.self.view_is ∙ c.requires) c.give.ensures c.in-Ok.ensures.news c.in-Ok.ensures.due,
)
