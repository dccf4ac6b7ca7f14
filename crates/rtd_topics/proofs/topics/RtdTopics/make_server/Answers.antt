use Rattle.std.proofs.Common.{ap, ◌∙◌}
use Rattle.rtd_topics.proofs.RtdFacts.{same-parts, started}
use Rattle.rtd_topics.proofs.topics.RtdTopics.make_server.Goals as goal

pub new-known-requires-clause-new : goal.new-known-requires-clause-new
new-known-requires-clause-new g c = started _ _ c.server_start.ensures.kept c.in_ok-server.ensures.new

pub returns-clause-same : goal.returns-clause-same
returns-clause-same g c =
    same-parts g.S.RtdServer.state c.args.self.now
    (record { servers = c.reserve.new.self.items; table = c.self.inside.table; pacing = c.self.inside.throttle; round = c.self.inside.round; is_running = c.self.inside.is_running; room = 0 })
    (c.reserve.ensures.items ∙ ap (λ p. p.servers) c.self.view_is) (ap (λ p. p.table) c.self.view_is) (ap (λ p. p.pacing) c.self.view_is)
    (ap (λ p. p.round) c.self.view_is) (ap (λ p. p.is_running) c.self.view_is)
