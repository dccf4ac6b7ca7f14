use Rattle.std.proofs.Common.{subst}
use Rattle.rtd_topics.specs.Parts.{RtdParts, rtd_of}
use Rattle.rtd_topics.specs.RtdState.{IsRtdState}
use Rattle.rtd_topics.proofs.StateFacts.{is-state}
use Rattle.rtd_topics.proofs.topics.RtdTopics.facts.Goals as goal

pub returns : goal.returns
returns g c =
    subst (λ (p : RtdParts g.row.S.Denot). IsRtdState (rtd_of g.S.RtdServer.state p)) c.self.view_is
    (is-state g.S.RtdServer.state (record { servers = c.self.inside.servers.items; table = c.self.inside.table; pacing = c.self.inside.throttle; round = c.self.inside.round; is_running = c.self.inside.is_running; room = 0 }) c.facts.ensures.rising c.facts.ensures.once c.self.invariant.0)
