use Rattle.std.proofs.Common.{subst}
use Rattle.rtd_topics.specs.Parts.{KeepsServer, RtdParts, rtd_of}
use Rattle.rtd_topics.specs.RtdState.{SameRtd}
use Rattle.rtd_topics.proofs.Linking.{linked-kept}
use Rattle.rtd_topics.proofs.Telling.{same-gathered}
use Rattle.rtd_topics.proofs.ServerLists.{follows-zip}
use Rattle.rtd_topics.proofs.Views.{link-kept}
use Rattle.rtd_topics.proofs.topics.RtdTopics.gather.Goals as goal

pub invariant_of-self : goal.invariant_of-self
invariant_of-self g c = (
  linked-kept g.S.RtdServer.state (λ m. KeepsServer g.S.RtdServer.state) c.self.inside.servers.items c.gather_all.new.servers.items c.self.inside.table c.self.inside.round c.self.inside.is_running
      (follows-zip (KeepsServer g.S.RtdServer.state) (λ m. KeepsServer g.S.RtdServer.state) (λ k k' r. r.0.0) (λ m k k' r. r) _ _ c.gather_all.ensures.kept) (λ m k k' r. link-kept _ _ r.1) c.self.invariant.0,
  c.self.invariant.1,
)

pub returns-clause-same : goal.returns-clause-same
returns-clause-same g c =
    subst (λ (p : RtdParts g.row.S.Denot). SameRtd (rtd_of g.S.RtdServer.state p)
    (rtd_of g.S.RtdServer.state (record { servers = c.gather_all.new.servers.items; table = c.self.inside.table; pacing = c.self.inside.throttle; round = c.self.inside.round; is_running = c.self.inside.is_running; room = 0 }))) c.self.view_is
    (same-gathered g.S.RtdServer.state (record { servers = c.self.inside.servers.items; table = c.self.inside.table; pacing = c.self.inside.throttle; round = c.self.inside.round; is_running = c.self.inside.is_running; room = 0 }) c.gather_all.new.servers.items c.gather_all.ensures.kept)
