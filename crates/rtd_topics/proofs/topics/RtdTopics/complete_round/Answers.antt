use Rattle.std.proofs.Common.{false, refl, ap, sym, subst, ◌∙◌}
use Rattle.std.specs.Prelude.{map}
use Rattle.rtd_topics.specs.Parts.{RtdParts, known_of, published_of, rtd_of, topic_has}
use Rattle.rtd_topics.specs.RtdState.{TakesRead}
use Rattle.topic_table.specs.Table.{has_read, has_reader, topic_at}
use Rattle.rtd_topics.proofs.Ending.{takes-read}
use Rattle.rtd_topics.proofs.Linking.{linked-ended}
use Rattle.rtd_topics.proofs.TopicFacts.{has-same}
use Rattle.rtd_topics.proofs.topics.RtdTopics.complete_round.Goals as goal

pub returns-clause-servers : goal.returns-clause-servers
returns-clause-servers g c = c.disconnect_unread.ensures.drops.known ∙ ap (λ p. map known_of p.servers) c.self.view_is

pub returns-clause-published : goal.returns-clause-published
returns-clause-published g c topic = c.disconnect_unread.ensures.drops.published topic ∙ ap (λ p. published_of g.S.RtdServer.state p.servers topic) c.self.view_is

pub returns-clause-taken : goal.returns-clause-taken
returns-clause-taken g c =
    let old : RtdParts g.row.S.Denot = record { servers = c.self.inside.servers.items; table = c.self.inside.table; pacing = c.self.inside.throttle; round = c.self.inside.round; is_running = c.self.inside.is_running; room = 0 } in
    let new : RtdParts g.row.S.Denot = record { servers = c.disconnect_unread.new.servers.items; table = c.disconnect_unread.new.table; pacing = c.self.inside.throttle; round = c.self.inside.round; is_running = false; room = 0 } in
    subst (λ (p : RtdParts g.row.S.Denot). TakesRead (rtd_of g.S.RtdServer.state p) (rtd_of g.S.RtdServer.state new)) c.self.view_is
    (takes-read g.S.RtdServer.state old new c.facts.ensures.rising c.facts.ensures.once c.facts-2.ensures.rising c.facts-2.ensures.once c.self.invariant.0 refl
    (λ q cell. c.disconnect_unread.ensures.readers q cell ∙ c.keep_round.ensures.readers q cell)
    (λ q t at. ap (λ ts. topic_at ts q) (sym c.keep_round.ensures.topics.topics) ∙ c.disconnect_unread.ensures.among q t at)
    (λ q t cell had at. c.disconnect_unread.ensures.kept q cell (c.keep_round.ensures.readers q cell ∙ had) ∙ ap (λ ts. topic_at ts q) c.keep_round.ensures.topics.topics ∙ at)
    c.disconnect_unread.ensures.read)

pub returns-clause-readers : goal.returns-clause-readers
returns-clause-readers g c topic cell =
    has-same (has_read c.self.inside.table) (has_reader c.disconnect_unread.new.table) c.self.inside.table.topics c.disconnect_unread.new.table.topics
    c.facts.ensures.rising c.facts.ensures.once c.facts-2.ensures.rising c.facts-2.ensures.once
    (λ q d. c.disconnect_unread.ensures.readers q d ∙ c.keep_round.ensures.readers q d)
    (λ q t at. ap (λ ts. topic_at ts q) (sym c.keep_round.ensures.topics.topics) ∙ c.disconnect_unread.ensures.among q t at)
    (λ q t d had at. c.disconnect_unread.ensures.kept q d (c.keep_round.ensures.readers q d ∙ had) ∙ ap (λ ts. topic_at ts q) c.keep_round.ensures.topics.topics ∙ at) topic cell
    ∙ ap (λ p. topic_has (has_read p.table) p.table.topics topic cell) c.self.view_is

pub invariant_of-self : goal.invariant_of-self
invariant_of-self g c = (
  c.disconnect_unread.ensures.drops.linked c.self.inside.round
      (linked-ended g.S.RtdServer.state c.self.inside.servers.items c.self.inside.table c.keep_round.new.self c.self.inside.round c.self.inside.is_running
      c.keep_round.ensures.topics (λ id cell. c.keep_round.ensures.running id cell ∙ sym (c.keep_round.ensures.readers id cell)) c.self.invariant.0),
  c.self.invariant.1,
)
