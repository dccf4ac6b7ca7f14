use Rattle.std.proofs.Common.{◌≡◌, ℕ, true, Some, ap, sym, ◌∙◌}
use Rattle.std.specs.Prelude.{◌&&◌, filter, map, nat_eq, not}
use Rattle.rtd_topics.specs.Parts.{is_of_round, known_of, published_of, topic_has, with_value}
use Rattle.topic_table.specs.Table.{ConnectedTopic, has_reader, topic_at}
use Rattle.rtd_topics.proofs.Ending.{read-before, taken-since}
use Rattle.rtd_topics.proofs.Linking.{linked-ended}
use Rattle.rtd_topics.proofs.RtdFacts.{one-runs}
use Rattle.rtd_topics.proofs.TopicFacts.{has-same}
use Rattle.rtd_topics.proofs.topics.RtdTopics.cancel_round.Goals as goal

pub returns-clause-servers : goal.returns-clause-servers
returns-clause-servers g c = c.disconnect_since.ensures.drops.known ∙ ap (λ p. map known_of p.servers) c.self.view_is

pub returns-clause-published : goal.returns-clause-published
returns-clause-published g c topic = c.disconnect_since.ensures.drops.published topic ∙ ap (λ p. published_of g.S.RtdServer.state p.servers topic) c.self.view_is

pub returns-clause-taken : goal.returns-clause-taken
returns-clause-taken g c =
    let running : c.self.inside.is_running ≡ true = ap (λ p. p.is_running) c.self.view_is ∙ one-runs c.args.self.now.is_running _ c.requires in
    ap (map with_value) (taken-since c.self.inside.table.topics c.disconnect_since.new.table.topics c.self.inside.round c.self.inside.is_running running
    (c.disconnect_since.ensures.topics ∙ ap (filter (λ (t : ConnectedTopic). not (nat_eq c.self.inside.round t.round))) c.drop_round.ensures.topics.topics))
    ∙ ap (λ p. map with_value (filter (λ (t : ConnectedTopic). not (is_of_round p.is_running p.round t)) p.table.topics)) c.self.view_is

pub returns-clause-readers : goal.returns-clause-readers
returns-clause-readers g c topic cell =
    let running : c.self.inside.is_running ≡ true = ap (λ p. p.is_running) c.self.view_is ∙ one-runs c.args.self.now.is_running _ c.requires in
    let was : (q : ℕ) (t : ConnectedTopic) → topic_at c.drop_round.new.self.topics q ≡ Some t → topic_at c.self.inside.table.topics q ≡ Some t =
    λ q t at. ap (λ ts. topic_at ts q) (sym c.drop_round.ensures.topics.topics) ∙ at in
    has-same (has_reader c.self.inside.table) (has_reader c.disconnect_since.new.table) c.self.inside.table.topics c.disconnect_since.new.table.topics
    c.facts.ensures.rising c.facts.ensures.once c.facts-2.ensures.rising c.facts-2.ensures.once
    (λ q d. c.disconnect_since.ensures.readers
    (λ i t e at of. c.drop_round.ensures.readers i e ∙ c.self.invariant.0.unread i t e (was i t at) (ap (λ b. b && nat_eq c.self.inside.round t.round) running ∙ of)) q d
    ∙ c.drop_round.ensures.readers q d)
    (λ q t at. was q t (c.disconnect_since.ensures.among q t at))
    (λ q t d had at. c.disconnect_since.ensures.kept q t (ap (λ ts. topic_at ts q) c.drop_round.ensures.topics.topics ∙ at)
    (read-before c.self.inside.is_running (nat_eq c.self.inside.round t.round) (has_reader c.self.inside.table q d) running (c.self.invariant.0.unread q t d at) had)) topic cell
    ∙ ap (λ p. topic_has (has_reader p.table) p.table.topics topic cell) c.self.view_is

pub invariant_of-self : goal.invariant_of-self
invariant_of-self g c = (
  c.disconnect_since.ensures.drops.linked c.self.inside.round
      (linked-ended g.S.RtdServer.state c.self.inside.servers.items c.self.inside.table c.drop_round.new.self c.self.inside.round c.self.inside.is_running
      c.drop_round.ensures.topics (λ id cell. c.drop_round.ensures.running id cell ∙ sym (c.drop_round.ensures.readers id cell)) c.self.invariant.0),
  c.self.invariant.1,
)
