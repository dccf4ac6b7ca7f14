use Rattle.std.proofs.Common.{◌≡◌, ◌<◌, ◌≤◌, ℕ, Bool, true, false, ap, sym, subst, ◌∙◌}
use Rattle.std.specs.Prelude.{◌&&◌, map, not}
use Rattle.std.proofs.lemmas.List.Elements.{All-same}
use Rattle.cell_refs.specs.Cell.{is_among}
use Rattle.rtd_topics.specs.Parts.{IsLinked, OpensServer, known_of, published_of, topic_has, with_value}
use Rattle.rtd_topics.proofs.Linking.{linked-begun, published-kept}
use Rattle.rtd_topics.proofs.RtdFacts.{has-but, has-kept, none-at_rest, none-runs, none-since, opening-begun, taken-all}
use Rattle.rtd_topics.proofs.ServerLists.{follows-zip, known-zip}
use Rattle.topic_table.specs.Table.{ConnectedTopic, has_read, has_reader}
use Rattle.rtd_topics.proofs.topics.RtdTopics.begin_round.Goals as goal

pub returns-clause-servers : goal.returns-clause-servers
returns-clause-servers g c = known-zip (OpensServer g.S.RtdServer.state) (λ k k' o. o.0) _ _ c.open_all.ensures ∙ ap (λ p. map known_of p.servers) c.self.view_is

pub returns-clause-published : goal.returns-clause-published
returns-clause-published g c topic =
    published-kept g.S.RtdServer.state (λ m. OpensServer g.S.RtdServer.state) c.self.inside.servers.items c.open_all.new.servers.items
    (follows-zip (OpensServer g.S.RtdServer.state) (λ m. OpensServer g.S.RtdServer.state) (λ k k' o. o.0.0) (λ m k k' o. o) _ _ c.open_all.ensures)
    (λ m k k' o. o.1.0) topic
    ∙ ap (λ p. published_of g.S.RtdServer.state p.servers topic) c.self.view_is

pub returns-clause-opening : goal.returns-clause-opening
returns-clause-opening g c topic = opening-begun g.S.RtdServer.state c.self.inside.servers.items c.open_all.new.servers.items c.open_all.ensures topic
    ∙ ap (λ p. published_of g.S.RtdServer.state p.servers topic) c.self.view_is

pub returns-clause-taken : goal.returns-clause-taken
returns-clause-taken g c =
    let rests : c.args.self.now.is_running ≡ false = none-runs c.args.self.now.is_running _ c.requires.none in
    let less : c.self.inside.round < c.args.round = subst (λ (n : ℕ). n < c.args.round) (ap (λ p. p.round) (sym c.self.view_is)) c.requires.later in
    ap (map with_value)
    (taken-all true c.args.round c.start_round.new.self.topics
    (none-since c.self.inside.round c.args.round c.start_round.new.self.topics less
    (All-same (λ (t : ConnectedTopic). t.round ≤ c.self.inside.round) c.start_round.new.self.topics c.self.inside.table.topics c.start_round.ensures.topics.topics c.self.invariant.0.rounds))
    ∙ c.start_round.ensures.topics.topics ∙ ap (λ p. p.table.topics) c.self.view_is
    ∙ sym (taken-all c.args.self.now.is_running c.args.self.now.round c.args.self.now.table.topics (none-at_rest c.args.self.now.is_running c.args.self.now.round c.args.self.now.table.topics rests)))

pub returns-clause-readers : goal.returns-clause-readers
returns-clause-readers g c topic cell =
    has-kept (has_reader c.self.inside.table) (has_reader c.start_round.new.self) c.self.inside.table.topics c.start_round.new.self.topics c.start_round.ensures.topics.topics c.start_round.ensures.readers topic cell
    ∙ ap (λ p. topic_has (has_reader p.table) p.table.topics topic cell) c.self.view_is

pub returns-clause-reading : goal.returns-clause-reading
returns-clause-reading g c topic cell =
    let rests : c.args.self.now.is_running ≡ false = none-runs c.args.self.now.is_running _ c.requires.none in
    let rest : c.self.inside.is_running ≡ false = ap (λ p. p.is_running) c.self.view_is ∙ rests in
    has-but (has_reader c.self.inside.table) (has_read c.start_round.new.self) c.self.inside.table.topics c.start_round.new.self.topics (is_among c.args.forgotten.now) c.start_round.ensures.topics.topics
    (λ id q. c.start_round.ensures.running id q ∙ ap (λ b. b && not (is_among c.args.forgotten.now q)) (c.self.invariant.0.rest rest id q)) topic cell
    ∙ ap (λ p. topic_has (has_reader p.table) p.table.topics topic cell && not (is_among c.args.forgotten.now cell)) c.self.view_is

pub invariant_of-self : goal.invariant_of-self
invariant_of-self g c =
    let rests : c.args.self.now.is_running ≡ false = none-runs c.args.self.now.is_running _ c.requires.none in
    let rest : c.self.inside.is_running ≡ false = ap (λ p. p.is_running) c.self.view_is ∙ rests in
    let less : c.self.inside.round < c.args.round = subst (λ (n : ℕ). n < c.args.round) (ap (λ p. p.round) (sym c.self.view_is)) c.requires.later in (
      linked-begun g.S.RtdServer.state c.self.inside.servers.items c.open_all.new.servers.items c.self.inside.table c.start_round.new.self c.self.inside.round c.args.round
          c.open_all.ensures c.start_round.ensures.topics c.start_round.ensures.readers less
          (subst (λ (b : Bool). IsLinked g.S.RtdServer.state c.self.inside.servers.items c.self.inside.table c.self.inside.round b) rest c.self.invariant.0),
      c.self.invariant.1,
    )
