use Rattle.std.proofs.Common.{◌≡◌, ◌+◌, ◌++◌, ◌∷◌, [], Bool, true, None, Some, ap, refl, sym, subst, ◌∙◌}
use Rattle.std.specs.Prelude.{filter, is_some, not, position}
use Rattle.std.specs.Option.{option_and_then}
use Rattle.cell_values.proofs.PublicLaws.{same_topic-refl}
use Rattle.known_servers.specs.Server.{has_name}
use Rattle.rtd_server.specs.Strings.{Strings}
use Rattle.rtd_topics.specs.Parts.{ConnectsAt, ConnectsServer, IsLinked, KeepsServer, is_of_round, opening_or_na, server_named, topic_has}
use Rattle.rtd_topics.proofs.Connecting.{id-came, kept-readings, linked-connected, linked-table, next-absent, not-so, opening-connects, published-connects, readers-came, running-readings, taken-connected}
use Rattle.rtd_topics.proofs.Linking.{linked-kept, opening-kept, published-kept}
use Rattle.rtd_topics.proofs.RtdFacts.{has-kept}
use Rattle.rtd_topics.proofs.ServerLists.{found-named, placed-named}
use Rattle.rtd_topics.proofs.Standing.{values-seen}
use Rattle.rtd_topics.proofs.Views.{link-kept}
use Rattle.topic_table.specs.Table.{ConnectedTopic, has_read, has_reader, id_of, topic_at}
use Rattle.rtd_topics.proofs.topics.RtdTopics.connect_topic.Goals as goal

pub returns-in_err-id-clause-values : goal.returns-in_err-id-clause-values
returns-in_err-id-clause-values g c =
    values-seen g.S.RtdServer.state c.args.self.now _
    (record { servers = c.self.inside.servers.items; table = c.reserve.new.self; pacing = c.self.inside.throttle; round = c.self.inside.round; is_running = c.self.inside.is_running; room = 0 })
    c.self.view_is (record {
      known = refl;
      published = λ topic. refl;
      opening = λ topic. refl;
      taken = ap (filter (λ (x : ConnectedTopic). not (is_of_round c.self.inside.is_running c.self.inside.round x))) c.reserve.ensures.topics;
      pacing = refl;
      readers = has-kept (has_reader c.self.inside.table) (has_reader c.reserve.new.self) c.self.inside.table.topics c.reserve.new.self.topics c.reserve.ensures.topics
          (kept-readings c.self.inside.table c.reserve.new.self c.reserve.ensures.readings);
      round = refl;
      running = refl;
    })

pub connect_at-requires-clause-new : goal.connect_at-requires-clause-new
connect_at-requires-clause-new g c k e =
    let absent : topic_at c.self.inside.table.topics c.in_ok-id.id ≡ None = ap (topic_at c.self.inside.table.topics) c.in_ok-id.ensures.id ∙ next-absent c.self.inside.table.topics c.self.inside.table.greatest c.facts.ensures.within in
    c.self.invariant.0.connected c.args.topic.now.server k e c.in_ok-id.id ∙ ap (option_and_then _) absent

pub invariant_of-self-in_err-value : goal.invariant_of-self-in_err-value
invariant_of-self-in_err-value g c = (
  linked-kept g.S.RtdServer.state (λ m. KeepsServer g.S.RtdServer.state) c.self.inside.servers.items c.connect_at.new.servers.items c.reserve.new.self c.self.inside.round c.self.inside.is_running
      c.in_err-value.ensures.refused.each (λ m k k' r. link-kept _ _ r.1)
      (linked-table g.S.RtdServer.state c.self.inside.servers.items c.self.inside.table c.reserve.new.self c.self.inside.round c.self.inside.is_running c.reserve.ensures.topics
      (kept-readings c.self.inside.table c.reserve.new.self c.reserve.ensures.readings) (running-readings c.self.inside.table c.reserve.new.self c.reserve.ensures.readings) c.self.invariant.0),
  c.self.invariant.1,
)

pub returns-in_err-value-clause-values : goal.returns-in_err-value-clause-values
returns-in_err-value-clause-values g c =
    values-seen g.S.RtdServer.state c.args.self.now _
    (record { servers = c.connect_at.new.servers.items; table = c.reserve.new.self; pacing = c.self.inside.throttle; round = c.self.inside.round; is_running = c.self.inside.is_running; room = 0 })
    c.self.view_is (record {
      known = c.in_err-value.ensures.refused.known;
      published = published-kept g.S.RtdServer.state (λ m. KeepsServer g.S.RtdServer.state) c.self.inside.servers.items c.connect_at.new.servers.items c.in_err-value.ensures.refused.each (λ m k k' r. r.1.0.0);
      opening = opening-kept g.S.RtdServer.state (λ m. KeepsServer g.S.RtdServer.state) c.self.inside.servers.items c.connect_at.new.servers.items c.in_err-value.ensures.refused.each (λ m k k' r. r.1.0.1);
      taken = ap (filter (λ (x : ConnectedTopic). not (is_of_round c.self.inside.is_running c.self.inside.round x))) c.reserve.ensures.topics;
      pacing = refl;
      readers = has-kept (has_reader c.self.inside.table) (has_reader c.reserve.new.self) c.self.inside.table.topics c.reserve.new.self.topics c.reserve.ensures.topics
          (kept-readings c.self.inside.table c.reserve.new.self c.reserve.ensures.readings);
      round = refl;
      running = refl;
    })

pub invariant_of-self-2 : goal.invariant_of-self-2
invariant_of-self-2 g c =
    let t : ConnectedTopic = record { id = c.in_ok-id.id; topic = c.args.topic.now; value = c.in_ok-value.value; round = c.self.inside.round } in
    let absent : topic_at c.self.inside.table.topics c.in_ok-id.id ≡ None = ap (topic_at c.self.inside.table.topics) c.in_ok-id.ensures.id ∙ next-absent c.self.inside.table.topics c.self.inside.table.greatest c.facts.ensures.within in
    let given : c.reserve.new.self.greatest + 1 ≡ c.in_ok-id.id = ap (λ n. n + 1) c.reserve.ensures.greatest ∙ sym c.in_ok-id.ensures.id in
    let came : c.add_topic.new.table.topics ≡ c.self.inside.table.topics ++ t ∷ [] =
    c.add_topic.ensures.topics ∙ (λ i. c.reserve.ensures.topics i ++ (record { id = given i; topic = c.in_ok-copy.ensures i; value = c.in_ok-value.value; round = c.self.inside.round }) ∷ []) in
    let running : c.self.inside.is_running ≡ true = ap (λ p. p.is_running) c.self.view_is ∙ c.requires.running in
    let place : position (has_name c.args.topic.now.server) c.self.inside.servers.items ≡ Some c.args.place = ap (λ p. position (has_name c.args.topic.now.server) p.servers) c.self.view_is ∙ c.requires.place in
    let known : is_some (server_named c.self.inside.servers.items c.args.topic.now.server) ≡ true =
    found-named c.self.inside.servers.items c.args.topic.now.server ∙ sym (placed-named c.self.inside.servers.items c.args.topic.now.server) ∙ ap is_some place in
    let connects : ConnectsAt g.S.RtdServer.state c.self.inside.servers.items c.connect_at.new.servers.items c.args.topic.now.server c.in_ok-id.id c.args.topic.now.strings c.in_ok-value.value =
    subst (λ (s : Strings). ConnectsAt g.S.RtdServer.state c.self.inside.servers.items c.connect_at.new.servers.items c.args.topic.now.server c.in_ok-id.id s c.in_ok-value.value) c.as_slice-strings.ensures c.in_ok-value.ensures.connected in
    let linked : IsLinked g.S.RtdServer.state c.self.inside.servers.items c.self.inside.table c.self.inside.round true =
    subst (λ (b : Bool). IsLinked g.S.RtdServer.state c.self.inside.servers.items c.self.inside.table c.self.inside.round b) running c.self.invariant.0 in (
      subst (λ (b : Bool). IsLinked g.S.RtdServer.state c.connect_at.new.servers.items c.add_topic.new.table c.self.inside.round b) (sym running)
          (linked-connected g.S.RtdServer.state c.self.inside.servers.items c.connect_at.new.servers.items c.self.inside.table c.add_topic.new.table c.self.inside.round t absent connects came
          (λ q cell. c.add_topic.ensures.readers q cell ∙ kept-readings c.self.inside.table c.reserve.new.self c.reserve.ensures.readings q cell)
          (λ cell. not-so (has_reader c.self.inside.table c.in_ok-id.id cell) (is_some (topic_at c.self.inside.table.topics c.in_ok-id.id)) (c.facts.ensures.read c.in_ok-id.id cell) (ap is_some absent))
          known (c.in_ok-value.ensures.value ∙ ap (opening_or_na g.S.RtdServer.state c.self.inside.servers.items c.args.topic.now.server) c.as_slice-strings.ensures) refl linked),
      c.self.invariant.1,
    )

pub returns-clause-connected : goal.returns-clause-connected
returns-clause-connected g c =
    let t : ConnectedTopic = record { id = c.in_ok-id.id; topic = c.args.topic.now; value = c.in_ok-value.value; round = c.self.inside.round } in
    let given : c.reserve.new.self.greatest + 1 ≡ c.in_ok-id.id = ap (λ n. n + 1) c.reserve.ensures.greatest ∙ sym c.in_ok-id.ensures.id in
    let came : c.add_topic.new.table.topics ≡ c.self.inside.table.topics ++ t ∷ [] =
    c.add_topic.ensures.topics ∙ (λ i. c.reserve.ensures.topics i ++ (record { id = given i; topic = c.in_ok-copy.ensures i; value = c.in_ok-value.value; round = c.self.inside.round }) ∷ []) in
    id-came c.self.inside.table.topics c.add_topic.new.table.topics t came (ap (λ p. id_of p.table.topics c.args.topic.now) c.self.view_is ∙ c.requires.new) (same_topic-refl c.args.topic.now)

pub returns-clause-values : goal.returns-clause-values
returns-clause-values g c =
    let t : ConnectedTopic = record { id = c.in_ok-id.id; topic = c.args.topic.now; value = c.in_ok-value.value; round = c.self.inside.round } in
    let absent : topic_at c.self.inside.table.topics c.in_ok-id.id ≡ None = ap (topic_at c.self.inside.table.topics) c.in_ok-id.ensures.id ∙ next-absent c.self.inside.table.topics c.self.inside.table.greatest c.facts.ensures.within in
    let given : c.reserve.new.self.greatest + 1 ≡ c.in_ok-id.id = ap (λ n. n + 1) c.reserve.ensures.greatest ∙ sym c.in_ok-id.ensures.id in
    let came : c.add_topic.new.table.topics ≡ c.self.inside.table.topics ++ t ∷ [] =
    c.add_topic.ensures.topics ∙ (λ i. c.reserve.ensures.topics i ++ (record { id = given i; topic = c.in_ok-copy.ensures i; value = c.in_ok-value.value; round = c.self.inside.round }) ∷ []) in
    let running : c.self.inside.is_running ≡ true = ap (λ p. p.is_running) c.self.view_is ∙ c.requires.running in
    values-seen g.S.RtdServer.state c.args.self.now _
    (record { servers = c.connect_at.new.servers.items; table = c.add_topic.new.table; pacing = c.self.inside.throttle; round = c.self.inside.round; is_running = c.self.inside.is_running; room = 0 })
    c.self.view_is (record {
      known = c.in_ok-value.ensures.connected.known;
      published = published-kept g.S.RtdServer.state (ConnectsServer g.S.RtdServer.state c.args.topic.now.server c.in_ok-id.id c.as_slice-strings.result.now c.in_ok-value.value) c.self.inside.servers.items c.connect_at.new.servers.items
          c.in_ok-value.ensures.connected.each (published-connects g.S.RtdServer.state c.args.topic.now.server c.in_ok-id.id c.as_slice-strings.result.now c.in_ok-value.value);
      opening = opening-kept g.S.RtdServer.state (ConnectsServer g.S.RtdServer.state c.args.topic.now.server c.in_ok-id.id c.as_slice-strings.result.now c.in_ok-value.value) c.self.inside.servers.items c.connect_at.new.servers.items
          c.in_ok-value.ensures.connected.each (opening-connects g.S.RtdServer.state c.args.topic.now.server c.in_ok-id.id c.as_slice-strings.result.now c.in_ok-value.value);
      taken = taken-connected c.self.inside.is_running c.self.inside.round c.self.inside.table.topics c.add_topic.new.table.topics t running refl came;
      pacing = refl;
      readers = readers-came (has_reader c.self.inside.table) (has_reader c.add_topic.new.table) c.self.inside.table.topics c.add_topic.new.table.topics t came (ap (λ p. id_of p.table.topics c.args.topic.now) c.self.view_is ∙ c.requires.new)
          (λ q d. c.add_topic.ensures.readers q d ∙ kept-readings c.self.inside.table c.reserve.new.self c.reserve.ensures.readings q d)
          (λ d. not-so (has_reader c.self.inside.table c.in_ok-id.id d) (is_some (topic_at c.self.inside.table.topics c.in_ok-id.id)) (c.facts.ensures.read c.in_ok-id.id d) (ap is_some absent));
      round = refl;
      running = refl;
    })

pub returns-clause-readers : goal.returns-clause-readers
returns-clause-readers g c x cell =
    let t : ConnectedTopic = record { id = c.in_ok-id.id; topic = c.args.topic.now; value = c.in_ok-value.value; round = c.self.inside.round } in
    let absent : topic_at c.self.inside.table.topics c.in_ok-id.id ≡ None = ap (topic_at c.self.inside.table.topics) c.in_ok-id.ensures.id ∙ next-absent c.self.inside.table.topics c.self.inside.table.greatest c.facts.ensures.within in
    let given : c.reserve.new.self.greatest + 1 ≡ c.in_ok-id.id = ap (λ n. n + 1) c.reserve.ensures.greatest ∙ sym c.in_ok-id.ensures.id in
    let came : c.add_topic.new.table.topics ≡ c.self.inside.table.topics ++ t ∷ [] =
    c.add_topic.ensures.topics ∙ (λ i. c.reserve.ensures.topics i ++ (record { id = given i; topic = c.in_ok-copy.ensures i; value = c.in_ok-value.value; round = c.self.inside.round }) ∷ []) in
    readers-came (has_read c.self.inside.table) (has_read c.add_topic.new.table) c.self.inside.table.topics c.add_topic.new.table.topics t came (ap (λ p. id_of p.table.topics c.args.topic.now) c.self.view_is ∙ c.requires.new)
    (λ q d. c.add_topic.ensures.running q d ∙ running-readings c.self.inside.table c.reserve.new.self c.reserve.ensures.readings q d)
    (λ d. not-so (has_read c.self.inside.table c.in_ok-id.id d) (is_some (topic_at c.self.inside.table.topics c.in_ok-id.id)) (c.facts.ensures.running c.in_ok-id.id d) (ap is_some absent)) x cell
    ∙ ap (λ p. topic_has (has_read p.table) p.table.topics x cell) c.self.view_is
