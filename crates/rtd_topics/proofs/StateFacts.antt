-- What holds of each state of a host's real-time data.
use Rattle.std.proofs.Common.{◌≡◌, ℕ, Bool, true, false, cond, List, [], ◌∷◌, Option, None, Some, refl, ap, sym, subst, ◌∙◌, arith}
use Rattle.std.specs.Prelude.{filter, find, is_some, map, not}
use Rattle.std.specs.List.{IsDistinct}
use Rattle.std.specs.Map.{keys_of, lookup}
use Rattle.std.specs.Option.{option_and_then}
use Rattle.std.specs.Str.{bytes_eq}
use Rattle.std.proofs.lemmas.List.Elements.{All-map, recursion_from_All}
use Rattle.std.proofs.lemmas.List.Kept.{AllPairs-filter}
use Rattle.cell_values.specs.declared.topics.Topic.{Topic}
use Rattle.cell_values.specs.declared.values.Value.{Value}
use Rattle.cell_values.specs.Topic.{same_topic}
use Rattle.known_servers.specs.Server.{ServerParts, view_of}
use Rattle.rtd_server.specs.Server.{ServerState}
use Rattle.rtd_topics.specs.Parts.{IsLinked, RtdParts, is_of_round, known_of, rtd_of, server_named, with_value}
use Rattle.rtd_topics.specs.RtdState.{IsRtdState, knows_topic}
use Rattle.rtd_topics.proofs.Reading.{equal_topics, knows-found}
use Rattle.rtd_topics.proofs.ServerLists.{names-known}
use Rattle.rtd_topics.proofs.TopicFacts.{Rises, StandOnce, at-self, first-pairs, found-equal, has-true, other-pairs, value-absent, value-kept}
use Rattle.topic_table.specs.Table.{ConnectedTopic, TableState, has_read, has_reader}

-- what follows from something that isn't there isn't there
then-some : {P X : Type 0} (f : P → Option X) (o : Option P) → is_some (option_and_then f o) ≡ true → is_some o ≡ true
then-some f None h = absurd (cc h)
then-some f (Some x) h = refl

-- the server of a connected topic is known
pub known-at : {S : Type 0} (state : S → ServerState) (p : RtdParts S) (topic : Topic) (t : ConnectedTopic) → Rises p.table.topics → IsLinked state p.servers p.table p.round p.is_running
    → find (λ (y : ConnectedTopic). same_topic topic y.topic) p.table.topics ≡ Some t → knows_topic (map known_of p.servers) topic ≡ true
known-at {S} state p topic t rises linked found =
    knows-found p.servers topic
    ∙ ap (λ (x : Topic). is_some (server_named p.servers x.server)) (equal_topics topic t.topic (found-equal topic p.table.topics t found))
    ∙ linked.served t.id t (at-self p.table.topics rises (λ (y : ConnectedTopic). same_topic topic y.topic) t found)

-- a taken topic is connected
taken-found : (q : ConnectedTopic → Bool) (topic : Topic) (topics : List ConnectedTopic) → is_some (lookup (same_topic topic) (map with_value (filter q topics))) ≡ true
    → (t : ConnectedTopic) × (find (λ (y : ConnectedTopic). same_topic topic y.topic) topics ≡ Some t)
taken-found q topic topics some = by (find (λ (y : ConnectedTopic). same_topic topic y.topic) topics) refl
  where
    by : (o : Option ConnectedTopic) → find (λ (y : ConnectedTopic). same_topic topic y.topic) topics ≡ o → (t : ConnectedTopic) × (find (λ (y : ConnectedTopic). same_topic topic y.topic) topics ≡ Some t)
    by None absent = absurd (cc (sym some ∙ ap is_some (value-absent q topic topics absent)))
    by (Some t) found = (t, found)

-- topics that stand once are distinct
once-listed : (topics : List ConnectedTopic) → StandOnce topics → IsDistinct same_topic (keys_of (map with_value topics))
unfolding IsDistinct
once-listed [] once = tt
once-listed (t ∷ ts) once =
    let others = first-pairs (λ (a b : ConnectedTopic). same_topic a.topic b.topic ≡ false) t ts once in (
      recursion_from_All (λ (topic : Topic). same_topic t.topic topic ≡ false) (keys_of (map with_value ts))
          (All-map (λ (topic : Topic). same_topic t.topic topic ≡ false) (λ (e : Topic × Value). e.0) (map with_value ts)
          (All-map (λ (e : Topic × Value). same_topic t.topic e.0 ≡ false) with_value ts others)),
      once-listed ts (other-pairs (λ (a b : ConnectedTopic). same_topic a.topic b.topic ≡ false) t ts once),
    )

-- where servers and table are linked, all this holds
pub is-state : {S : Type 0} (state : S → ServerState) (p : RtdParts S) → Rises p.table.topics → StandOnce p.table.topics → IsLinked state p.servers p.table p.round p.is_running → IsRtdState (rtd_of state p)
is-state {S} state p rises once linked =
    let q : ConnectedTopic → Bool = λ (t : ConnectedTopic). not (is_of_round p.is_running p.round t) in
    record {
      named_once = subst (IsDistinct bytes_eq) (sym (names-known p.servers)) linked.once;
      published = λ topic some. knows-found p.servers topic ∙ then-some (λ (k : ServerParts S). (view_of state k).published topic.strings) (server_named p.servers topic.server) some;
      taken = λ topic some. let t = taken-found q topic p.table.topics some in known-at state p topic t.0 rises linked t.1;
      taken_once = once-listed (filter q p.table.topics) (AllPairs-filter (λ (a b : ConnectedTopic). same_topic a.topic b.topic ≡ false) q p.table.topics once);
      readers = λ topic cell reads.
          let t = has-true (has_reader p.table) p.table.topics topic cell reads in
          ap is_some (value-kept q topic p.table.topics t.0 once t.1.0)
          ∙ not-of_round (is_of_round p.is_running p.round t.0) t.0.value
          (λ of. sym t.1.1 ∙ linked.unread t.0.id t.0 cell (at-self p.table.topics rises (λ (y : ConnectedTopic). same_topic topic y.topic) t.0 t.1.0) of);
      reading = λ topic cell reads. let t = has-true (has_read p.table) p.table.topics topic cell reads in known-at state p topic t.0 rises linked t.1.0;
    }
  where
    not-of_round : (b : Bool) (v : Value) → (b ≡ true → true ≡ false) → is_some (cond (not b) (Some v) None) ≡ true
    not-of_round true v clash = absurd (cc (clash refl))
    not-of_round false v clash = refl

-- without servers and topics all is linked
pub linked-none : {S : Type 0} (state : S → ServerState) (ks : List (ServerParts S)) (table : TableState) (round : ℕ) → ks ≡ [] → table.topics ≡ [] → table.readings ≡ [] → IsLinked state ks table round false
unfolding IsDistinct
linked-none {S} state ks table round no_servers no_topics no_readings =
    let at : table ≡ record { topics = []; readings = []; greatest = table.greatest; room = table.room } = λ i. record { topics = no_topics i; readings = no_readings i; greatest = table.greatest; room = table.room } in
    subst (λ (t : TableState). IsLinked state ks t round false) (sym at)
    (subst (λ (xs : List (ServerParts S)). IsLinked state xs (record { topics = []; readings = []; greatest = table.greatest; room = table.room }) round false) (sym no_servers) (empty table.greatest table.room))
  where
    empty : (greatest room : ℕ) → IsLinked state [] (record { topics = []; readings = []; greatest = greatest; room = room }) round false
    empty greatest room = record {
      once = tt;
      connected = λ name k e id. absurd (cc e);
      served = λ id t at. absurd (cc at);
      current = λ id t k at e. absurd (cc at);
      rounds = λ j d below. absurd (omega arith);
      unread = λ id t cell at of. absurd (cc at);
      opened = λ id t at of. absurd (cc at);
      pended = λ name k id e some. absurd (cc e);
      rest = λ off id cell. refl;
    }
