-- A recalculation ends.
use Rattle.std.proofs.Common.{◌≡◌, ℕ, Bool, true, false, cond, List, Option, None, Some, refl, ap, sym, ◌∙◌}
use Rattle.std.specs.Prelude.{◌&&◌, filter, find, map, nat_eq, not}
use Rattle.std.specs.Map.{lookup}
use Rattle.cell_refs.specs.declared.grid.Cell.{Cell}
use Rattle.cell_values.specs.declared.topics.Topic.{Topic}
use Rattle.cell_values.specs.Topic.{same_topic}
use Rattle.rtd_server.specs.Server.{ServerState}
use Rattle.rtd_topics.specs.Dropping.{IsRead}
use Rattle.rtd_topics.specs.Parts.{IsLinked, RtdParts, is_of_round, rtd_of, topic_has, with_value}
use Rattle.rtd_topics.specs.RtdState.{TakesRead}
use Rattle.rtd_topics.proofs.Reading.{snapshot-at}
use Rattle.rtd_topics.proofs.RtdFacts.{none-at_rest, taken-all}
use Rattle.rtd_topics.proofs.TopicFacts.{Rises, StandOnce, at-self, find-at, found-equal, has-from, has-true, value-absent, value-kept}
use Rattle.topic_table.specs.Table.{ConnectedTopic, has_read, has_reader, topic_at}

-- the topics that were read are taken with their values, and no others
pub takes-read : {S : Type 0} (state : S → ServerState) (p p' : RtdParts S) → Rises p.table.topics → StandOnce p.table.topics → Rises p'.table.topics → StandOnce p'.table.topics
    → IsLinked state p.servers p.table p.round p.is_running → p'.is_running ≡ false
    → ((q : ℕ) (cell : Cell) → has_reader p'.table q cell ≡ has_read p.table q cell)
    → ((q : ℕ) (t : ConnectedTopic) → topic_at p'.table.topics q ≡ Some t → topic_at p.table.topics q ≡ Some t)
    → ((q : ℕ) (t : ConnectedTopic) (cell : Cell) → has_read p.table q cell ≡ true → topic_at p.table.topics q ≡ Some t → topic_at p'.table.topics q ≡ Some t)
    → ((q : ℕ) (t : ConnectedTopic) → topic_at p'.table.topics q ≡ Some t → IsRead p'.table q)
    → TakesRead (rtd_of state p) (rtd_of state p')
takes-read {S} state p p' rises once rises' once' linked rests same among kept read = record {
  read = λ topic cell e.
      let x = has-true (has_read p.table) p.table.topics topic cell e in
      let at : topic_at p.table.topics x.0.id ≡ Some x.0 = at-self p.table.topics rises (λ (y : ConnectedTopic). same_topic topic y.topic) x.0 x.1.0 in
      let stays : topic_at p'.table.topics x.0.id ≡ Some x.0 = kept x.0.id x.0 cell x.1.1 at in
      value-kept (λ (y : ConnectedTopic). not (is_of_round p'.is_running p'.round y)) topic p'.table.topics x.0 once'
      (find-at p'.table.topics once' topic x.0.id x.0 stays (found-equal topic p.table.topics x.0 x.1.0))
      ∙ ap (λ b. cond (not (b && nat_eq p'.round x.0.round)) (Some x.0.value) None) rests
      ∙ ap Some (sym (snapshot-at state p topic x.0 once rises linked x.1.0));
  unread = λ topic none. left topic none (find (λ (y : ConnectedTopic). same_topic topic y.topic) p'.table.topics) refl;
}
  where
    left : (topic : Topic) → ((cell : Cell) → topic_has (has_read p.table) p.table.topics topic cell ≡ false) → (o : Option ConnectedTopic)
        → find (λ (y : ConnectedTopic). same_topic topic y.topic) p'.table.topics ≡ o
        → lookup (same_topic topic) (map with_value (filter (λ (y : ConnectedTopic). not (is_of_round p'.is_running p'.round y)) p'.table.topics)) ≡ None
    left topic none None is = value-absent (λ (y : ConnectedTopic). not (is_of_round p'.is_running p'.round y)) topic p'.table.topics is
    left topic none (Some t) is =
        let at : topic_at p'.table.topics t.id ≡ Some t = at-self p'.table.topics rises' (λ (y : ConnectedTopic). same_topic topic y.topic) t is in
        let some = read t.id t at in
        let had = has-from (has_read p.table) p.table.topics topic some.reader t
        (find-at p.table.topics once topic t.id t (among t.id t at) (found-equal topic p'.table.topics t is)) (sym (same t.id some.reader) ∙ some.reads) in
        absurd (cc (sym (none some.reader) ∙ had))

-- the topics that were taken stay where those of the recalculation leave
pub taken-since : (topics topics' : List ConnectedTopic) (round : ℕ) (run : Bool) → run ≡ true → topics' ≡ filter (λ (t : ConnectedTopic). not (nat_eq round t.round)) topics
    → filter (λ (t : ConnectedTopic). not (is_of_round false round t)) topics' ≡ filter (λ (t : ConnectedTopic). not (is_of_round run round t)) topics
taken-since topics topics' round run running left =
    taken-all false round topics' (none-at_rest false round topics' refl) ∙ left
    ∙ ap (λ b. filter (λ (t : ConnectedTopic). not (b && nat_eq round t.round)) topics) (sym running)

-- a topic that had a reader wasn't connected in the recalculation
pub read-before : (run of has : Bool) → run ≡ true → ((run && of) ≡ true → has ≡ false) → has ≡ true → of ≡ false
read-before true true has running unread had = absurd (cc (sym (unread refl) ∙ had))
read-before true false has running unread had = refl
read-before false of has running unread had = absurd (cc running)
