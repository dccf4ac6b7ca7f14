use Rattle.std.proofs.Common.{◌≡◌, true, false, refl, ap, sym, ◌∙◌}
use Rattle.std.specs.Prelude.{filter, nat_eq, not}
use Rattle.std.proofs.lemmas.Bool.{eqb-true}
use Rattle.std.proofs.lemmas.List.Elements.{All-weaker}
use Rattle.topic_table.specs.Table.{ConnectedTopic, topic_at}
use Rattle.rtd_topics.proofs.Connecting.{not-so}
use Rattle.rtd_topics.proofs.Dropping.{drops-kept, drops-more, drops-none, fewer, filter-left, readers-left, stays-at, was-at}
use Rattle.rtd_topics.proofs.TableFacts.{filter-all}
use Rattle.rtd_topics.proofs.leaving.disconnect_since.Goals as goal

pub loop-topic-init : goal.loop-topic-init
loop-topic-init g c = record {
  drops = drops-none g.S.RtdServer.state c.args.servers.now.items c.args.table.now;
  topics = refl;
  among = λ q t h. h;
  kept = λ q t h other. h;
  readers = λ none q cell. refl;
}

pub loop-topic-preserved : goal.loop-topic-preserved
loop-topic-preserved g c =
    let left = c.in-Some.ensures.leaves in
    let of : nat_eq c.args.round left.left.round ≡ true = c.in-Some.ensures.of left.left left.at in
    record {
      drops = drops-more g.S.RtdServer.state c.args.servers.now.items c.loop-topic.servers.items c.disconnect.new.servers.items c.args.table.now c.loop-topic.table c.pop_since.new.table c.in-Some.topic c.in-Some.id
          c.loop-topic.invariant.drops left c.disconnect.ensures;
      topics = ap (filter (λ (t : ConnectedTopic). not (nat_eq c.args.round t.round))) left.out.topics
          ∙ filter-left c.loop-topic.table.topics left.rises (λ (t : ConnectedTopic). not (nat_eq c.args.round t.round)) c.in-Some.id left.left left.at (ap not of)
          ∙ c.loop-topic.invariant.topics;
      among = λ q t h. c.loop-topic.invariant.among q t (was-at c.loop-topic.table c.pop_since.new.table c.in-Some.id q t left.out h);
      kept = λ q t h other.
          let there = c.loop-topic.invariant.kept q t h other in
          let apart : nat_eq c.in-Some.id q ≡ false = not-so (nat_eq c.in-Some.id q) (nat_eq c.args.round t.round)
          (λ here. c.in-Some.ensures.of t (ap (topic_at c.loop-topic.table.topics) (eqb-true c.in-Some.id q here) ∙ there)) other in
          stays-at c.loop-topic.table c.pop_since.new.table c.in-Some.id q left.out apart ∙ there;
      readers = λ none q cell.
          readers-left c.loop-topic.table c.pop_since.new.table c.in-Some.id left.out
          (λ d. c.loop-topic.invariant.readers none c.in-Some.id d ∙ none c.in-Some.id left.left d (c.loop-topic.invariant.among c.in-Some.id left.left left.at) of) q cell
          ∙ c.loop-topic.invariant.readers none q cell;
    }

pub loop-topic-smaller : goal.loop-topic-smaller
loop-topic-smaller g c = fewer c.loop-topic.table c.pop_since.new.table c.in-Some.topic c.in-Some.id c.in-Some.ensures.leaves

pub returns : goal.returns
returns g c =
    let same = c.in_default.ensures.none in
    record {
      drops = drops-kept g.S.RtdServer.state c.args.servers.now.items c.loop-topic.servers.items c.args.table.now c.loop-topic.table c.pop_since.new.table c.loop-topic.invariant.drops same;
      topics = same.topics.topics
          ∙ sym (filter-all (λ (t : ConnectedTopic). not (nat_eq c.args.round t.round)) c.loop-topic.table.topics
          (All-weaker (λ (t : ConnectedTopic). nat_eq c.args.round t.round ≡ false) (λ (t : ConnectedTopic). not (nat_eq c.args.round t.round) ≡ true) (λ t h. ap not h) c.loop-topic.table.topics c.in_default.ensures.others))
          ∙ c.loop-topic.invariant.topics;
      among = λ q t h. c.loop-topic.invariant.among q t (ap (λ ts. topic_at ts q) (sym same.topics.topics) ∙ h);
      kept = λ q t h other. ap (λ ts. topic_at ts q) same.topics.topics ∙ c.loop-topic.invariant.kept q t h other;
      readers = λ none q cell. same.readers q cell ∙ c.loop-topic.invariant.readers none q cell;
    }
