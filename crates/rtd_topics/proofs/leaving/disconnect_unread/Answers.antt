use Rattle.std.proofs.Common.{◌≡◌, false, refl, ap, sym, ◌∙◌}
use Rattle.std.specs.Prelude.{nat_eq}
use Rattle.std.proofs.lemmas.Bool.{eqb-true}
use Rattle.topic_table.specs.Table.{has_reader, topic_at}
use Rattle.rtd_topics.proofs.Connecting.{not-so}
use Rattle.rtd_topics.proofs.Dropping.{drops-kept, drops-more, drops-none, fewer, readers-left, stays-at, was-at}
use Rattle.rtd_topics.proofs.leaving.disconnect_unread.Goals as goal

pub loop-topic-init : goal.loop-topic-init
loop-topic-init g c = record {
  drops = drops-none g.S.RtdServer.state c.args.servers.now.items c.args.table.now;
  readers = λ q cell. refl;
  kept = λ q cell h. refl;
  among = λ q t h. h;
}

pub loop-topic-preserved : goal.loop-topic-preserved
loop-topic-preserved g c = record {
  drops = drops-more g.S.RtdServer.state c.args.servers.now.items c.loop-topic.servers.items c.disconnect.new.servers.items c.args.table.now c.loop-topic.table c.pop_unread.new.table c.in-Some.topic c.in-Some.id
      c.loop-topic.invariant.drops c.in-Some.ensures.leaves c.disconnect.ensures;
  readers = λ q cell. readers-left c.loop-topic.table c.pop_unread.new.table c.in-Some.id c.in-Some.ensures.leaves.out c.in-Some.ensures.unread q cell ∙ c.loop-topic.invariant.readers q cell;
  kept = λ q cell h.
      let other : nat_eq c.in-Some.id q ≡ false = not-so (nat_eq c.in-Some.id q) (has_reader c.loop-topic.table c.in-Some.id cell)
      (λ here. ap (λ i. has_reader c.loop-topic.table i cell) (eqb-true c.in-Some.id q here) ∙ c.loop-topic.invariant.readers q cell ∙ h) (c.in-Some.ensures.unread cell) in
      stays-at c.loop-topic.table c.pop_unread.new.table c.in-Some.id q c.in-Some.ensures.leaves.out other ∙ c.loop-topic.invariant.kept q cell h;
  among = λ q t h. c.loop-topic.invariant.among q t (was-at c.loop-topic.table c.pop_unread.new.table c.in-Some.id q t c.in-Some.ensures.leaves.out h);
}

pub loop-topic-smaller : goal.loop-topic-smaller
loop-topic-smaller g c = fewer c.loop-topic.table c.pop_unread.new.table c.in-Some.topic c.in-Some.id c.in-Some.ensures.leaves

pub returns : goal.returns
returns g c =
    let same = c.in_default.ensures.none in
    record {
      drops = drops-kept g.S.RtdServer.state c.args.servers.now.items c.loop-topic.servers.items c.args.table.now c.loop-topic.table c.pop_unread.new.table c.loop-topic.invariant.drops same;
      readers = λ q cell. same.readers q cell ∙ c.loop-topic.invariant.readers q cell;
      kept = λ q cell h. ap (λ ts. topic_at ts q) same.topics.topics ∙ c.loop-topic.invariant.kept q cell h;
      among = λ q t h. c.loop-topic.invariant.among q t (ap (λ ts. topic_at ts q) (sym same.topics.topics) ∙ h);
      read = λ q t h.
          let is = c.in_default.ensures.read q t (ap (λ ts. topic_at ts q) (sym same.topics.topics) ∙ h) in
          record { reader = is.reader; reads = same.readers q is.reader ∙ is.reads };
    }
