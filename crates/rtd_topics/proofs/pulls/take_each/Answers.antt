use Rattle.std.proofs.Common.{◌≡◌, ◌<◌, ℕ, ◌+◌, List, drop, get_or, length, ap, sym, ◌∙◌, add-one, arith, subst}
use Rattle.std.proofs.Math.ListN.{length-set}
use Rattle.std.proofs.Math.Seq.{drop-cons}
use Rattle.std.proofs.lemmas.List.{drop_all}
use Rattle.known_servers.specs.Server.{ServerParts}
use Rattle.rtd_topics.specs.Parts.{TakesServer, topics_after, topics_after_one}
use Rattle.rtd_topics.proofs.ServerLists.{each-more, each-rest, zip-from_each}
use Rattle.topic_table.specs.Table.{ConnectedTopic}
use Rattle.rtd_topics.proofs.pulls.take_each.Goals as goal

-- the topics behind one more server
after-more : {S : Type 0} (fs ls : List (ServerParts S)) (i : ℕ) (x : ServerParts S) (topics topics' : List ConnectedTopic)
    → i < length fs → i < length ls → ((d : ServerParts S) → get_or ls i d ≡ get_or fs i d) → topics' ≡ topics_after_one (get_or ls i x) topics
    → topics_after (drop (i + 1) fs) topics' ≡ topics_after (drop i fs) topics
after-more {S} fs ls i x topics topics' below below' rest one =
    ap (topics_after (drop (i + 1) fs)) (one ∙ ap (λ (k : ServerParts S). topics_after_one k topics) (rest x))
    ∙ ap (λ n. topics_after (drop n fs) (topics_after_one (get_or fs i x) topics)) (add-one i)
    ∙ ap (λ (ks : List (ServerParts S)). topics_after ks topics) (sym (drop-cons fs i x below))

pub loop-known-preserved : goal.loop-known-preserved
loop-known-preserved g c =
    let below : c.loop-known.known-index < length c.loop-known.servers = omega arith in
    let first : c.loop-known.known-index < length c.args.servers.now = omega (arith, c.loop-known.invariant.long) in
    record {
      done = each-more TakesServer _ c.loop-known.servers c.loop-known.known-index c.known-item.result c.take_one.new.known below c.loop-known.invariant.long c.known-item.is
          c.loop-known.invariant.done c.loop-known.invariant.rest
          (subst (λ (k : ServerParts g.row.S.Denot). TakesServer k c.take_one.new.known) (sym c.known-item.is) c.take_one.ensures.server);
      rest = each-rest _ c.loop-known.servers c.loop-known.known-index c.take_one.new.known c.loop-known.invariant.rest;
      long = length-set c.loop-known.servers c.loop-known.known-index c.take_one.new.known ∙ c.loop-known.invariant.long;
      topics = after-more c.args.servers.now c.loop-known.servers c.loop-known.known-index c.known-item.result c.loop-known.table.topics c.take_one.new.table.topics first below
          (λ d. c.loop-known.invariant.rest c.loop-known.known-index d (omega arith)) c.take_one.ensures.topics ∙ c.loop-known.invariant.topics;
      others = record { readings = c.take_one.ensures.others.readings ∙ c.loop-known.invariant.others.readings; greatest = c.take_one.ensures.others.greatest ∙ c.loop-known.invariant.others.greatest };
    }

pub returns : goal.returns
returns g c = record {
  servers = zip-from_each TakesServer _ _ c.loop-known.invariant.long (λ j d below. c.loop-known.invariant.done j d (omega (arith, c.loop-known.invariant.long)));
  topics = ap (λ (ks : List (ServerParts g.row.S.Denot)). topics_after ks c.loop-known.table.topics) (sym (drop_all c.loop-known.known-index c.args.servers.now (omega (arith, c.loop-known.invariant.long)))) ∙ c.loop-known.invariant.topics;
  others = c.loop-known.invariant.others;
}
