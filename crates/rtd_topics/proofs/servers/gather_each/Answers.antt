use Rattle.std.proofs.Common.{arith, subst, sym, ◌∙◌}
use Rattle.std.proofs.Math.ListN.{length-set}
use Rattle.known_servers.specs.Server.{ServerParts}
use Rattle.rtd_topics.specs.Parts.{IsPreparedServer, KeepsServer}
use Rattle.rtd_topics.proofs.ServerLists.{all-from_each, all-more, each-kept, zip-from_each}
use Rattle.rtd_topics.proofs.Views.{keeps-trans}
use Rattle.rtd_topics.proofs.servers.gather_each.Goals as goal

pub loop-known-preserved : goal.loop-known-preserved
loop-known-preserved g c = record {
  kept = each-kept (KeepsServer g.S.RtdServer.state) _ c.loop-known.servers c.loop-known.known-index c.known-item.result c.gather_one.new.known (omega arith) c.known-item.is (keeps-trans g.S.RtdServer.state)
      c.loop-known.invariant.kept (subst (λ (k : ServerParts g.row.S.Denot). KeepsServer g.S.RtdServer.state k c.gather_one.new.known) (sym c.known-item.is) c.gather_one.ensures.kept);
  done = all-more (IsPreparedServer g.S.RtdServer.state) c.loop-known.servers c.loop-known.known-index c.gather_one.new.known (omega arith) c.loop-known.invariant.done c.in_ok-gather_one.ensures.gathered;
  long = length-set c.loop-known.servers c.loop-known.known-index c.gather_one.new.known ∙ c.loop-known.invariant.long;
}

pub returns-clause-kept : goal.returns-clause-kept
returns-clause-kept g c = zip-from_each (KeepsServer g.S.RtdServer.state) _ _ c.loop-known.invariant.long (λ j d below. c.loop-known.invariant.kept j d)

pub returns-clause-gathered : goal.returns-clause-gathered
returns-clause-gathered g c = all-from_each (IsPreparedServer g.S.RtdServer.state) _ (λ j d below. c.loop-known.invariant.done j d (omega arith))

pub returns-in_err-gather_one-clause-kept : goal.returns-in_err-gather_one-clause-kept
returns-in_err-gather_one-clause-kept g c = zip-from_each (KeepsServer g.S.RtdServer.state) _ _
    (length-set c.loop-known.servers c.loop-known.known-index c.gather_one.new.known ∙ c.loop-known.invariant.long)
    (λ j d below. each-kept (KeepsServer g.S.RtdServer.state) _ c.loop-known.servers c.loop-known.known-index c.known-item.result c.gather_one.new.known (omega arith) c.known-item.is (keeps-trans g.S.RtdServer.state)
    c.loop-known.invariant.kept (subst (λ (k : ServerParts g.row.S.Denot). KeepsServer g.S.RtdServer.state k c.gather_one.new.known) (sym c.known-item.is) c.gather_one.ensures.kept) j d)
