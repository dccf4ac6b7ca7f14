use Rattle.std.proofs.Common.{arith, subst, sym, ◌∙◌}
use Rattle.std.proofs.Math.ListN.{length-set}
use Rattle.known_servers.specs.Server.{ServerParts}
use Rattle.rtd_topics.specs.Parts.{OpensServer}
use Rattle.rtd_topics.proofs.ServerLists.{each-more, each-rest, zip-from_each}
use Rattle.rtd_topics.proofs.servers.open_each.Goals as goal

pub loop-known-preserved : goal.loop-known-preserved
loop-known-preserved g c = record {
  done = each-more (OpensServer g.S.RtdServer.state) _ c.loop-known.servers c.loop-known.known-index c.known-item.result c.open_round.new.self (omega arith) c.loop-known.invariant.long c.known-item.is
      c.loop-known.invariant.done c.loop-known.invariant.rest
      (subst (λ (k : ServerParts g.row.S.Denot). OpensServer g.S.RtdServer.state k c.open_round.new.self) (sym c.known-item.is) (c.open_round.ensures.name, c.open_round.ensures.opened));
  rest = each-rest _ c.loop-known.servers c.loop-known.known-index c.open_round.new.self c.loop-known.invariant.rest;
  long = length-set c.loop-known.servers c.loop-known.known-index c.open_round.new.self ∙ c.loop-known.invariant.long;
}

pub returns : goal.returns
returns g c = zip-from_each (OpensServer g.S.RtdServer.state) _ _ c.loop-known.invariant.long (λ j d below. c.loop-known.invariant.done j d (omega (arith, c.loop-known.invariant.long)))
