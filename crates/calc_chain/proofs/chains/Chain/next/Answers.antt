use Rattle.std.proofs.Common.{arith, refl}
use Rattle.calc_chain.specs.Due.{due_of}
use Rattle.calc_chain.proofs.ChainLaws.{chain-next, chain-same}
use Rattle.calc_chain.proofs.chains.Chain.next.Goals as goal

pub invariant_of-self : goal.invariant_of-self
invariant_of-self g c =
    let room = c.self.invariant.0 in
    let same = c.next.ensures.room in
    let len = c.next.ensures.flags in (
      omega (arith, room, same),
      λ x t. let fits = c.self.invariant.1 x t in omega (arith, fits, len),
      chain-same c.self.inside.order _ c.self.inside.order (due_of c.next.new.self) refl c.next.ensures.left (chain-next c.self.inside.order (due_of c.self.inside.due) c.self.invariant.2),
    )
