use Rattle.std.proofs.Common.{◌≡◌, true, arith, refl, subst, sym}
use Rattle.calc_chain.specs.Chain.{Order, has}
use Rattle.calc_chain.specs.Due.{due_of}
use Rattle.calc_chain.proofs.ChainLaws.{chain-among, chain-same}
use Rattle.calc_chain.proofs.DueLaws.{due-fits}
use Rattle.calc_chain.proofs.chains.Chain.rewind.Goals as goal

pub fill-requires-clause-room : goal.fill-requires-clause-room
fill-requires-clause-room c =
    let few = due-fits c.args.due.now c.self.inside.order c.requires.once (λ x t. subst (λ (v : Order). has v.entries x ≡ true) (sym c.self.view_is) (c.requires.entries x t)) in
    let room = c.self.invariant.0 in
    omega (arith, few, room)

pub invariant_of-self : goal.invariant_of-self
invariant_of-self c =
    let room = c.self.invariant.0 in
    let kept = c.fill.ensures.room in
    let len = c.fill.ensures.flags in (
      omega (arith, room, kept),
      λ x t. let fits = c.self.invariant.1 x t in omega (arith, fits, len),
      chain-same c.self.inside.order _ c.self.inside.order (due_of c.fill.new.self) refl c.fill.ensures.due (chain-among c.self.inside.order (due_of c.self.inside.due) c.args.due.now c.self.invariant.2),
    )
