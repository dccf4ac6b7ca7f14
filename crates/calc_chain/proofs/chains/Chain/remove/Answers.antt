use Rattle.std.proofs.Common.{◌≡◌, true, not, ◌==◌, length, arith, ap, subst}
use Rattle.calc_chain.specs.Chain.{has}
use Rattle.calc_chain.specs.Due.{due_of}
use Rattle.calc_chain.proofs.ChainLaws.{chain-same, chain-without, has-without}
use Rattle.calc_chain.proofs.ListLaws.{filter-short}
use Rattle.calc_chain.proofs.chains.Chain.remove.Goals as goal

pub invariant_of-self : goal.invariant_of-self
invariant_of-self c =
    let order = c.self.inside.order in
    let short = filter-short (λ y. not (y == c.args.x)) order in
    let fewer = ap length c.remove.ensures in
    let room = c.self.invariant.0 in
    let same = c.remove-2.ensures.room in
    let len = c.remove-2.ensures.flags in (
      omega (arith, short, fewer, room, same),
      λ q t. let fits = c.self.invariant.1 q (has-without order c.args.x q (subst (λ xs. has xs q ≡ true) c.remove.ensures t)) in omega (arith, fits, len),
      chain-same _ _ c.remove.new.self (due_of c.remove-2.new.self) c.remove.ensures c.remove-2.ensures.due (chain-without order (due_of c.self.inside.due) c.args.x c.self.invariant.2),
    )
