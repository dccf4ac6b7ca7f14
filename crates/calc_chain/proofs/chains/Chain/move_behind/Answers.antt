use Rattle.std.proofs.Common.{◌≡◌, true, false, length, arith, refl, ap, subst, sym}
use Rattle.calc_chain.specs.Chain.{Order, has}
use Rattle.calc_chain.specs.Due.{due_of}
use Rattle.calc_chain.proofs.ChainLaws.{chain-moved, chain-same, moved-has, moved-length}
use Rattle.calc_chain.proofs.chains.Chain.move_behind.Goals as goal

pub invariant_of-self : goal.invariant_of-self
invariant_of-self c =
    let order = c.self.inside.order in
    let due = due_of c.self.inside.due in
    let here : has order c.args.x ≡ true = subst (λ (v : Order). has v.entries c.args.x ≡ true) (sym c.self.view_is) c.requires.first in
    let there : has order c.args.y ≡ true = subst (λ (v : Order). has v.entries c.args.y ≡ true) (sym c.self.view_is) c.requires.second in
    let idle : has due c.args.x ≡ false = subst (λ (v : Order). has v.due c.args.x ≡ false) (sym c.self.view_is) c.requires.idle in
    let long = moved-length order c.args.x c.args.y c.requires.apart here there in
    let count = ap length c.move_behind.ensures in
    let room = c.self.invariant.0 in (
      omega (arith, long, count, room),
      λ q t. c.self.invariant.1 q (moved-has order c.args.x c.args.y q c.requires.apart here there (subst (λ xs. has xs q ≡ true) c.move_behind.ensures t)),
      chain-same _ due c.move_behind.new.self due c.move_behind.ensures refl (chain-moved order due c.args.x c.args.y c.self.invariant.2 c.requires.apart there idle),
    )
