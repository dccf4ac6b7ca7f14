use Rattle.std.proofs.Common.{◌≡◌, [], ◌∷◌, ◌++◌, true, false, arith, ap, length, subst, sym, ⊎_elim}
use Rattle.calc_chain.specs.Chain.{Order, has}
use Rattle.calc_chain.specs.Due.{due_of}
use Rattle.calc_chain.proofs.ChainLaws.{chain-append, chain-same, has-push}
use Rattle.calc_chain.proofs.OrderLaws.{push_length}
use Rattle.calc_chain.proofs.chains.Chain.append.Goals as goal

pub invariant_of-self-2 : goal.invariant_of-self-2
invariant_of-self-2 c =
    let order = c.self.inside.order in
    let due = due_of c.self.inside.due in
    let absent : has order c.args.x ≡ false = subst (λ (v : Order). has v.entries c.args.x ≡ false) (sym c.self.view_is) c.requires.new in
    let is : c.append.new.self ≡ order ++ c.args.x ∷ [] = c.in_ok-append.ensures.ok in
    let long = ap length is in
    let more = push_length order c.args.x in
    let room = c.in_ok-make_room.ensures.room in
    let count = c.len.ensures in
    let flags = c.make_room.ensures.flags in
    let flag = c.in_ok-make_room.ensures.flag in (
      omega (arith, long, more, room, count),
      λ q t. ⊎_elim
          (λ old. let fits = c.self.invariant.1 q old in omega (arith, fits, flags))
          (λ same. omega (arith, same, flag))
          (has-push order c.args.x q (subst (λ xs. has xs q ≡ true) is t)),
      chain-same (order ++ c.args.x ∷ []) due c.append.new.self (due_of c.make_room.new.self) is c.make_room.ensures.due (chain-append order due c.args.x c.self.invariant.2 absent),
    )
