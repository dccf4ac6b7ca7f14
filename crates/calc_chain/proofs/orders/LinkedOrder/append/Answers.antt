use Rattle.std.proofs.Common.{◌≡◌, ◌+◌, [], ◌∷◌, ◌++◌, false, ap, subst, sym, ◌∙◌, arith, rules}
use Rattle.calc_chain.specs.Chain.{has}
use Rattle.calc_chain.specs.declared.slots.TheConstants.{END}
use Rattle.calc_chain.specs.Linking.{Keeps, after_of, walk}
use Rattle.calc_chain.proofs.KeepsLaws.{entries_few, entries_listed, keeps_same}
use Rattle.calc_chain.proofs.LinkLaws.{length-walk}
use Rattle.calc_chain.proofs.OrderLaws.{push_length}
use Rattle.calc_chain.proofs.orders.LinkedOrder.append.Goals as goal

pub invariant_of-self : goal.invariant_of-self
invariant_of-self c =
    let xs = walk (after_of c.self.inside.slots) c.self.inside.count (after_of c.self.inside.slots END) in
    let keeps = keeps_same c.self.inside.slots c.make_room.new.self xs c.self.invariant c.make_room.ensures.same (c.make_room.ensures.size c.self.invariant.small) in
    let len = length-walk (after_of c.self.inside.slots) c.self.inside.count (after_of c.self.inside.slots END) in
    subst (Keeps c.make_room.new.self) (sym (entries_listed c.make_room.new.self xs c.self.inside.count keeps (sym len))) keeps

pub returns-in_err-make_room-clause-refused : goal.returns-in_err-make_room-clause-refused
returns-in_err-make_room-clause-refused c =
    let xs = walk (after_of c.self.inside.slots) c.self.inside.count (after_of c.self.inside.slots END) in
    let keeps = keeps_same c.self.inside.slots c.make_room.new.self xs c.self.invariant c.make_room.ensures.same (c.make_room.ensures.size c.self.invariant.small) in
    let len = length-walk (after_of c.self.inside.slots) c.self.inside.count (after_of c.self.inside.slots END) in
    let same = entries_listed c.make_room.new.self xs c.self.inside.count keeps (sym len) ∙ c.self.view_is in
    search rules

pub append-requires-clause-kept : goal.append-requires-clause-kept
append-requires-clause-kept c =
    let xs = walk (after_of c.self.inside.slots) c.self.inside.count (after_of c.self.inside.slots END) in (
      xs,
      keeps_same c.self.inside.slots c.make_room.new.self xs c.self.invariant c.make_room.ensures.same (c.make_room.ensures.size c.self.invariant.small),
      subst (λ ys. has ys c.args.x ≡ false) (sym c.self.view_is) c.requires.new,
      length-walk (after_of c.self.inside.slots) c.self.inside.count (after_of c.self.inside.slots END),
    )

pub overflow_add-self : goal.overflow_add-self
overflow_add-self c =
    let few = entries_few c.self.inside.slots (walk (after_of c.self.inside.slots) c.self.inside.count (after_of c.self.inside.slots END)) c.self.invariant in
    let len = length-walk (after_of c.self.inside.slots) c.self.inside.count (after_of c.self.inside.slots END) in
    omega (arith, few, len)

pub invariant_of-self-2 : goal.invariant_of-self-2
invariant_of-self-2 c =
    let xs = walk (after_of c.self.inside.slots) c.self.inside.count (after_of c.self.inside.slots END) in
    let same = keeps_same c.self.inside.slots c.make_room.new.self xs c.self.invariant c.make_room.ensures.same (c.make_room.ensures.size c.self.invariant.small) in
    let keeps = c.append.ensures xs same (subst (λ ys. has ys c.args.x ≡ false) (sym c.self.view_is) c.requires.new) in
    let len = length-walk (after_of c.self.inside.slots) c.self.inside.count (after_of c.self.inside.slots END) in
    let more = push_length xs c.args.x in
    subst (Keeps c.append.new.self) (sym (entries_listed c.append.new.self (xs ++ c.args.x ∷ []) (c.self.inside.count + 1) keeps (omega (arith, len, more)))) keeps

pub returns-clause-ok : goal.returns-clause-ok
returns-clause-ok c =
    let xs = walk (after_of c.self.inside.slots) c.self.inside.count (after_of c.self.inside.slots END) in
    let same = keeps_same c.self.inside.slots c.make_room.new.self xs c.self.invariant c.make_room.ensures.same (c.make_room.ensures.size c.self.invariant.small) in
    let keeps = c.append.ensures xs same (subst (λ ys. has ys c.args.x ≡ false) (sym c.self.view_is) c.requires.new) in
    let len = length-walk (after_of c.self.inside.slots) c.self.inside.count (after_of c.self.inside.slots END) in
    let more = push_length xs c.args.x in
    entries_listed c.append.new.self (xs ++ c.args.x ∷ []) (c.self.inside.count + 1) keeps (omega (arith, len, more)) ∙ ap (λ ys. ys ++ c.args.x ∷ []) c.self.view_is
