use Rattle.std.proofs.Common.{◌≡◌, ◌-◌, true, false, ap, subst, sym, ◌∙◌, arith}
use Rattle.std.specs.Prelude.{nat_lt}
use Rattle.calc_chain.specs.Chain.{has, without}
use Rattle.calc_chain.specs.declared.slots.Slot.{Slot}
use Rattle.calc_chain.specs.declared.slots.TheConstants.{END}
use Rattle.calc_chain.specs.Linking.{Keeps, after_of, label_of, walk}
use Rattle.calc_chain.proofs.KeepsLaws.{entries_listed}
use Rattle.calc_chain.proofs.LabelLaws.{less_false, less_true}
use Rattle.calc_chain.proofs.LinkLaws.{length-walk}
use Rattle.calc_chain.proofs.OrderLaws.{without_length, without_none}
use Rattle.calc_chain.proofs.orders.LinkedOrder.remove.Goals as goal
use Rattle.calc_chain.proofs.orders.LinkedOrder.remove.Goals.{then-x-eq-END-via-then-x-eq-END, then-x-eq-END-via-else-x-eq-END+then-at-eq0}

pub returns-then-x-eq-END : goal.returns-then-x-eq-END
returns-then-x-eq-END c =
    sym (without_none c.args.self.now c.args.x (elim c.then-x-eq-END.branch [
      | then-x-eq-END-via-then-x-eq-END w ↦ subst (λ ys. has ys c.args.x ≡ false) c.self.view_is (ap (has (walk (after_of c.self.inside.slots) c.self.inside.count (after_of c.self.inside.slots END))) w.if-x-eq-END.true ∙ c.self.invariant.apart)
      | then-x-eq-END-via-else-x-eq-END+then-at-eq0 w ↦
          let none : label_of c.self.inside.slots c.args.x ≡ 0 = sym (ap (λ (slot : Slot). slot.label) w.at.ensures) ∙ w.if-at-eq0.true in
          subst (λ ys. has ys c.args.x ≡ false) c.self.view_is (c.self.invariant.labeled c.args.x w.if-x-eq-END.false ∙ ap (nat_lt 0) none ∙ less_false 0 0 (omega arith))
    ]))

pub invariant_of-self : goal.invariant_of-self
invariant_of-self c =
    let xs = walk (after_of c.self.inside.slots) c.self.inside.count (after_of c.self.inside.slots END) in
    let label = ap (λ (slot : Slot). slot.label) c.at.ensures in
    let zero = c.if-at-eq0.false in
    let there : has xs c.args.x ≡ true = c.self.invariant.labeled c.args.x c.if-x-eq-END.false ∙ less_true 0 (label_of c.self.inside.slots c.args.x) (omega (arith, label, zero)) in
    let keeps = c.unlink.ensures.out xs c.self.invariant there in
    let short = without_length xs c.args.x c.self.invariant.once there in
    let len = length-walk (after_of c.self.inside.slots) c.self.inside.count (after_of c.self.inside.slots END) in
    subst (Keeps c.unlink.new.self) (sym (entries_listed c.unlink.new.self (without xs c.args.x) (c.self.inside.count - 1) keeps (omega (arith, short, len)))) keeps

pub returns : goal.returns
returns c =
    let xs = walk (after_of c.self.inside.slots) c.self.inside.count (after_of c.self.inside.slots END) in
    let label = ap (λ (slot : Slot). slot.label) c.at.ensures in
    let zero = c.if-at-eq0.false in
    let there : has xs c.args.x ≡ true = c.self.invariant.labeled c.args.x c.if-x-eq-END.false ∙ less_true 0 (label_of c.self.inside.slots c.args.x) (omega (arith, label, zero)) in
    let keeps = c.unlink.ensures.out xs c.self.invariant there in
    let short = without_length xs c.args.x c.self.invariant.once there in
    let len = length-walk (after_of c.self.inside.slots) c.self.inside.count (after_of c.self.inside.slots END) in
    entries_listed c.unlink.new.self (without xs c.args.x) (c.self.inside.count - 1) keeps (omega (arith, short, len)) ∙ ap (λ ys. without ys c.args.x) c.self.view_is
