use Rattle.std.proofs.Common.{◌≡◌, ◌^◌, true, ap, subst, sym, ◌∙◌}
use Rattle.std.specs.Prelude.{nat_lt}
use Rattle.calc_chain.specs.Chain.{has, is_behind}
use Rattle.calc_chain.specs.declared.slots.Slot.{Slot}
use Rattle.calc_chain.specs.declared.slots.TheConstants.{END}
use Rattle.calc_chain.specs.Linking.{after_of, label_of, walk}
use Rattle.calc_chain.proofs.LabelLaws.{rise-behind}
use Rattle.calc_chain.proofs.orders.LinkedOrder.behind.Goals as goal

pub returns : goal.returns
returns c =
    let xs = walk (after_of c.self.inside.slots) c.self.inside.count (after_of c.self.inside.slots END) in
    ap (λ (slot : Slot). nat_lt slot.label c.at-2.result.label) c.at.ensures
    ∙ ap (λ (slot : Slot). nat_lt (label_of c.self.inside.slots c.args.y) slot.label) c.at-2.ensures
    ∙ rise-behind (label_of c.self.inside.slots) 0 xs (2 ^ 64) c.args.x c.args.y c.self.invariant.rising c.requires.apart
    (subst (λ ys. has ys c.args.x ≡ true) (sym c.self.view_is) c.requires.first) (subst (λ ys. has ys c.args.y ≡ true) (sym c.self.view_is) c.requires.second)
    ∙ ap (λ ys. is_behind ys c.args.x c.args.y) c.self.view_is
