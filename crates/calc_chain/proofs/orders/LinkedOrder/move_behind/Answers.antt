use Rattle.std.proofs.Common.{◌≡◌, true, ap, subst, sym, ◌∙◌, arith}
use Rattle.calc_chain.specs.Chain.{has, moved_behind, without}
use Rattle.calc_chain.specs.declared.slots.TheConstants.{END}
use Rattle.calc_chain.specs.Linking.{Keeps, after_of, put_behind, walk}
use Rattle.calc_chain.proofs.ChainLaws.{gone, still_has}
use Rattle.calc_chain.proofs.KeepsLaws.{entries_listed}
use Rattle.calc_chain.proofs.LinkLaws.{length-walk}
use Rattle.calc_chain.proofs.OrderLaws.{put_is_insert, put_length, without_length}
use Rattle.calc_chain.proofs.orders.LinkedOrder.move_behind.Goals as goal

pub insert-requires-clause-kept : goal.insert-requires-clause-kept
insert-requires-clause-kept c =
    let xs = walk (after_of c.self.inside.slots) c.self.inside.count (after_of c.self.inside.slots END) in
    let here = subst (λ ys. has ys c.args.x ≡ true) (sym c.self.view_is) c.requires.first in
    let there = subst (λ ys. has ys c.args.y ≡ true) (sym c.self.view_is) c.requires.second in
    let short = without_length xs c.args.x c.self.invariant.once here in
    let len = length-walk (after_of c.self.inside.slots) c.self.inside.count (after_of c.self.inside.slots END) in
    (without xs c.args.x, c.unlink.ensures.out xs c.self.invariant here, gone xs c.args.x, still_has xs c.args.x c.args.y c.requires.apart there, omega (arith, short, len))

pub invariant_of-self : goal.invariant_of-self
invariant_of-self c =
    let xs = walk (after_of c.self.inside.slots) c.self.inside.count (after_of c.self.inside.slots END) in
    let here = subst (λ ys. has ys c.args.x ≡ true) (sym c.self.view_is) c.requires.first in
    let there = subst (λ ys. has ys c.args.y ≡ true) (sym c.self.view_is) c.requires.second in
    let rest = without xs c.args.x in
    let keeps = c.insert.ensures rest (c.unlink.ensures.out xs c.self.invariant here) (gone xs c.args.x) (still_has xs c.args.x c.args.y c.requires.apart there) in
    let short = without_length xs c.args.x c.self.invariant.once here in
    let len = length-walk (after_of c.self.inside.slots) c.self.inside.count (after_of c.self.inside.slots END) in
    let more = put_length rest c.args.y c.args.x in
    subst (Keeps c.insert.new.self) (sym (entries_listed c.insert.new.self (put_behind rest c.args.y c.args.x) c.self.inside.count keeps (omega (arith, short, len, more)))) keeps

pub returns : goal.returns
returns c =
    let xs = walk (after_of c.self.inside.slots) c.self.inside.count (after_of c.self.inside.slots END) in
    let here = subst (λ ys. has ys c.args.x ≡ true) (sym c.self.view_is) c.requires.first in
    let there = subst (λ ys. has ys c.args.y ≡ true) (sym c.self.view_is) c.requires.second in
    let rest = without xs c.args.x in
    let keeps = c.insert.ensures rest (c.unlink.ensures.out xs c.self.invariant here) (gone xs c.args.x) (still_has xs c.args.x c.args.y c.requires.apart there) in
    let short = without_length xs c.args.x c.self.invariant.once here in
    let len = length-walk (after_of c.self.inside.slots) c.self.inside.count (after_of c.self.inside.slots END) in
    let more = put_length rest c.args.y c.args.x in
    entries_listed c.insert.new.self (put_behind rest c.args.y c.args.x) c.self.inside.count keeps (omega (arith, short, len, more))
    ∙ put_is_insert rest c.args.y c.args.x (still_has xs c.args.x c.args.y c.requires.apart there)
    ∙ ap (λ ys. moved_behind ys c.args.x c.args.y) c.self.view_is
