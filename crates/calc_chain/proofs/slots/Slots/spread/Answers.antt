use Rattle.std.proofs.Common.{◌≡◌, ◌+◌, ◌*◌, ◌<◌, ℕ, true, subst, sym}
use Rattle.std.specs.List.{IsDistinct}
use Rattle.std.specs.Prelude.{nat_eq}
use Rattle.calc_chain.specs.Chain.{has}
use Rattle.calc_chain.specs.declared.slots.Slot.{Slot}
use Rattle.calc_chain.specs.Linking.{Fits, Relabels, after_of, walk}
use Rattle.calc_chain.proofs.KeepsLaws.{keeps_one}
use Rattle.calc_chain.proofs.RenewalLaws.{crowd_fits, crowd_once, crowd_within, keeps_relabeled, room_relabeled}
use Rattle.calc_chain.proofs.slots.Slots.spread.Goals as goal

pub relabel-requires-clause-fits : goal.relabel-requires-clause-fits
relabel-requires-clause-fits c =
    subst (λ (slot : Slot). (q : ℕ) → has (walk (after_of c.args.self.now) c.args.crowd.count slot.after) q ≡ true → Fits c.args.self.now q) (sym c.at-slot.ensures)
    (λ q t. crowd_fits c.args.self.now c.requires.kept.0 c.args.y c.args.crowd.count q c.requires.kept.1 c.requires.kept.2 c.requires.crowd.entries t)

pub relabel-requires-clause-once : goal.relabel-requires-clause-once
relabel-requires-clause-once c =
    subst (λ (slot : Slot). IsDistinct nat_eq (walk (after_of c.args.self.now) c.args.crowd.count slot.after)) (sym c.at-slot.ensures)
    (crowd_once c.args.self.now c.requires.kept.0 c.args.y c.args.crowd.count c.requires.kept.1 c.requires.kept.2 c.requires.crowd.entries)

pub relabel-requires-clause-within : goal.relabel-requires-clause-within
relabel-requires-clause-within c =
    subst (λ (slot : Slot). slot.label + c.args.crowd.count * c.args.crowd.step < 18446744073709551616) (sym c.at-slot.ensures)
    (crowd_within c.args.self.now c.requires.kept.0 c.args.y c.args.crowd.count c.args.crowd.step c.requires.kept.1 c.requires.kept.2 c.requires.crowd)

pub returns-clause-kept : goal.returns-clause-kept
returns-clause-kept c xs keeps =
    let new = subst (λ (slot : Slot). Relabels c.args.self.now c.relabel.new.self slot.after c.args.crowd.count slot.label c.args.crowd.step) c.at-slot.ensures c.relabel.ensures in
    keeps_relabeled c.args.self.now c.relabel.new.self xs c.args.y c.args.crowd.count c.args.crowd.step keeps
    (subst (λ ys. has ys c.args.y ≡ true) (keeps_one c.args.self.now c.requires.kept.0 xs c.requires.kept.1 keeps) c.requires.kept.2) c.requires.crowd new

pub returns-clause-room : goal.returns-clause-room
returns-clause-room c =
    let new = subst (λ (slot : Slot). Relabels c.args.self.now c.relabel.new.self slot.after c.args.crowd.count slot.label c.args.crowd.step) c.at-slot.ensures c.relabel.ensures in
    room_relabeled c.args.self.now c.relabel.new.self c.requires.kept.0 c.args.y c.args.crowd.count c.args.crowd.step c.requires.kept.1 c.requires.kept.2 c.requires.crowd new
