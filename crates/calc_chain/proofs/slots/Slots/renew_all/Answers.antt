use Rattle.std.proofs.Common.{◌≡◌, ℕ, List, true, length, ap, subst, sym, ◌∙◌, arith}
use Rattle.std.specs.List.{IsDistinct}
use Rattle.std.specs.Prelude.{nat_eq}
use Rattle.calc_chain.specs.Chain.{has}
use Rattle.calc_chain.specs.declared.linking.TheConstants.{WIDE}
use Rattle.calc_chain.specs.declared.slots.Slot.{Slot}
use Rattle.calc_chain.specs.declared.slots.Slots.{Slots}
use Rattle.calc_chain.specs.declared.slots.TheConstants.{END}
use Rattle.calc_chain.specs.Linking.{Fits, Keeps, Relabels, after_of, walk}
use Rattle.calc_chain.proofs.KeepsLaws.{entries_few, keeps_one}
use Rattle.calc_chain.proofs.RenewalLaws.{all_fit, all_once, keeps_renewed, room_renewed}
use Rattle.calc_chain.proofs.slots.Slots.renew_all.Goals as goal

pub relabel-requires-clause-fits : goal.relabel-requires-clause-fits
relabel-requires-clause-fits c =
    subst (λ (slot : Slot). (q : ℕ) → has (walk (after_of c.args.self.now) c.args.count slot.after) q ≡ true → Fits c.args.self.now q) (sym c.at-first.ensures)
    (subst (λ m. (q : ℕ) → has (walk (after_of c.args.self.now) m (after_of c.args.self.now END)) q ≡ true → Fits c.args.self.now q) c.requires.2
    (λ q t. all_fit c.args.self.now c.requires.0 q c.requires.1 t))

pub relabel-requires-clause-once : goal.relabel-requires-clause-once
relabel-requires-clause-once c =
    subst (λ (slot : Slot). IsDistinct nat_eq (walk (after_of c.args.self.now) c.args.count slot.after)) (sym c.at-first.ensures)
    (subst (λ m. IsDistinct nat_eq (walk (after_of c.args.self.now) m (after_of c.args.self.now END))) c.requires.2
    (all_once c.args.self.now c.requires.0 c.requires.1))

pub relabel-requires-clause-within : goal.relabel-requires-clause-within
relabel-requires-clause-within c =
    let few = entries_few c.args.self.now c.requires.0 c.requires.1 in
    let same = c.requires.2 in
    omega (arith, few, same)

-- the list that is kept has so many entries
length_is : (s : Slots) (xs ys : List ℕ) (count : ℕ) → Keeps s xs → length xs ≡ count → Keeps s ys → count ≡ length ys
length_is s xs ys count h is k = sym is ∙ ap length (keeps_one s xs ys h k)

pub returns-clause-kept : goal.returns-clause-kept
returns-clause-kept c xs keeps =
    let new = subst (λ (slot : Slot). Relabels c.args.self.now c.relabel.new.self slot.after c.args.count 0 WIDE) c.at-first.ensures c.relabel.ensures in
    keeps_renewed c.args.self.now c.relabel.new.self xs keeps
    (subst (λ m. Relabels c.args.self.now c.relabel.new.self (after_of c.args.self.now END) m 0 WIDE) (length_is c.args.self.now c.requires.0 xs c.args.count c.requires.1 c.requires.2 keeps) new)

pub returns-clause-room : goal.returns-clause-room
returns-clause-room c xs y keeps there =
    let new = subst (λ (slot : Slot). Relabels c.args.self.now c.relabel.new.self slot.after c.args.count 0 WIDE) c.at-first.ensures c.relabel.ensures in
    room_renewed c.args.self.now c.relabel.new.self xs y keeps there
    (subst (λ m. Relabels c.args.self.now c.relabel.new.self (after_of c.args.self.now END) m 0 WIDE) (length_is c.args.self.now c.requires.0 xs c.args.count c.requires.1 c.requires.2 keeps) new)
