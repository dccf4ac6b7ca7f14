use Rattle.std.proofs.Common.{if◌then◌else◌, nat_eq, ap, subst, sym, ◌∙◌}
use Rattle.calc_chain.specs.declared.slots.Slot.{Slot}
use Rattle.calc_chain.specs.Linking.{Fits, after_of, before_of}
use Rattle.calc_chain.proofs.KeepsLaws.{after_fits, before_fits, keeps_without}
use Rattle.calc_chain.proofs.slots.Slots.unlink.Goals as goal

pub join-requires-clause-first : goal.join-requires-clause-first
join-requires-clause-first c = subst (λ (slot : Slot). Fits c.args.self.now slot.before) (sym c.at-slot.ensures) (before_fits c.args.self.now c.requires.0 c.requires.1 c.args.x c.requires.2)

pub join-requires-clause-second : goal.join-requires-clause-second
join-requires-clause-second c = subst (λ (slot : Slot). Fits c.args.self.now slot.after) (sym c.at-slot.ensures) (after_fits c.args.self.now c.requires.0 c.requires.1 c.args.x c.requires.2)

pub returns-clause-out : goal.returns-clause-out
returns-clause-out c xs keeps there =
    keeps_without c.args.self.now c.set_label.new.self xs c.args.x keeps there
    (λ q. c.set_label.ensures.after q ∙ c.join.ensures.after q ∙ ap (λ (slot : Slot). if nat_eq q slot.before then slot.after else after_of c.args.self.now q) c.at-slot.ensures)
    (λ q. c.set_label.ensures.before q ∙ c.join.ensures.before q ∙ ap (λ (slot : Slot). if nat_eq q slot.after then slot.before else before_of c.args.self.now q) c.at-slot.ensures)
    (λ q. c.set_label.ensures.labels q ∙ ap (λ l. if nat_eq q c.args.x then 0 else l) (c.join.ensures.labels q))
    (c.set_label.ensures.size ∙ c.join.ensures.size)
