use Rattle.std.proofs.Common.{if◌then◌else◌, nat_eq, ap, ◌∙◌}
use Rattle.calc_chain.specs.declared.slots.Slot.{Slot}
use Rattle.calc_chain.specs.Linking.{after_of, before_of}
use Rattle.calc_chain.proofs.KeepsLaws.{keeps_put}
use Rattle.calc_chain.proofs.slots.Slots.insert_with.Goals as goal

pub returns : goal.returns
returns c xs keeps new there =
    let next = c.at-next.result.after in
    keeps_put c.args.self.now c.set_label.new.self xs c.args.y c.args.x c.args.label keeps there new c.requires.number
    (λ q. c.set_label.ensures.after q ∙ c.join-2.ensures.after q ∙ ap (λ m. if nat_eq q c.args.x then next else m) (c.join.ensures.after q)
    ∙ ap (λ (slot : Slot). if nat_eq q c.args.x then slot.after else if nat_eq q c.args.y then c.args.x else after_of c.args.self.now q) c.at-next.ensures)
    (λ q. c.set_label.ensures.before q ∙ c.join-2.ensures.before q ∙ ap (λ m. if nat_eq q next then c.args.x else m) (c.join.ensures.before q)
    ∙ ap (λ (slot : Slot). if nat_eq q slot.after then c.args.x else if nat_eq q c.args.x then c.args.y else before_of c.args.self.now q) c.at-next.ensures)
    (λ q. c.set_label.ensures.labels q ∙ ap (λ l. if nat_eq q c.args.x then c.args.label else l) (c.join-2.ensures.labels q ∙ c.join.ensures.labels q))
    (c.set_label.ensures.size ∙ c.join-2.ensures.size ∙ c.join.ensures.size)
    c.requires.label.above c.ranges.label.fits c.requires.label.below
