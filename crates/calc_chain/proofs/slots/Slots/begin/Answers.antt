use Rattle.std.proofs.Common.{if◌then◌else◌, nat_eq, ap, ◌∙◌, arith}
use Rattle.calc_chain.specs.declared.slots.TheConstants.{END}
use Rattle.calc_chain.specs.declared.linking.TheConstants.{WIDE}
use Rattle.calc_chain.proofs.KeepsLaws.{keeps_first}
use Rattle.calc_chain.proofs.slots.Slots.begin.Goals as goal

pub returns : goal.returns
returns c =
    keeps_first c.args.self.now c.set_label.new.self c.args.x WIDE c.requires.kept c.requires.number
    (λ q. c.set_label.ensures.after q ∙ c.join-2.ensures.after q ∙ ap (λ m. if nat_eq q c.args.x then END else m) (c.join.ensures.after q))
    (λ q. c.set_label.ensures.before q ∙ c.join-2.ensures.before q ∙ ap (λ m. if nat_eq q END then c.args.x else m) (c.join.ensures.before q))
    (λ q. c.set_label.ensures.labels q ∙ ap (λ l. if nat_eq q c.args.x then WIDE else l) (c.join-2.ensures.labels q ∙ c.join.ensures.labels q))
    (c.set_label.ensures.size ∙ c.join-2.ensures.size ∙ c.join.ensures.size)
    (omega arith) (omega arith)
