use Rattle.std.proofs.Common.{◌≡◌, ◌≢◌, [], ◌∷◌, ◌++◌, true, ap, subst, sym, ◌∙◌}
use Rattle.calc_chain.specs.Chain.{has}
use Rattle.calc_chain.specs.declared.slots.Slot.{Slot}
use Rattle.calc_chain.specs.declared.slots.TheConstants.{END}
use Rattle.calc_chain.specs.Linking.{Keeps, before_of, put_behind}
use Rattle.calc_chain.proofs.KeepsLaws.{last_entry, no_entry, put_at_end}
use Rattle.calc_chain.proofs.slots.Slots.append.Goals as goal

pub begin-requires-clause-kept : goal.begin-requires-clause-kept
begin-requires-clause-kept c =
    let last = sym (ap (λ (slot : Slot). slot.before) c.at-last.ensures) ∙ c.if-last.true in
    subst (Keeps c.args.self.now) (no_entry c.args.self.now c.requires.kept.0 c.requires.kept.1 last) c.requires.kept.1

pub insert-requires-clause-kept : goal.insert-requires-clause-kept
insert-requires-clause-kept c =
    let last = ap (λ (slot : Slot). slot.before) c.at-last.ensures in (
      c.requires.kept.0,
      c.requires.kept.1,
      c.requires.kept.2,
      subst (λ m. has c.requires.kept.0 m ≡ true) (sym last) (last_entry c.args.self.now c.requires.kept.0 c.requires.kept.1 (λ is. c.if-last.false (last ∙ is))),
      c.requires.kept.3,
    )

pub returns-then-last : goal.returns-then-last
returns-then-last c xs keeps new =
    let last = sym (ap (λ (slot : Slot). slot.before) c.at-last.ensures) ∙ c.if-last.true in
    subst (λ ys. Keeps c.begin.new.self (ys ++ c.args.x ∷ [])) (sym (no_entry c.args.self.now xs keeps last)) c.begin.ensures

pub returns-else-last : goal.returns-else-last
returns-else-last c xs keeps new =
    let last = ap (λ (slot : Slot). slot.before) c.at-last.ensures in
    let apart : before_of c.args.self.now END ≢ END = λ is. c.if-last.false (last ∙ is) in
    subst (Keeps c.insert.new.self) (ap (λ m. put_behind xs m c.args.x) last ∙ put_at_end c.args.self.now xs c.args.x keeps apart)
    (c.insert.ensures xs keeps new (subst (λ m. has xs m ≡ true) (sym last) (last_entry c.args.self.now xs keeps apart)))
