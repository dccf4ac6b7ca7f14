use Rattle.std.proofs.Common.{◌∙◌, sym, ap, subst}
use Rattle.calc_events.specs.Seen.{AreSeen, listeners_of}
use Rattle.calc_events.proofs.SeenLaws.{set-seen, set-within, after-absent}
use Rattle.calc_events.proofs.listening.set_seen.Goals as goal

pub returns-in-Some-clause-set : goal.returns-in-Some-clause-set
returns-in-Some-clause-set c fired all =
    ap (listeners_of fired) (c.get_mut.follows.holds c.args.count).0
    ∙ set-seen fired c.args.name.now c.args.count c.args.seen.now.entries c.get_mut.ensures.unique all

pub returns-in-Some-clause-within : goal.returns-in-Some-clause-within
returns-in-Some-clause-within c fired seen within =
    subst (AreSeen fired) (sym (c.get_mut.follows.holds c.args.count).0)
    (set-within fired c.args.name.now c.args.count c.args.seen.now.entries seen within)

pub returns-in_default-clause-set : goal.returns-in_default-clause-set
returns-in_default-clause-set c fired all =
    ap (λ m. listeners_of fired m.entries) c.get_mut.follows.holds-at-none
    ∙ sym (after-absent fired c.args.name.now c.args.seen.now.entries (sym c.in_default.ensures.value))
