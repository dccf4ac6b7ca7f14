use Rattle.std.proofs.Common.{rules, ◌≡◌, ◌∷◌, ◌++◌, ◌-◌, [], ap, ◌∙◌}
use Rattle.calc_events.specs.Listening.{listeners_with}
use Rattle.calc_events.specs.Seen.{listeners_of}
use Rattle.calc_events.proofs.SeenLaws.{fire-listeners}
use Rattle.calc_events.proofs.listening.Events.fire.Goals as goal

pub returns : goal.returns
returns c =
    let pushed : c.push.new.self.items ≡ c.self.inside.fired.items ++ c.args.event ∷ [] = search rules in
    ap (λ fired. record { listeners = listeners_of fired c.self.inside.seen.entries; room = c.self.inside.room - 1 }) pushed
    ∙ ap (λ ls. record { listeners = ls; room = c.self.inside.room - 1 }) (fire-listeners c.self.inside.fired.items c.args.event c.self.inside.seen.entries c.self.invariant.1)
    ∙ ap (λ v. record { listeners = listeners_with v.listeners c.args.event; room = v.room - 1 }) c.self.view_is
