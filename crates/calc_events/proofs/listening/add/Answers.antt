use Rattle.std.proofs.Common.{◌≡◌, ◌∷◌, ◌++◌, [], ◌∙◌, sym, ap, subst}
use Rattle.std.specs.String.{string_eq}
use Rattle.indexmap.proofs.CallerLemmas.{insert_entry-new}
use Rattle.calc_events.specs.Seen.{AreSeen, listeners_of}
use Rattle.calc_events.proofs.SeenLaws.{absent-key, add-listener, add-within}
use Rattle.calc_events.proofs.listening.add.Goals as goal

-- the new entry stands last
last : (c : goal.In_ok-insert) → c.insert.new.self.entries ≡ c.args.seen.now.entries ++ (c.in-Ok.key, c.args.count) ∷ []
last c =
    c.in_ok-insert.ensures.entries
    ∙ insert_entry-new string_eq c.args.seen.now c.in-Ok.key c.args.count
    (absent-key [] c.args.seen.now.entries c.in-Ok.key c.args.name.now c.in-Ok.ensures.ok (c.requires []))

pub returns-clause-ok : goal.returns-clause-ok
returns-clause-ok c fired =
    ap (listeners_of fired) (last c)
    ∙ add-listener fired c.args.count c.args.seen.now.entries c.in-Ok.key c.args.name.now c.in-Ok.ensures.ok

pub returns-clause-within : goal.returns-clause-within
returns-clause-within c fired seen within =
    subst (AreSeen fired) (sym (last c)) (add-within fired c.args.count c.args.seen.now.entries c.in-Ok.key seen within)
