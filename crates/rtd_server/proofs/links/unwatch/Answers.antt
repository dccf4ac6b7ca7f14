use Rattle.std.proofs.Common.{◌≡◌, ℕ, List, rules, ap, ◌∙◌, None}
use Rattle.std.specs.Prelude.{filter, nat_eq, not}
use Rattle.std.specs.Map.{lookup}
use Rattle.rtd_server.specs.Strings.{same_strings}
use Rattle.rtd_server.proofs.Watching.{unwatched, unwatched-absent, watchers-changed, watchers-there, written-at}
use Rattle.rtd_server.proofs.links.unwatch.Goals as goal

pub returns-in-Some : goal.returns-in-Some
returns-in-Some c =
    let old = c.args.watchers.now.entries in
    let new = (c.get_mut.follows.lender c.remove.new.self).entries in
    let puts = written-at old new c.args.strings.now c.in-Some.ids.now c.remove.new.self (c.get_mut.follows.holds c.remove.new.self).0 c.in-Some.ensures.value in
    let without : List ℕ → List ℕ = λ ids. filter (λ other. not (nat_eq other c.args.id)) ids in
    unwatched old new c.args.strings.now c.args.id
    (watchers-changed without old new c.args.strings.now c.remove.new.self puts (c.remove.ensures ∙ ap without (watchers-there old c.args.strings.now c.in-Some.ids.now c.in-Some.ensures.value)))

pub returns-in_default : goal.returns-in_default
returns-in_default c =
    let absent : lookup (same_strings c.args.strings.now) c.args.watchers.now.entries ≡ None = search (rules) in
    rw c.get_mut.follows.holds-at-none (unwatched-absent c.args.watchers.now.entries c.args.strings.now c.args.id absent)
