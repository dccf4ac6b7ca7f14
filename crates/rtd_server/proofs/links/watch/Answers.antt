use Rattle.std.proofs.Common.{◌≡◌, rules, ap, sym, subst, ◌∙◌, cond, Some, None, ◌++◌, ◌∷◌, []}
use Rattle.std.specs.Map.{lookup}
use Rattle.rtd_server.specs.Strings.{Strings, same_strings}
use Rattle.rtd_server.proofs.Watching.{watchers-absent, watchers-changed, watchers-kept, watchers-there, written-at}
use Rattle.rtd_server.proofs.links.watch.Goals as goal

pub returns-in_err-push-clause-refused : goal.returns-in_err-push-clause-refused
returns-in_err-push-clause-refused c =
    let puts = written-at c.args.watchers.now.entries (c.get_mut.follows.lender c.push.new.self).entries c.args.strings.now c.in-Some.ids.now c.push.new.self (c.get_mut.follows.holds c.push.new.self).0 c.in-Some.ensures.value in
    let kept = watchers-kept c.args.watchers.now.entries (c.get_mut.follows.lender c.push.new.self).entries c.args.strings.now c.push.new.self puts (c.in_err-push.ensures.err ∙ watchers-there c.args.watchers.now.entries c.args.strings.now c.in-Some.ids.now c.in-Some.ensures.value) in
    search (rules, kept)

pub returns-in-Some-clause-noted : goal.returns-in-Some-clause-noted
returns-in-Some-clause-noted c =
    let puts = written-at c.args.watchers.now.entries (c.get_mut.follows.lender c.push.new.self).entries c.args.strings.now c.in-Some.ids.now c.push.new.self (c.get_mut.follows.holds c.push.new.self).0 c.in-Some.ensures.value in
    watchers-changed (λ ids. ids ++ c.args.id ∷ []) c.args.watchers.now.entries (c.get_mut.follows.lender c.push.new.self).entries c.args.strings.now c.push.new.self puts
    (c.in_ok-push.ensures.ok ∙ ap (λ ids. ids ++ c.args.id ∷ []) (watchers-there c.args.watchers.now.entries c.args.strings.now c.in-Some.ids.now c.in-Some.ensures.value))

pub returns-clause-noted : goal.returns-clause-noted
returns-clause-noted c =
    let old = c.args.watchers.now.entries in
    let absent : lookup (same_strings c.args.strings.now) old ≡ None = search (rules) in
    let first = rw c.get_mut.follows.holds-at-none at c.in_ok-insert.ensures.updates.0 in
    let puts = subst (λ t. (q : Strings) → lookup (same_strings q) c.insert.new.self.entries ≡ cond (same_strings t q) (Some c.in_ok-ids.ids) (lookup (same_strings q) old)) c.in_ok-copy.ensures first in
    watchers-changed (λ ids. ids ++ c.args.id ∷ []) old c.insert.new.self.entries c.args.strings.now c.in_ok-ids.ids puts
    (c.in_ok-ids.ensures ∙ sym (ap (λ ids. ids ++ c.args.id ∷ []) (watchers-absent old c.args.strings.now absent)))
