use Rattle.std.proofs.Common.{◌≡◌, ◌≤◌, ◌∙◌, sym, ap, None, Some, is_some, IfSome, IfNone, drop, length}
use Rattle.std.specs.Map.{lookup}
use Rattle.calc_events.specs.Listening.{events_of, listeners_after_fetch}
use Rattle.calc_events.specs.Seen.{is_key, listeners_of}
use Rattle.calc_events.proofs.SeenLaws.{has-listener, lookup-seen, events-lookup, after-absent}
use Rattle.calc_events.proofs.listening.seen_by.Goals as goal

-- what the map has at the name
found : (c : goal.After-copied) → c.copied.result ≡ lookup (is_key c.args.name.now) c.args.seen.now.entries
found c = c.copied.ensures ∙ c.get.ensures.value

pub returns-clause-known : goal.returns-clause-known
returns-clause-known c = ap is_some (found c) ∙ sym (has-listener c.args.fired.now c.args.name.now c.args.seen.now.entries)

pub returns-clause-within : goal.returns-clause-within
returns-clause-within c =
    elim c.copied.result as (λ r. r ≡ lookup (is_key c.args.name.now) c.args.seen.now.entries → IfSome r (λ count. count ≤ length c.args.fired.now)) [
      | None ↦ λ h. search
      | Some n ↦ λ h. lookup-seen c.args.fired.now c.args.name.now c.args.seen.now.entries c.requires n (sym h)
    ] (found c)

pub returns-clause-events : goal.returns-clause-events
returns-clause-events c =
    elim c.copied.result as (λ r. r ≡ lookup (is_key c.args.name.now) c.args.seen.now.entries
    → IfSome r (λ count. drop count c.args.fired.now ≡ events_of (listeners_of c.args.fired.now c.args.seen.now.entries) c.args.name.now)) [
      | None ↦ λ h. search
      | Some n ↦ λ h. events-lookup c.args.fired.now c.args.name.now c.args.seen.now.entries n (sym h)
    ] (found c)

pub returns-clause-none : goal.returns-clause-none
returns-clause-none c =
    elim c.copied.result as (λ r. r ≡ lookup (is_key c.args.name.now) c.args.seen.now.entries
    → IfNone r (listeners_after_fetch (listeners_of c.args.fired.now c.args.seen.now.entries) c.args.name.now ≡ listeners_of c.args.fired.now c.args.seen.now.entries)) [
      | None ↦ λ h. after-absent c.args.fired.now c.args.name.now c.args.seen.now.entries (sym h)
      | Some n ↦ λ h. search
    ] (found c)
