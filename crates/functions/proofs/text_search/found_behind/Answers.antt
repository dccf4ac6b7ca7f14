use Rattle.std.proofs.Common.{◌≡◌, ◌∙◌, ◌≤◌, ◌+◌, ℕ, List, ap, length, arith}
use Rattle.std.proofs.lemmas.Str.{IsUtf8-past_char}
use Rattle.std.specs.Str.{chars}
use Rattle.functions.proofs.FindFacts.{found_at, found_nowhere, next_place, at_end, until, stands_here}
use Rattle.functions.proofs.text_search.found_behind.Goals as goal

pub returns-then-begins_with-clause-found : goal.returns-then-begins_with-clause-found
returns-then-begins_with-clause-found c =
    let count : c.count_characters-before-end.result ≡ length (chars c.args.text.now) = c.count_characters-before-end.ensures ∙ ap (λ (s : List ℕ). length (chars s)) c.as_str-2.ensures.text in
    found_at c.args.pattern.now c.args.text.now c.args.least c.loop-before.before c.loop-before.auto.before (omega (arith, count))
    (stands_here _ _ _ _ _ _ _ c.as_str-in-loop-before.ensures c.loop-before.invariant.here c.as_str-in-loop-before-2.ensures.text c.if-begins_with.ensures)
    c.loop-before.invariant.none

pub returns-in_default-clause-found : goal.returns-in_default-clause-found
returns-in_default-clause-found c =
    let over : length (chars c.args.text.now) ≤ c.loop-before.before = at_end _ c.args.text.now _ c.loop-before.invariant.here (c.in_default.ensures.steps).0.0 in
    let none = until c.args.pattern.now c.args.text.now c.args.least c.loop-before.before c.loop-before.invariant.none
    (stands_here _ _ _ _ _ _ _ c.as_str-in-loop-before.ensures c.loop-before.invariant.here c.as_str-in-loop-before-2.ensures.text c.if-begins_with.ensures) in
    found_nowhere c.args.pattern.now c.args.text.now c.args.least (λ k low high. none k low (omega arith))

pub loop-before-preserved : goal.loop-before-preserved
loop-before-preserved c = record {
  utf8 = IsUtf8-past_char _ _ _ c.loop-before.invariant.utf8 (c.in-Some.ensures.steps).0;
  here = next_place _ _ _ _ _ c.loop-before.invariant.here (c.in-Some.ensures.steps).0;
  none = until c.args.pattern.now c.args.text.now c.args.least c.loop-before.before c.loop-before.invariant.none
      (stands_here _ _ _ _ _ _ _ c.as_str-in-loop-before.ensures c.loop-before.invariant.here c.as_str-in-loop-before-2.ensures.text c.if-begins_with.ensures);
}

pub returns-clause-found : goal.returns-clause-found
returns-clause-found c =
    let count : c.count_characters-before-end.result ≡ length (chars c.args.text.now) = c.count_characters-before-end.ensures ∙ ap (λ (s : List ℕ). length (chars s)) c.as_str-2.ensures.text in
    let over : c.count_characters-before-end.result + 1 ≤ c.loop-before.before = c.loop-before-test.false in
    found_nowhere c.args.pattern.now c.args.text.now c.args.least (λ k low high. c.loop-before.invariant.none k low (omega (arith, count)))
