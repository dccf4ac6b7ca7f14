use Rattle.std.proofs.Common.{◌≡◌, ◌++◌, ◌∷◌, [], ◌+◌, ◌-◌, ◌≤◌, length, length-append, lit<, arith, ap, sym, ◌∙◌}
use Rattle.std.proofs.lemmas.Option.{MatchOption-at_some, MatchOption-at_none}
use Rattle.std.proofs.lemmas.Str.Pattern.{split_parts, strip_prefix_char}
use Rattle.std.specs.String.{string_bytes}
use Rattle.formula_parse.proofs.CodeFacts.CodeQuotes.{doubled, closed, unclosed, utf8_next}
use Rattle.formula_parse.proofs.lexing.quotes.content.Goals as goal

pub loop-before-preserved : goal.loop-before-preserved
loop-before-preserved c =
    let whole = c.args.text.now in
    let rest = c.loop-before.rest.now in
    let before = c.in-Some.before.now in
    let after = c.in-Some.after.now in
    let next = c.in-Some-strip_prefix.next.now in
    let parts = MatchOption-at_some _ _ (c.in-Some.before, c.in-Some.after) c.in-Some.is (split_parts 34 rest c.split_once.result c.split_once.ensures.cases (lit< tt)) in
    let quote = MatchOption-at_some _ _ c.in-Some-strip_prefix.next c.in-Some-strip_prefix.is (strip_prefix_char 34 after c.strip_prefix.result c.strip_prefix.ensures.cases (lit< tt)) in
    let more : string_bytes c.push.new.self ≡ (string_bytes c.loop-before.content ++ before) ++ (34 ∷ []) = c.in_ok-push-in-Some-strip_prefix.ensures.bytes ∙ (ap (λ x. string_bytes c.push_str.new.self ++ x) (c.in_ok-push-in-Some-strip_prefix.ensures.ascii (lit< tt)) ∙ ap (λ x. x ++ (34 ∷ [])) c.in_ok-push_str.ensures.bytes) in
    let long : length rest ≡ length before + (length next + 2) = ap length parts.0 ∙ omega (arith, length-append before (34 ∷ after), ap length quote) in
    let within : length rest ≤ length whole = c.loop-before.invariant.2 in (
      utf8_next rest before after next c.loop-before.invariant.0 parts.0 quote,
      doubled whole (string_bytes c.loop-before.content) _ rest before after next (length whole - length rest) (length whole - length next) c.loop-before.invariant.1 parts.0 parts.1 quote more (omega (arith, long, within)),
      omega (arith, long, within),
    )

pub returns-in-None : goal.returns-in-None
returns-in-None c =
    let whole = c.args.text.now in
    let rest = c.loop-before.rest.now in
    let before = c.in-Some.before.now in
    let after = c.in-Some.after.now in
    let parts = MatchOption-at_some _ _ (c.in-Some.before, c.in-Some.after) c.in-Some.is (split_parts 34 rest c.split_once.result c.split_once.ensures.cases (lit< tt)) in
    let none = MatchOption-at_none _ _ c.in-None.is (strip_prefix_char 34 after c.strip_prefix.result c.strip_prefix.ensures.cases (lit< tt)) in
    let long : length rest ≡ length before + (length after + 1) = ap length parts.0 ∙ omega (arith, length-append before (34 ∷ after)) in
    let within : length rest ≤ length whole = c.loop-before.invariant.2 in
    sym (closed whole (string_bytes c.loop-before.content) _ rest before after (length whole - length rest) (length whole - length after) c.loop-before.invariant.1 parts.0 parts.1 none c.in_ok-push_str.ensures.bytes (omega (arith, long, within)))

pub returns : goal.returns
returns c =
    let none = MatchOption-at_none _ _ c.in_default.is (split_parts 34 c.loop-before.rest.now c.split_once.result c.split_once.ensures.cases (lit< tt)) in
    sym (unclosed c.args.text.now (string_bytes c.loop-before.content) c.loop-before.rest.now _ c.loop-before.invariant.1 none)
