use Rattle.std.proofs.Common.{◌≡◌, ◌<◌, length, Some, Ok, arith, inr, ap, sym, subst}
use Rattle.std.specs.Char.{is_ascii_control}
use Rattle.std.specs.List.{position}
use Rattle.std.specs.Str.{chars}
use Rattle.std.specs.String.{string_bytes}
use Rattle.formula_parse.specs.Lexing.{content_at}
use Rattle.formula_parse.proofs.CodeFacts.CodeQuotes.{found_within, control_found, not_too_long}
use Rattle.formula_parse.proofs.lexing.quotes.text_behind.Goals as goal

pub overflow_add-result : goal.overflow_add-result
overflow_add-result c =
    let found : content_at c.args.rest.now ≡ Some (string_bytes c.in-Some.content, c.in-Some.len) = sym (rw c.in-Some.is at c.in_ok-content.ensures) in
    omega (arith, found_within c.args.rest.now _ found)

pub returns-in-Err-TooLong : goal.returns-in-Err-TooLong
returns-in-Err-TooLong c =
    let found : content_at c.args.rest.now ≡ Some (string_bytes c.in-Some.content, c.in-Some.len) = sym (rw c.in-Some.is at c.in_ok-content.ensures) in
    let long : 32767 < length (chars c.as_str.result.now) = rw c.in-Err-TooLong.field-0-is at c.in-Err-TooLong.ensures.fault in
    absurd (not_too_long c.args.rest.now (string_bytes c.in-Some.content) _ c.requires found (subst (λ s. 32767 < length (chars s)) c.as_str.ensures.value long))

pub returns : goal.returns
returns c =
    let found : content_at c.args.rest.now ≡ Some (string_bytes c.in-Some.content, c.in-Some.len) = sym (rw c.in-Some.is at c.in_ok-content.ensures) in
    let control = rw c.in-Err-Control.field-0-is at c.in-Err-Control.ensures.fault in
    inr (ap (λ x. Ok x) (sym (control_found c.args.rest.now (string_bytes c.in-Some.content) _ c.in-Err-Control.field-0-0 found (subst (λ s. position is_ascii_control s ≡ Some c.in-Err-Control.field-0-0) c.as_str.ensures.value control.1))))
