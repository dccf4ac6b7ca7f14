use Rattle.std.proofs.Common.{◌≡◌, ◌∙◌, ◌<◌, ◌/◌, length, ap, sym, arith, subst, ℕ}
use Rattle.std.specs.List.{repeat}
use Rattle.std.specs.Str.{chars}
use Rattle.cell_values.specs.declared.limits.TheConstants.{LONGEST_TEXT}
use Rattle.cell_values.specs.Text.{if_short}
use Rattle.cell_values.specs.Word.{text_of_bytes}
use Rattle.functions.specs.Texts.{text_or_fault}
use Rattle.functions.proofs.RepeatFacts.{repeat_empty, repeat_too_long, repeat_if_short}
use Rattle.functions.proofs.TextAnswers.{answers}
use Rattle.functions.proofs.text_writing.repeated_text.Goals as goal

pub returns-then-length-eq0 : goal.returns-then-length-eq0
returns-then-length-eq0 c =
    let count : c.count_characters-length.result ≡ length (chars c.args.text.now) = c.count_characters-length.ensures ∙ ap (λ s. length (chars s)) c.as_str.ensures.text in
    answers c.text_value.result _ _ c.text_value.ensures (repeat_empty c.args.times c.args.text.now c.as_str.ensures.valid (sym count ∙ c.if-length-eq0.true))

pub returns-then-times-length : goal.returns-then-times-length
returns-then-times-length c =
    let count : c.count_characters-length.result ≡ length (chars c.args.text.now) = c.count_characters-length.ensures ∙ ap (λ s. length (chars s)) c.as_str.ensures.text in
    let often : LONGEST_TEXT / length (chars c.args.text.now) < c.args.times = subst (λ (k : ℕ). LONGEST_TEXT / k < c.args.times) count c.if-times-length.true in
    ap text_or_fault (repeat_too_long c.args.times c.args.text.now c.as_str.ensures.valid (omega (arith, count)) often)

pub returns : goal.returns
returns c =
    let same : c.as_str-3.result.now ≡ repeat c.args.times c.args.text.now =
    c.as_str-3.ensures.value ∙ (c.in_ok-all.ensures ∙ ap (repeat c.args.times) c.as_str-2.ensures.text) in
    answers c.text_value-2.result (if_short (repeat c.args.times c.args.text.now)) _ c.text_value-2.ensures
    (ap text_of_bytes same ∙ repeat_if_short c.args.times c.args.text.now c.as_str.ensures.valid)
