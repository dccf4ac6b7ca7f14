use Rattle.std.proofs.Common.{◌∙◌, ap, refl, Some}
use Rattle.functions.specs.Texts.{in_lower_case}
use Rattle.functions.proofs.TextAnswers.{shows, lower_is_text}
use Rattle.functions.proofs.text_writing.lower_text.Goals as goal

pub returns : goal.returns
returns c =
    shows c.text_value.result c.as_str-2.result.now (in_lower_case c.args.text.now) (Some (in_lower_case c.args.text.now)) c.text_value.ensures
    (c.as_str-2.ensures.value ∙ (c.in_ok-lower.ensures ∙ ap in_lower_case c.as_str.ensures.text))
    (lower_is_text c.args.text.now c.as_str.ensures.valid)
    refl
