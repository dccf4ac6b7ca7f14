use Rattle.std.proofs.Common.{◌∙◌, ap, refl, Some}
use Rattle.functions.specs.Texts.{in_upper_case}
use Rattle.functions.proofs.TextAnswers.{shows, upper_is_text}
use Rattle.functions.proofs.text_writing.upper_text.Goals as goal

pub returns : goal.returns
returns c =
    shows c.text_value.result c.as_str-2.result.now (in_upper_case c.args.text.now) (Some (in_upper_case c.args.text.now)) c.text_value.ensures
    (c.as_str-2.ensures.value ∙ (c.in_ok-upper.ensures ∙ ap in_upper_case c.as_str.ensures.text))
    (upper_is_text c.args.text.now c.as_str.ensures.valid)
    refl
