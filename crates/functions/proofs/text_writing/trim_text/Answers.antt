use Rattle.std.proofs.Common.{◌∙◌, ap, refl, Some, List, ℕ}
use Rattle.std.specs.Str.{chars, encode_utf8_all}
use Rattle.functions.specs.Texts.{single_spacing_of}
use Rattle.functions.proofs.TextAnswers.{shows}
use Rattle.functions.proofs.TrimFacts.{tidied_is_text}
use Rattle.functions.proofs.text_writing.trim_text.Goals as goal

pub returns : goal.returns
returns c =
    let tidy = encode_utf8_all (single_spacing_of (chars c.args.text.now)) in
    shows c.text_value.result c.as_str-2.result.now tidy (Some tidy) c.text_value.ensures
    (c.as_str-2.ensures.value ∙ (c.in_ok-tidy.ensures ∙ ap (λ (s : List ℕ). encode_utf8_all (single_spacing_of (chars s))) c.as_str.ensures.text))
    (tidied_is_text c.args.text.now c.as_str.ensures.valid)
    refl
