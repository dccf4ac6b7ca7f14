use Rattle.std.proofs.Common.{◌∙◌, ◌-◌, length, ap, sym, w64}
use Rattle.std.proofs.lemmas.Int.{to_z-of_z}
use Rattle.std.specs.Option.{option_map}
use Rattle.std.specs.Str.{chars}
use Rattle.functions.specs.Texts.{amount_of, last_characters}
use Rattle.functions.proofs.TextAnswers.{shows, rest_is_text}
use Rattle.functions.proofs.text_parts.right_part.Goals as goal

pub returns-in-Some : goal.returns-in-Some
returns-in-Some c =
    let t = c.args.text.now in
    shows c.text_value.result c.last_characters.result.now (last_characters c.in-Some.count t) _ c.text_value.ensures
    (c.last_characters.ensures ∙ ap (last_characters c.in-Some.count) c.as_str.ensures.text)
    (rest_is_text (length (chars t) - c.in-Some.count) t c.as_str.ensures.valid)
    (ap (option_map (λ k. last_characters k t)) (sym (c.in-Some.ensures ∙ ap amount_of (to_z-of_z w64 c.args.n c.ranges.n))))
