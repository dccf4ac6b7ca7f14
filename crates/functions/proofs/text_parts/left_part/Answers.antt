use Rattle.std.proofs.Common.{◌∙◌, ap, sym, w64}
use Rattle.std.proofs.lemmas.Int.{to_z-of_z}
use Rattle.std.specs.Option.{option_map}
use Rattle.functions.specs.Texts.{amount_of, first_characters}
use Rattle.functions.proofs.TextAnswers.{shows, front_is_text}
use Rattle.functions.proofs.text_parts.left_part.Goals as goal

pub returns-in-Some : goal.returns-in-Some
returns-in-Some c =
    let t = c.args.text.now in
    shows c.text_value.result c.first_characters.result.now (first_characters c.in-Some.count t) _ c.text_value.ensures
    (c.first_characters.ensures ∙ ap (first_characters c.in-Some.count) c.as_str.ensures.text)
    (front_is_text c.in-Some.count t c.as_str.ensures.valid)
    (ap (option_map (λ k. first_characters k t)) (sym (c.in-Some.ensures ∙ ap amount_of (to_z-of_z w64 c.args.n c.ranges.n))))
