use Rattle.std.proofs.Common.{◌∙◌, ap, sym, w64, ℕ}
use Rattle.std.proofs.lemmas.Int.{to_z-of_z}
use Rattle.std.specs.Option.{option_map, option_and_then}
use Rattle.functions.specs.Texts.{amount_of, before_place, first_characters, without_first}
use Rattle.functions.proofs.TextAnswers.{shows, front_is_text, rest_is_text}
use Rattle.functions.proofs.text_parts.mid_part.Goals as goal

pub returns-in-Some-Some : goal.returns-in-Some-Some
returns-in-Some-Some c =
    let t = c.args.text.now in
    let rest = without_first c.in-Some-Some.before t in
    shows c.text_value.result c.first_characters.result.now (first_characters c.in-Some-Some.count rest) _ c.text_value.ensures
    (c.first_characters.ensures ∙ ap (first_characters c.in-Some-Some.count) (c.without_first-rest.ensures ∙ ap (without_first c.in-Some-Some.before) c.as_str.ensures.text))
    (front_is_text c.in-Some-Some.count rest (rest_is_text c.in-Some-Some.before t c.as_str.ensures.valid))
    (ap (option_and_then (λ (i : ℕ). option_map (λ (j : ℕ). first_characters j (without_first i t)) (amount_of c.args.n))) (sym (c.in-Some-Some.ensures ∙ ap before_place (to_z-of_z w64 c.args.place c.ranges.place))) ∙
    ap (option_map (λ (j : ℕ). first_characters j rest)) (sym (c.in-Some-Some.ensures' ∙ ap amount_of (to_z-of_z w64 c.args.n c.ranges.n))))
