use Rattle.std.proofs.Common.{◌≡◌, List, ◌∷◌, map, ap, sym, ◌∙◌}
use Rattle.cell_values.specs.declared.values.Value.{Value}
use Rattle.cell_values.specs.Coercion.{text_of}
use Rattle.functions.specs.Inputs.{all_ok}
use Rattle.workbook.specs.Evaluation.{topic_answer}
use Rattle.cell_eval.specs.Jobs.{world_of}
use Rattle.cell_eval.proofs.Halting.{ComesTo-same}
use Rattle.cell_eval.proofs.TopicLaws.{all_three}
use Rattle.cell_eval.proofs.topics.topic_answer.Goals as goal

pub returns-in-Ok-Ok-Ok : goal.returns-in-Ok-Ok-Ok
returns-in-Ok-Ok-Ok c = λ answer.
    let name = c.in-Some.name.now in
    let machine = c.in-Some-split_first.machine.now in
    let strings = c.in-Some-split_first.strings.now in
    let whole : c.args.values.now ≡ name ∷ machine ∷ strings = c.in-Some.ensures.cases.0 ∙ ap (λ (vs : List Value). name ∷ vs) c.in-Some-split_first.ensures.cases.0 in
    let texts = all_three (text_of name) (text_of machine) (map text_of strings) c.in-Ok-Ok-Ok.name c.in-Ok-Ok-Ok.machine c.in-Ok-Ok-Ok.strings.items
    (sym c.in_ok-to_text.ensures ∙ c.in-Ok-Ok-Ok.is-0) (sym c.in_ok-to_text-2.ensures ∙ c.in-Ok-Ok-Ok.is-1) (rw c.in-Ok-Ok-Ok.is-2 at c.in_ok-texts_of.ensures) in
    ComesTo-same _ _ c.named_answer.result
    (ap (topic_answer (world_of answer c.args.job.now)) (ap (λ vs. all_ok (map text_of vs)) whole ∙ texts))
    (c.named_answer.ensures answer)
