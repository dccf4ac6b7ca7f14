use Rattle.std.proofs.Common.{nat_lt, List, ℕ, length, Some, None, ap, sym, ◌∙◌, arith}
use Rattle.std.proofs.lemmas.Bool.Decides.{nat_tests}
use Rattle.std.specs.List.{list_any}
use Rattle.std.specs.Str.{chars}
use Rattle.cell_values.specs.declared.topics.Topic.{Topic}
use Rattle.cell_values.specs.Name.{is_name}
use Rattle.cell_eval.specs.Jobs.{world_of, topic_value}
use Rattle.cell_eval.proofs.TopicLaws.{named}
use Rattle.workbook.specs.Evaluation.{LONGEST_STRING}
use Rattle.cell_eval.proofs.topics.named_answer.Goals as goal

pub returns-in-Some : goal.returns-in-Some
unfolding world_of
returns-in-Some c = λ answer.
    let topic : Topic = record { server = c.in-Ok.server; strings = c.in_ok-new.field-0 } in
    named (world_of answer c.args.job.now) c.args.name.now c.args.machine.now c.args.strings.items c.in-Ok.server c.in_ok-new.field-0 (Some c.in-Some.value)
    (grind (arith, nat_tests))
    (ap (list_any (λ (s : List ℕ). nat_lt LONGEST_STRING (length (chars s)))) (sym c.as_slice.ensures.value) ∙ sym c.is_any_too_long.ensures ∙ c.if-is_any_too_long.false)
    (ap is_name (sym c.as_str-2.ensures.text) ∙ c.in-Ok.ensures.ok)
    (c.in-Ok.ensures.name ∙ c.as_str-2.ensures.text)
    c.in_ok-new.ensures
    (ap (λ ts. topic_value ts topic) (sym c.as_slice-2.ensures) ∙ sym c.in_ok-value.ensures ∙ c.in-Some.is)

pub returns-in-None : goal.returns-in-None
unfolding world_of
returns-in-None c = λ answer.
    let topic : Topic = record { server = c.in-Ok.server; strings = c.in_ok-new.field-0 } in
    named (world_of answer c.args.job.now) c.args.name.now c.args.machine.now c.args.strings.items c.in-Ok.server c.in_ok-new.field-0 None
    (grind (arith, nat_tests))
    (ap (list_any (λ (s : List ℕ). nat_lt LONGEST_STRING (length (chars s)))) (sym c.as_slice.ensures.value) ∙ sym c.is_any_too_long.ensures ∙ c.if-is_any_too_long.false)
    (ap is_name (sym c.as_str-2.ensures.text) ∙ c.in-Ok.ensures.ok)
    (c.in-Ok.ensures.name ∙ c.as_str-2.ensures.text)
    c.in_ok-new.ensures
    (ap (λ ts. topic_value ts topic) (sym c.as_slice-2.ensures) ∙ sym c.in_ok-value.ensures ∙ c.in-None.is)
