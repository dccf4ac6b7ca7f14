use Rattle.std.proofs.Common.{ap, sym, ◌∙◌}
use Rattle.workbook.specs.Evaluation.{Val, Asks, kind_answer, accepted_answer}
use Rattle.cell_eval.specs.Jobs.{world_of, result_at}
use Rattle.cell_eval.proofs.added.added_answer.Goals as goal

pub returns-in_ok-call-in-Plain : goal.returns-in_ok-call-in-Plain
unfolding world_of
returns-in_ok-call-in-Plain g c =
    ap (λ k. kind_answer (world_of g.F.AddIns.answer c.args.job.now) k c.args.site c.args.name.now c.args.values.items) c.in-Plain.is
    ∙ ap (λ vs. Val (g.F.AddIns.answer c.args.name.now vs)) (sym c.as_slice.ensures.value)
    ∙ ap Val (sym c.in_ok-call-in-Plain.ensures)

pub returns-in-Some : goal.returns-in-Some
unfolding world_of
returns-in-Some g c =
    ap (λ k. kind_answer (world_of g.F.AddIns.answer c.args.job.now) k c.args.site c.args.name.now c.args.values.items) c.in-Asynchronous.is
    ∙ ap (accepted_answer c.args.site c.args.name.now c.args.values.items)
    (ap (λ rs. result_at rs c.args.site) (sym c.as_slice-in-Asynchronous.ensures) ∙ sym c.in_ok-value-in-Asynchronous.ensures ∙ c.in-Some.is)

pub returns-in_ok-copy-in-None : goal.returns-in_ok-copy-in-None
unfolding world_of
returns-in_ok-copy-in-None g c =
    ap (λ k. kind_answer (world_of g.F.AddIns.answer c.args.job.now) k c.args.site c.args.name.now c.args.values.items) c.in-Asynchronous.is
    ∙ ap (accepted_answer c.args.site c.args.name.now c.args.values.items)
    (ap (λ rs. result_at rs c.args.site) (sym c.as_slice-in-Asynchronous.ensures) ∙ sym c.in_ok-value-in-Asynchronous.ensures ∙ c.in-None.is)
    ∙ ap (λ n. Asks c.args.site n c.args.values.items) (sym c.in_ok-copy-in-None.ensures)
    ∙ ap (Asks c.args.site c.in_ok-copy-in-None.field-0) (sym c.new.ensures)
