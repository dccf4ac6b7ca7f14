use Rattle.std.proofs.Common.{[], ◌∷◌, ◌++◌, refl, sym, ap, ◌∙◌}
use Rattle.cell_eval.specs.declared.jobs.Job.{Job}
use Rattle.cell_eval.specs.Outcomes.{outcome_answer}
use Rattle.cell_eval.proofs.Growing.{grown_first, grown_more, next_needed, left_fewer, ends_closed, told_other}
use Rattle.cell_eval.proofs.resuming.eval_closed.Goals as goal

pub topics-init : goal.topics-init
topics-init g c = grown_first g.F.AddIns.answer c.args.job.now _ c.args.value.now refl

pub topics-preserved : goal.topics-preserved
topics-preserved g c =
    grown_more g.F.AddIns.answer c.args.job.now c.topics.job _ c.args.value.now c.in-Topic.topic c.topics.invariant
    (next_needed g.F.AddIns.answer c.args.job.now c.topics.job c.args.value.now c.in-Topic.topic c.topics.invariant (sym (ap outcome_answer c.in-Topic.is) ∙ c.in_ok-outcome.ensures))
    (ap (λ topics. record c.topics.job { topics = topics }) (c.in_ok-push-in-Topic.ensures ∙ ap (λ v. c.topics.job.topics ++ (c.in-Topic.topic, v) ∷ []) c.in_ok-copy-in-Topic.ensures))

pub topics-smaller : goal.topics-smaller
topics-smaller g c =
    left_fewer g.F.AddIns.answer c.args.job.now c.topics.job _ c.args.value.now c.in-Topic.topic c.topics.invariant
    (sym (ap outcome_answer c.in-Topic.is) ∙ c.in_ok-outcome.ensures)
    (ap (λ topics. record c.topics.job { topics = topics }) (c.in_ok-push-in-Topic.ensures ∙ ap (λ v. c.topics.job.topics ++ (c.in-Topic.topic, v) ∷ []) c.in_ok-copy-in-Topic.ensures))

pub returns-in_default : goal.returns-in_default
returns-in_default g c = record {
  closed = ends_closed g.F.AddIns.answer c.args.job.now c.topics.job c.args.value.now (outcome_answer c.in_ok-outcome.outcome) c.topics.invariant c.in_ok-outcome.ensures (told_other c.in_ok-outcome.outcome c.in_default.not-Topic);
  ended = c.in_default.not-Topic;
  known = c.in_ok-outcome.ensures;
  round = ap (λ (job : Job). job.round) c.topics.invariant.grown;
  grown = (c.topics.invariant.added, (c.topics.invariant.needed, c.topics.invariant.grown));
}
