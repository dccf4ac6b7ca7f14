use Rattle.std.proofs.Common.{◌++◌, ◌∷◌, [], refl, sym, ap, ◌∙◌}
use Rattle.cell_eval.specs.Outcomes.{outcome_answer}
use Rattle.calc_round.proofs.TopicsRead.{fewer-left, notes-kept, read-all, read-more, read-none, read-some, read-value}
use Rattle.calc_round.proofs.valuing.answer_of_job.Goals as goal

pub topics-init : goal.topics-init
topics-init g c = read-none g.F.AddIns.answer c.args.job (g.T.TopicSource.state c.args.topics.now) _ refl c.requires

pub topics-preserved : goal.topics-preserved
topics-preserved g c =
    read-more g.F.AddIns.answer c.args.job (g.T.TopicSource.state c.args.topics.now) (g.T.TopicSource.state c.topics.topics) c.topics.job c.topics.invariant
    (g.T.TopicSource.state c.read.new.self) _ c.in-Topic.topic c.in_ok-value-in-Topic.value (sym (ap outcome_answer c.in-Topic.is) ∙ c.in_ok-value.ensures)
    c.read.ensures.values c.in_ok-value-in-Topic.ensures.noted c.in_ok-value-in-Topic.ensures.value
    (ap (λ topics. record c.topics.job { topics = topics }) c.in_ok-push-in-Topic.ensures)

pub topics-smaller : goal.topics-smaller
topics-smaller g c =
    fewer-left g.F.AddIns.answer c.args.job (g.T.TopicSource.state c.args.topics.now) (g.T.TopicSource.state c.topics.topics) c.topics.job c.topics.invariant _ c.in-Topic.topic _
    (sym (ap outcome_answer c.in-Topic.is) ∙ c.in_ok-value.ensures)
    (ap (λ topics. record c.topics.job { topics = topics }) c.in_ok-push-in-Topic.ensures)

pub returns-in-Done-clause-answer : goal.returns-in-Done-clause-answer
returns-in-Done-clause-answer g c =
    read-value g.F.AddIns.answer c.args.job (g.T.TopicSource.state c.args.topics.now) (g.T.TopicSource.state c.topics.topics) c.topics.job c.topics.invariant _
    (sym (ap outcome_answer c.in-Done.is) ∙ c.in_ok-value.ensures) refl

pub returns-in-Done-clause-noted : goal.returns-in-Done-clause-noted
returns-in-Done-clause-noted g c =
    read-all g.F.AddIns.answer c.args.job (g.T.TopicSource.state c.args.topics.now) (g.T.TopicSource.state c.topics.topics) c.topics.job c.topics.invariant _
    (sym (ap outcome_answer c.in-Done.is) ∙ c.in_ok-value.ensures) refl

pub returns-in-Done-clause-some : goal.returns-in-Done-clause-some
returns-in-Done-clause-some g c = read-some g.F.AddIns.answer c.args.job (g.T.TopicSource.state c.args.topics.now) (g.T.TopicSource.state c.topics.topics) c.topics.job c.topics.invariant

pub returns-in-Call-clause-answer : goal.returns-in-Call-clause-answer
returns-in-Call-clause-answer g c =
    read-value g.F.AddIns.answer c.args.job (g.T.TopicSource.state c.args.topics.now) (g.T.TopicSource.state c.topics.topics) c.topics.job c.topics.invariant _
    (sym (ap outcome_answer c.in-Call.is) ∙ c.in_ok-value.ensures) refl

pub returns-in-Call-clause-noted : goal.returns-in-Call-clause-noted
returns-in-Call-clause-noted g c =
    read-all g.F.AddIns.answer c.args.job (g.T.TopicSource.state c.args.topics.now) (g.T.TopicSource.state c.topics.topics) c.topics.job c.topics.invariant _
    (sym (ap outcome_answer c.in-Call.is) ∙ c.in_ok-value.ensures) refl

pub returns-in-Call-clause-some : goal.returns-in-Call-clause-some
returns-in-Call-clause-some g c = read-some g.F.AddIns.answer c.args.job (g.T.TopicSource.state c.args.topics.now) (g.T.TopicSource.state c.topics.topics) c.topics.job c.topics.invariant

pub returns-in_err-value-clause-some : goal.returns-in_err-value-clause-some
returns-in_err-value-clause-some g c = read-some g.F.AddIns.answer c.args.job (g.T.TopicSource.state c.args.topics.now) (g.T.TopicSource.state c.topics.topics) c.topics.job c.topics.invariant

pub returns-in_err-value-in-Topic-clause-some : goal.returns-in_err-value-in-Topic-clause-some
returns-in_err-value-in-Topic-clause-some g c =
    notes-kept (g.T.TopicSource.state c.args.topics.now) (g.T.TopicSource.state c.topics.topics) (g.T.TopicSource.state c.read.new.self) c.args.job.cell _
    (read-some g.F.AddIns.answer c.args.job (g.T.TopicSource.state c.args.topics.now) (g.T.TopicSource.state c.topics.topics) c.topics.job c.topics.invariant)
    c.in_err-value-in-Topic.ensures.refused

pub returns-in_err-push-in-Topic-clause-some : goal.returns-in_err-push-in-Topic-clause-some
returns-in_err-push-in-Topic-clause-some g c =
    let more = read-more g.F.AddIns.answer c.args.job (g.T.TopicSource.state c.args.topics.now) (g.T.TopicSource.state c.topics.topics) c.topics.job c.topics.invariant
    (g.T.TopicSource.state c.read.new.self) (record c.topics.job { topics = c.topics.job.topics ++ (c.in-Topic.topic, c.in_ok-value-in-Topic.value) ∷ [] })
    c.in-Topic.topic c.in_ok-value-in-Topic.value (sym (ap outcome_answer c.in-Topic.is) ∙ c.in_ok-value.ensures)
    c.read.ensures.values c.in_ok-value-in-Topic.ensures.noted c.in_ok-value-in-Topic.ensures.value refl in
    read-some g.F.AddIns.answer c.args.job (g.T.TopicSource.state c.args.topics.now) (g.T.TopicSource.state c.read.new.self) _ more
