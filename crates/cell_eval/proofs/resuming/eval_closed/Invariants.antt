use Rattle.cell_eval.proofs.Growing.{HasGrown, left_count}
use Rattle.cell_eval.proofs.resuming.eval_closed.Given as goal

-- the job differs from the given one by topics of the value alone
abbrev pub invariant-topics : goal.invariant-topics
invariant-topics g l = HasGrown g.F.AddIns.answer l.fn.job l.value l.job

-- how many of the topics that the formula reads the job doesn't know
abbrev pub decreases-topics : goal.decreases-topics
decreases-topics g l = left_count g.F.AddIns.answer l.fn.job l.value l.job.topics
