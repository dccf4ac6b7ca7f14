use Rattle.std.proofs.Common.{◌-◌, length}
use Rattle.formula_parse.specs.Tree.{calls_of}
use Rattle.calc_round.proofs.TopicsRead.{HasRead}
use Rattle.calc_round.proofs.valuing.answer_of_job.Given as goal

-- the job knows the first of the topics that its formula reads, and these were noted
abbrev pub invariant-topics : goal.invariant-topics
invariant-topics g l = HasRead g.F.AddIns.answer l.fn.job (g.T.TopicSource.state l.fn.topics) (g.T.TopicSource.state l.topics) l.job

-- a formula has no more topics than calls
abbrev pub decreases-topics : goal.decreases-topics
decreases-topics g l = length (calls_of l.fn.job.tree) - length l.job.topics
