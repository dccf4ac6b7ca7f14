-- What the outcomes of an evaluation tell.
use Rattle.cell_eval.specs.declared.jobs.Outcome.{Outcome}
use Rattle.cell_eval.specs.declared.jobs.Outcome.TheVariants as outcomes
use Rattle.workbook.specs.Evaluation.{Answer, Val, Asks, Needs}

-- the answer that an outcome tells
abbrev pub outcome_answer : Outcome → Answer
outcome_answer (outcomes.Done v) = Val v
outcome_answer (outcomes.Topic t) = Needs t
outcome_answer (outcomes.Call site name args) = Asks site name args
