use Rattle.std.proofs.Common.{ap, ◌∙◌, Some}
use Rattle.book_sync.proofs.Entries.{areas-put, others-put}
use Rattle.book_sync.proofs.formulas.put_named.Goals as goal

pub returns-clause-areas : goal.returns-clause-areas
returns-clause-areas c = areas-put _ _ _ _ c.in-Ok.ensures.ok ∙ ap Some c.in_ok-areas.ensures.areas

pub returns-clause-others : goal.returns-clause-others
returns-clause-others c = others-put _ _ _ _ c.in-Ok.ensures.ok
