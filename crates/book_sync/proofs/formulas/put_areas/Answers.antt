use Rattle.std.proofs.Common.{◌∙◌}
use Rattle.book_sync.proofs.Entries.{areas-removed, others-removed}
use Rattle.book_sync.proofs.Marking.{areas-constant}
use Rattle.book_sync.proofs.formulas.put_areas.Goals as goal

pub returns-in-None-clause-areas : goal.returns-in-None-clause-areas
returns-in-None-clause-areas c = areas-removed _ _ _ c.remove.ensures.ordered.0 c.remove.ensures.removed ∙ areas-constant _ _ c.in-None.ensures

pub returns-in-None-clause-others : goal.returns-in-None-clause-others
returns-in-None-clause-others c = others-removed _ _ _ c.remove.ensures.ordered.0 c.remove.ensures.removed
