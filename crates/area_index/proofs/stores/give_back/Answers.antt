use Rattle.area_index.specs.Shapes.{empty}
use Rattle.area_index.specs.Standing.{row_of}
use Rattle.area_index.proofs.FreeNodes.{before_free}
use Rattle.area_index.proofs.stores.give_back.Goals as goal

pub returns-clause-parts : goal.returns-clause-parts
returns-clause-parts c es rest parts = c.link.ensures.turns (row_of es) empty rest (before_free parts)
