use Rattle.calc_book.proofs.EditLaws.{removed}
use Rattle.calc_book.proofs.edits.clear_content.Goals as goal

pub returns-clause-chain : goal.returns-clause-chain
returns-clause-chain c = removed _ _ _ c.remove.ensures
