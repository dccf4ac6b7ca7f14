use Rattle.calc_book.proofs.EditLaws.{removed-unwanted}
use Rattle.calc_book.proofs.edits.keep.Goals as goal

pub returns-then-not-wanted : goal.returns-then-not-wanted
returns-then-not-wanted c = removed-unwanted _ _ _ _ c.if-not-wanted.true c.remove.ensures
