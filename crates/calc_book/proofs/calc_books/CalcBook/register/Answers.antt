use Rattle.std.proofs.Common.{◌∙◌}
use Rattle.calc_book.proofs.NotingLaws.{registers}
use Rattle.calc_book.proofs.calc_books.CalcBook.register.Goals as goal

pub returns-clause-ok : goal.returns-clause-ok
returns-clause-ok c s rest =
    registers c.args.self.now s c.in_ok-changed.changed c.register.new.self c.as_slice.result.now c.args.name c.args.registration rest
    (c.as_slice.ensures.value ∙ c.in_ok-called.ensures) c.in_ok-changed.ensures c.in_ok-register.ensures.ok
