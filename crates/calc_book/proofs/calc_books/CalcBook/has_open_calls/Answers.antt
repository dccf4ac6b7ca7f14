use Rattle.calc_book.proofs.AskedCalls.{none-there, some-asked}
use Rattle.calc_book.proofs.calc_books.CalcBook.has_open_calls.Goals as goal

pub returns-clause-none : goal.returns-clause-none
returns-clause-none c = none-there c.args.self.now.work.calls.calls c.first.result _ c.first.ensures.handle c.is_some.ensures

pub returns-clause-asked : goal.returns-clause-asked
returns-clause-asked c terms now round s same settled =
    some-asked terms now round c.args.self.now s same settled c.first.ensures.are_open c.first.result _ c.first.ensures.handle c.is_some.ensures
