use Rattle.std.proofs.Common.{◌≡◌, IfOk, subst}
use Rattle.calc_book.proofs.AskedCalls.{open-asked}
use Rattle.calc_book.proofs.calc_books.CalcBook.calls.Goals as goal

pub returns-clause-asked : goal.returns-clause-asked
returns-clause-asked c terms now round s same settled =
    subst (λ wanted. IfOk c.list.result (λ calls. calls.items ≡ wanted)) (open-asked terms now round c.args.self.now s same settled c.list.ensures.are_open) c.list.ensures.calls
