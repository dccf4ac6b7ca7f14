use Rattle.std.proofs.Common.{sym, ◌∙◌}
use Rattle.calc_book.proofs.AskedCalls.{its-live, live-asked}
use Rattle.calc_book.proofs.calc_books.CalcBook.is_open.Goals as goal

pub returns-in-Some-clause-live : goal.returns-in-Some-clause-live
returns-in-Some-clause-live c =
    c.eq.ensures ∙ sym (its-live c.args.self.now.work.calls.calls c.args.handle.now c.in-Some.ensures.are_open.order _ c.in-Some.ensures.handle)

pub returns-in-Some-clause-asked : goal.returns-in-Some-clause-asked
returns-in-Some-clause-asked c terms now round s same settled =
    c.eq.ensures ∙ sym (its-live c.args.self.now.work.calls.calls c.args.handle.now c.in-Some.ensures.are_open.order _ c.in-Some.ensures.handle)
    ∙ live-asked terms now round c.args.self.now s same settled c.in-Some.ensures.are_open c.args.handle.now

pub returns-in-None-clause-live : goal.returns-in-None-clause-live
returns-in-None-clause-live c =
    sym (its-live c.args.self.now.work.calls.calls c.args.handle.now c.in-None.ensures.are_open.order _ c.in-None.ensures.handle)

pub returns-in-None-clause-asked : goal.returns-in-None-clause-asked
returns-in-None-clause-asked c terms now round s same settled =
    sym (its-live c.args.self.now.work.calls.calls c.args.handle.now c.in-None.ensures.are_open.order _ c.in-None.ensures.handle)
    ∙ live-asked terms now round c.args.self.now s same settled c.in-None.ensures.are_open c.args.handle.now
