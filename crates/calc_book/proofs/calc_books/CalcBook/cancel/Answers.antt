use Rattle.std.proofs.Common.{ap}
use Rattle.async_handles.specs.OpenCalls.{OpenCalls}
use Rattle.calc_book.proofs.SettleLaws.{given-up}
use Rattle.calc_book.proofs.calc_books.CalcBook.cancel.Goals as goal

pub returns : goal.returns
returns c now round s running =
    given-up now round c.args.self.now c.clear.new.self (record { waiting = c.clear-2.new.self; calls = c.cancel_all.new.self }) s running
    (ap (λ (o : OpenCalls). o.calls) c.cancel_all.ensures) (ap (λ (o : OpenCalls). o.session) c.cancel_all.ensures)
