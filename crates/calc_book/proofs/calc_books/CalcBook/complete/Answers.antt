use Rattle.std.proofs.Common.{refl, subst, ◌∙◌}
use Rattle.calc_book.proofs.Readings.{readers-noted}
use Rattle.calc_book.proofs.SettleLaws.{completed, marks-counted}
use Rattle.calc_round.specs.Readings.{ReadsFollow}
use Rattle.calc_book.proofs.calc_books.CalcBook.complete.Goals as goal

pub returns-clause-count : goal.returns-clause-count
returns-clause-count c now round s running =
    c.count-count.ensures.count ∙ marks-counted c.args.self.now.marks s.book s.changed c.count-count.ensures.ordered running.holds.ordered running.marked

pub returns-clause-rest : goal.returns-clause-rest
returns-clause-rest c now round s settled none =
    completed now round c.args.self.now _ s settled none refl refl refl refl c.complete.ensures.shown c.complete.ensures.present c.clear-2.ensures.empty

pub returns-clause-read : goal.returns-clause-read
returns-clause-read c now round s source settled none reads =
    readers-noted now source s.book settled.running.holds.ordered c.args.self.now.store c.args.self.now.work.calls.calls none settled.worked
    (subst (λ book. ReadsFollow now source book c.args.self.now.store) settled.running.holds.book reads)
