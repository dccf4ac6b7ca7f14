use Rattle.calc_book.specs.Samples.{Stands}
use Rattle.calc_book.proofs.tests.assert_steps.Given as goal

-- the book is at rest
abbrev pub invariant-loop-after : goal.invariant-loop-after
invariant-loop-after g l = Stands l.desk.book l.desk.log l.desk.left l.desk.feed.value l.desk.feed.readings.items
