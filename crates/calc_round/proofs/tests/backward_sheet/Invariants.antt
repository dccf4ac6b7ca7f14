use Rattle.calc_round.specs.Samples.{IsUnevaluated}
use Rattle.calc_round.proofs.tests.backward_sheet.Given as goal

-- nothing is evaluated yet
abbrev pub invariant-loop-row : goal.invariant-loop-row
invariant-loop-row l = IsUnevaluated l.sheet.book.contents l.sheet.store l.sheet.chain
