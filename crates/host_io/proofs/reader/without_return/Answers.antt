use Rattle.std.proofs.Common.{arith, sym}
use Rattle.host_io.proofs.LineLaws.{without_return-last, without_return-none}
use Rattle.host_io.proofs.reader.without_return.Goals as goal
use Rattle.host_io.proofs.reader.without_return.Goals.{else-count-gt0-via-then-count-gt0+else-text-count-eq13, else-count-gt0-via-else-count-gt0}

pub returns-then-text-count-eq13 : goal.returns-then-text-count-eq13
returns-then-text-count-eq13 c =
    sym (without_return-last c.args.text.now c.if-count-gt0.true c.if-text-count-eq13.true)

pub returns-else-count-gt0 : goal.returns-else-count-gt0
returns-else-count-gt0 c =
    elim c.else-count-gt0.branch [
      | else-count-gt0-via-then-count-gt0+else-text-count-eq13 w ↦ sym (without_return-none c.args.text.now (λ _. w.if-text-count-eq13.false))
      | else-count-gt0-via-else-count-gt0 w ↦ sym (without_return-none c.args.text.now (λ some. absurd (omega (arith, w.if-count-gt0.false))))
    ]
