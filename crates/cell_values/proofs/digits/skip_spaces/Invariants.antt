use Rattle.std.proofs.Common.{◌≡◌, length}
use Rattle.cell_values.specs.Digits.{after_spaces}
use Rattle.cell_values.proofs.digits.skip_spaces.Given as goal

abbrev pub invariant-loop-rest : goal.invariant-loop-rest
invariant-loop-rest l = after_spaces l.rest ≡ after_spaces l.fn.bytes

abbrev pub decreases-loop-rest : goal.decreases-loop-rest
decreases-loop-rest l = length l.rest
