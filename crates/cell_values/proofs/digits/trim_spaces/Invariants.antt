use Rattle.std.proofs.Common.{◌≡◌, length, reverse}
use Rattle.cell_values.specs.Digits.{after_spaces, without_outer_spaces}
use Rattle.cell_values.proofs.digits.trim_spaces.Given as goal

abbrev pub invariant-loop-rest : goal.invariant-loop-rest
invariant-loop-rest l = reverse (after_spaces (reverse l.rest)) ≡ without_outer_spaces l.fn.bytes

abbrev pub decreases-loop-rest : goal.decreases-loop-rest
decreases-loop-rest l = length l.rest
