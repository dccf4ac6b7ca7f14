use Rattle.std.proofs.Common.{◌≡◌, ◌-◌, ◌≤◌, true}
use Rattle.functions.specs.Arithmetic.{exact_power}
use Rattle.cell_values.specs.Value.{is_in_magnitude}
use Rattle.functions.proofs.powers.large_power.Given as goal

abbrev pub invariant-loop-factors : goal.invariant-loop-factors
invariant-loop-factors l = record {
  power : l.power ≡ exact_power l.n l.factors;
  within : is_in_magnitude (exact_power l.n l.factors) ≡ true;
  few : l.factors ≤ l.k;
}

abbrev pub decreases-loop-factors : goal.decreases-loop-factors
decreases-loop-factors l = l.k - l.factors
