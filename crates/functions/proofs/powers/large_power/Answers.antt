use Rattle.std.proofs.Common.{suc, ◌-◌, ◌*ℤ◌, sym, ap, ◌∙◌, rules, arith, w64}
use mir.Syntax.{w128}
use mir.Val.{SFits}
use Rattle.std.proofs.lemmas.Int.{to_z-of_z}
use Rattle.cell_values.specs.Value.{is_in_magnitude}
use Rattle.functions.proofs.PowerLaws.{power_beyond}
use Rattle.functions.proofs.powers.large_power.Goals as goal

pub returns-then-not-is_in_magnitude : goal.returns-then-not-is_in_magnitude
returns-then-not-is_in_magnitude c =
    let n = c.args.n in
    let i = c.loop-factors.factors in
    let fits_n : SFits w64 c.args.n = c.ranges.n in
    let fits_power : SFits w64 c.loop-factors.power = search rules in
    let fits_next : SFits w128 c.exact_product-next.result = search rules in
    let next = simp to_z-of_z at c.exact_product-next.ensures in
    let kept = simp to_z-of_z at c.loop-factors.invariant.power in
    let tested = simp to_z-of_z at c.is_in_magnitude.ensures in
    power_beyond n (suc i) (c.args.k - suc i) c.args.k (omega arith) (omega arith)
    (ap (λ k. is_in_magnitude k) (sym (next ∙ ap (λ p. n *ℤ p) kept)) ∙ sym tested ∙ c.if-not-is_in_magnitude.true)
