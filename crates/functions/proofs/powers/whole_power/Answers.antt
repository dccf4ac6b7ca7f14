use Rattle.std.proofs.Common.{◌≡◌, ◌%◌, ℤ, pos, negsuc, false, cond, eqb, sym, ap, ◌∙◌, arith}
use Rattle.std.proofs.lemmas.Bool.Decides.{nat_tests}
use Rattle.std.proofs.lemmas.Int.{ints}
use Rattle.cell_values.specs.Value.{within_magnitude}
use Rattle.functions.specs.Arithmetic.{exact_power}
use Rattle.functions.proofs.PowerLaws.{power_of_one, power_of_minus_one}
use Rattle.functions.proofs.powers.whole_power.Goals as goal

pub returns-in-1 : goal.returns-in-1
returns-in-1 c =
    let one : c.args.n ≡ pos 1 = omega (arith, ints) in
    sym (ap (λ (n : ℤ). within_magnitude (exact_power n c.args.k)) one ∙ ap within_magnitude (power_of_one c.args.k))

pub returns-in-minus1 : goal.returns-in-minus1
returns-in-minus1 c =
    let one : c.args.n ≡ negsuc 0 = omega (arith, ints) in
    let even : c.args.k % 2 ≡ 0 = omega arith in
    sym (ap (λ (n : ℤ). within_magnitude (exact_power n c.args.k)) one
    ∙ ap within_magnitude (power_of_minus_one c.args.k ∙ ap (λ m. cond (eqb m 0) (pos 1) (negsuc 0)) even))

pub returns-in-minus1-2 : goal.returns-in-minus1-2
returns-in-minus1-2 c =
    let one : c.args.n ≡ negsuc 0 = omega (arith, ints) in
    let odd : eqb (c.args.k % 2) 0 ≡ false = grind (arith, nat_tests) in
    sym (ap (λ (n : ℤ). within_magnitude (exact_power n c.args.k)) one
    ∙ ap within_magnitude (power_of_minus_one c.args.k ∙ ap (λ b. cond b (pos 1) (negsuc 0)) odd))
