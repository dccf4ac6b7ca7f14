use Rattle.std.proofs.Common.{◌∙◌, sym, arith, w64, SFits}
use Rattle.std.proofs.lemmas.Int.{ints, to_z-of_z}
use Rattle.functions.proofs.Division.{rest_of_floor, rest_of_quotient}
use Rattle.functions.proofs.arithmetic.floor_rest.Goals as goal

pub returns-then-is_quotient_rounded_up : goal.returns-then-is_quotient_rounded_up
returns-then-is_quotient_rounded_up c =
    let n : SFits w64 c.args.n = c.ranges.n in
    let k : SFits w64 c.args.k = c.ranges.k in
    let up = simp to_z-of_z at c.is_quotient_rounded_up.ensures in
    let rest = simp to_z-of_z at c.remainder.ensures in
    let left = rest_of_floor c.args.n c.args.k (sym up ∙ c.if-is_quotient_rounded_up.true) in
    grind (arith, ints, left, rest, c.from.ensures)

pub returns-else-is_quotient_rounded_up : goal.returns-else-is_quotient_rounded_up
returns-else-is_quotient_rounded_up c =
    let n : SFits w64 c.args.n = c.ranges.n in
    let k : SFits w64 c.args.k = c.ranges.k in
    let up = simp to_z-of_z at c.is_quotient_rounded_up.ensures in
    let rest = simp to_z-of_z at c.remainder-else-is_quotient_rounded_up.ensures in
    let left = rest_of_quotient c.args.n c.args.k (sym up ∙ c.if-is_quotient_rounded_up.false) in
    omega (arith, ints)
