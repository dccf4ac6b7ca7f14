use mir.Syntax.{w128}
use Rattle.std.proofs.Common.{◌≢◌, pos, ◌∙◌, ap, sym, w64, SFits, rules}
use Rattle.std.proofs.lemmas.Int.{to_z-of_z}
use Rattle.cell_values.specs.Value.{within_magnitude}
use Rattle.functions.proofs.Division.{modulus_is}
use Rattle.functions.proofs.arithmetic.floor_modulus.Goals as goal

pub returns-else-k-eq0 : goal.returns-else-k-eq0
returns-else-k-eq0 c =
    let n : SFits w64 c.args.n = c.ranges.n in
    let k : SFits w64 c.args.k = c.ranges.k in
    let other : c.args.k ≢ pos 0 = search rules in
    let rest = simp to_z-of_z at c.floor_rest.ensures in
    let whole : SFits w128 c.floor_rest.result = search rules in
    let inside = simp to_z-of_z at c.number_value.ensures in
    inside ∙ ap within_magnitude rest ∙ sym (modulus_is c.args.n c.args.k other)
