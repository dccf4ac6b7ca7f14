use Rattle.std.proofs.Common.{◌<◌, ◌^◌, w64, ap, ◌∙◌, pos, arith}
use Rattle.std.proofs.lemmas.Int.{ints, to_z_pos}
use Rattle.cell_values.specs.declared.values.Value.TheVariants as values
use Rattle.functions.proofs.CountLaws.{all_numbers_few}
use Rattle.functions.proofs.counting.count.Goals as goal

pub all_numbers_in-requires : goal.all_numbers_in-requires
all_numbers_in-requires c = all_numbers_few c.args.args.now c.requires

pub overflow_cast-result : goal.overflow_cast-result
overflow_cast-result c =
    let few = all_numbers_few c.args.args.now c.requires in
    let is = c.all_numbers_in.ensures in
    omega (arith, ints)

pub returns : goal.returns
returns c =
    let few = all_numbers_few c.args.args.now c.requires in
    let is = c.all_numbers_in.ensures in
    let fits : c.all_numbers_in.result < 2 ^ 63 = omega arith in
    ap values.Num (to_z_pos w64 c.all_numbers_in.result fits ∙ ap pos is)
