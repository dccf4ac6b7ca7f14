use Rattle.std.proofs.Common.{ap, arith, count_by}
use Rattle.addin_types.specs.TypeText.{is_argument}
use Rattle.addin_types.proofs.TypeLetters.{front_few}
use Rattle.addin_types.proofs.type_reading.kind_in.Goals as goal

pub overflow_cast-result : goal.overflow_cast-result
overflow_cast-result c =
    let few = front_few c.letters_of.result.now in
    let same = ap (count_by is_argument) c.letters_of.ensures in
    omega (arith, few, same, c.requires, c.arguments_before.ensures)
