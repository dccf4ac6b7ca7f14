use Rattle.std.proofs.Common.{arith}
use Rattle.std.proofs.lemmas.Bool.Decides.{nat_tests}
use Rattle.cell_refs.proofs.HandleText.{no_digits}
use Rattle.cell_refs.proofs.handle_reading.own_number.Goals as goal

pub returns-then-is_empty : goal.returns-then-is_empty
returns-then-is_empty c = no_digits c.args.digits.now (grind (arith, nat_tests, c.is_empty.ensures, c.if-is_empty.true))
