use Rattle.std.proofs.Common.{refl}
use Rattle.calc_book.specs.CalcState.{first_calc}
use Rattle.calc_book.proofs.tests.new_book.Goals as goal

pub register_both-requires : goal.register_both-requires
register_both-requires c = record { state = first_calc 7; rest = c.new-book.ensures; setting = λ setting. refl; completed = λ setting. refl }
