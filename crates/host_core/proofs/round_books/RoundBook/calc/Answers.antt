use Rattle.std.proofs.Common.{refl}
use Rattle.host_core.proofs.round_books.RoundBook.calc.Goals as goal

pub returns : goal.returns
returns g c = refl
