use Rattle.workbook.proofs.Values.{circular_or_valued}
use Rattle.workbook.proofs.laws.nothing_is_asked.Goals as goal

pub returns : goal.returns
returns c = λ setting unregistered book cell. circular_or_valued setting unregistered book cell
