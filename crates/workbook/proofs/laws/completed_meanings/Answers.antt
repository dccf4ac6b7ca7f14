use Rattle.workbook.proofs.Completing.{all_valued}
use Rattle.workbook.proofs.laws.completed_meanings.Goals as goal

pub returns : goal.returns
returns c = all_valued
