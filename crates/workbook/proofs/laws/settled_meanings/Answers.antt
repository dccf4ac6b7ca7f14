use Rattle.workbook.proofs.Accepting.{meaning_stays}
use Rattle.workbook.proofs.laws.settled_meanings.Goals as goal

pub returns : goal.returns
returns c = meaning_stays
