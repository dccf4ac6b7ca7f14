use Rattle.workbook.proofs.Keeping.{meaning-kept_clean}
use Rattle.workbook.proofs.laws.kept_meanings.Goals as goal

pub returns : goal.returns
returns c = meaning-kept_clean
