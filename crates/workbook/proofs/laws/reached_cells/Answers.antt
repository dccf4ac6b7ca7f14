use Rattle.workbook.proofs.Reaching.{reaches-within}
use Rattle.workbook.proofs.laws.reached_cells.Goals as goal

pub returns : goal.returns
returns c = reaches-within
