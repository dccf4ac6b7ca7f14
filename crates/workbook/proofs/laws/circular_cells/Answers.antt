use Rattle.workbook.proofs.Walking.{circular-walks, circular-names}
use Rattle.workbook.proofs.laws.circular_cells.Goals as goal

pub returns : goal.returns
returns c = record {
  walks = λ book ordered cell circular steps. circular-walks book ordered steps cell circular;
  names = circular-names;
}
