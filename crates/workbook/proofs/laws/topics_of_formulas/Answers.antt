use Rattle.workbook.proofs.Agreeing.{cell_listed, read_enough, read_listed}
use Rattle.workbook.proofs.laws.topics_of_formulas.Goals as goal

pub returns : goal.returns
returns c = record {
  listed = λ world snapshot tree topic. read_listed world tree snapshot topic;
  enough = λ world snapshot tree. read_enough world tree snapshot;
  cells = cell_listed;
}
