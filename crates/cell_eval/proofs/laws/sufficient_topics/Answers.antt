use Rattle.cell_eval.proofs.Reading.{topics_suffice}
use Rattle.workbook.specs.Reads.{topics_read}
use Rattle.cell_eval.proofs.laws.sufficient_topics.Goals as goal

pub returns : goal.returns
returns c = λ world tree snapshot. (topics_read world snapshot tree, topics_suffice world tree snapshot)
