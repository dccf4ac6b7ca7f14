use Rattle.workbook.proofs.Agreeing.{answer_over, answer_same}
use Rattle.workbook.proofs.laws.answers_of_formulas.Goals as goal

pub returns : goal.returns
returns c = record { known = answer_same; read = answer_over }
