use Rattle.workbook.proofs.Meanings.{shows_circle, meaning-unfolds}
use Rattle.workbook.proofs.laws.meanings_of_formulas.Goals as goal

pub returns : goal.returns
returns c = record {
  circular = shows_circle;
  content = λ setting book ordered cell h. meaning-unfolds setting book ordered cell h;
}
