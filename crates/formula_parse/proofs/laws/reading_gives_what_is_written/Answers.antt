use Rattle.formula_parse.proofs.Causes.{formula_back, formula_forth}
use Rattle.formula_parse.proofs.laws.reading_gives_what_is_written.Goals as goal

pub returns : goal.returns
returns c = λ text tree. (formula_back text tree, formula_forth text tree)
