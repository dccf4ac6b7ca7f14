use Rattle.formula_parse.proofs.Causes.{one_formula, formula_is_formed}
use Rattle.formula_parse.proofs.laws.a_text_has_one_tree.Goals as goal

pub returns : goal.returns
returns c = λ text a b x y. (one_formula text a b (formula_is_formed text a x).0 (formula_is_formed text b y).0).1
