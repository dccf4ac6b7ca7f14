use Rattle.desk_run.proofs.BadWords.{formula_word_is_ascii}
use Rattle.desk_run.proofs.bad_lines.a_formula_word_is_ascii.Goals as goal

pub returns-in_default : goal.returns-in_default
returns-in_default c = formula_word_is_ascii c.args.fault (λ place is. absurd (c.in_default.not-Syntax place is))
