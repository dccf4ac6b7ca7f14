use Rattle.desk_run.proofs.BadWords.{bad_word_is_ascii}
use Rattle.desk_run.proofs.bad_lines.a_word_is_ascii.Goals as goal

pub returns-in_default : goal.returns-in_default
returns-in_default c = bad_word_is_ascii c.args.fault (λ inner is. absurd (c.in_default.not-Formula inner is)) (λ inner is. absurd (c.in_default.not-Type inner is))
