use Rattle.session_script.proofs.SaidLines.{line_formed}
use Rattle.session_script.proofs.laws.what_is_read_has_a_line.Goals as goal

pub returns-clause-line : goal.returns-clause-line
returns-clause-line c = line_formed c.reading_gives_what_is_written.ensures
