use Rattle.session_script.proofs.LinesAgain.{line_again}
use Rattle.session_script.proofs.laws.a_written_line_reads_back.Goals as goal

pub returns : goal.returns
returns c = line_again c.reading_gives_what_is_written.ensures c.what_is_printed_reads_back.ensures
