use Rattle.workbook.proofs.Handles.{refused_idle, refused_other, written_once}
use Rattle.workbook.proofs.history_laws.a_handle_writes_at_most_once.Goals as goal

pub returns : goal.returns
returns c = record { once = written_once; idle = refused_idle; round = refused_other }
