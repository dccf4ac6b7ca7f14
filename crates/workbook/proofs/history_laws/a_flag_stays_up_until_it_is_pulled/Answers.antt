use Rattle.workbook.proofs.Flags.{flags_told, known_once}
use Rattle.workbook.proofs.history_laws.a_flag_stays_up_until_it_is_pulled.Goals as goal

pub returns : goal.returns
returns c = record { once = known_once; flag = flags_told }
