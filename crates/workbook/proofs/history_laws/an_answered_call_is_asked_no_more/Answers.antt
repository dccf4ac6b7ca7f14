use Rattle.workbook.proofs.OpenCalls.{asked_no_more}
use Rattle.workbook.proofs.history_laws.an_answered_call_is_asked_no_more.Goals as goal

pub returns : goal.returns
returns c = asked_no_more
