use Rattle.std.proofs.Common.{arith}
use Rattle.std.proofs.lemmas.Grind.{common_steps}
use Rattle.functions.proofs.Gathers.{folded-append, folded-append_err}
use Rattle.functions.proofs.logic.see.Goals as goal

pub returns-in_err-seen-in-Cells : goal.returns-in_err-seen-in-Cells
returns-in_err-seen-in-Cells c = grind (arith, common_steps, folded-append_err)

pub loop-left-preserved : goal.loop-left-preserved
loop-left-preserved c = grind (arith, common_steps, folded-append)
