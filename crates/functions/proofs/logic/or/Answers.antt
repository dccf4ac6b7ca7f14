use Rattle.std.specs.List.{list_any}
use Rattle.std.proofs.Common.{sym, ◌∙◌}
use Rattle.functions.proofs.Judging.{judged_any, judged_none}
use Rattle.functions.specs.Logic.{truths}
use Rattle.functions.proofs.logic.or.Goals as goal

pub returns-in-Ok : goal.returns-in-Ok
returns-in-Ok c = judged_any (truths c.args.args.now) c.in-Ok.seen (sym c.see.ensures ∙ c.in-Ok.is) c.if-seen.true

pub returns-in-Ok-2 : goal.returns-in-Ok-2
returns-in-Ok-2 c = judged_none (λ bs. list_any (λ b. b) bs) (truths c.args.args.now) c.in-Ok.seen (sym c.see.ensures ∙ c.in-Ok.is) c.if-seen.false
