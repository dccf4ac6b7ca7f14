use Rattle.std.proofs.Common.{subst, sym}
use Rattle.stale_marks.specs.Spreading.{HasSpreadInPart}
use Rattle.stale_marks.proofs.WalkLaws.{end-all, marked-all, taken-back}
use Rattle.stale_marks.proofs.spreading.spread.Goals as goal

pub returns-then-contains-clause-all : goal.returns-then-contains-clause-all
returns-then-contains-clause-all c closed = marked-all c.args.table.now c.args.origin c.args.marks.now.keys (sym c.if-contains.ensures) closed

pub returns-in-Ok-clause-all : goal.returns-in-Ok-clause-all
returns-in-Ok-clause-all c closed = end-all c.args.table.now c.args.origin c.args.marks.now.keys _ _ c.in-Ok.ensures.spread c.in-Ok.ensures.begun c.in-Ok.ensures.walked closed

pub returns-clause-refused : goal.returns-clause-refused
returns-clause-refused c =
    taken-back c.args.marks.now c.walk.new.marks c.take_back.new.marks c.as_slice.result.now c.requires c.take_back.ensures.ordered
    (subst (λ xs. HasSpreadInPart c.args.marks.now.keys c.walk.new.marks.keys xs) (sym c.as_slice.ensures.value) c.in-Err.ensures.spread)
    c.take_back.ensures.left c.take_back.ensures.kept
