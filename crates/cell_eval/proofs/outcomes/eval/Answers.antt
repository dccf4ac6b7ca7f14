use Rattle.std.proofs.Common.{sym, ap, subst, ◌∙◌, arith}
use Rattle.formula_parse.specs.declared.nodes.Node.{Node}
use Rattle.formula_parse.specs.Tree.{IsTree}
use Rattle.formula_parse.proofs.PublicLaws.{named_small, sites_fit}
use Rattle.workbook.specs.Evaluation.{Val, final_answer}
use Rattle.cell_eval.specs.Jobs.{world_of}
use Rattle.cell_eval.specs.Steps.{Halts, NamesSmallAreas, answer_at}
use Rattle.cell_eval.proofs.outcomes.eval.Goals as goal

pub returns-in-Ok : goal.returns-in-Ok
unfolding answer_at
returns-in-Ok g c =
    let at = λ (node : Node). answer_at (world_of g.F.AddIns.answer c.args.job.now) node 0 in
    ap Val c.or_zero.ensures ∙ sym (ap final_answer (ap at (sym c.root.ensures.value) ∙ c.in-Ok.ensures.value))

pub returns-in-Err-Topic : goal.returns-in-Err-Topic
unfolding answer_at
returns-in-Err-Topic g c =
    let at = λ (node : Node). answer_at (world_of g.F.AddIns.answer c.args.job.now) node 0 in
    sym (ap final_answer (ap at (sym c.root.ensures.value) ∙ subst (Halts (at c.root.result.now)) c.in-Err-Topic.field-0-is c.in-Err-Topic.ensures.value))

pub returns-in-Err-Call : goal.returns-in-Err-Call
unfolding answer_at
returns-in-Err-Call g c =
    let at = λ (node : Node). answer_at (world_of g.F.AddIns.answer c.args.job.now) node 0 in
    sym (ap final_answer (ap at (sym c.root.ensures.value) ∙ subst (Halts (at c.root.result.now)) c.in-Err-Call.field-0-is c.in-Err-Call.ensures.value))

pub part-requires-clause-small : goal.part-requires-clause-small
unfolding NamesSmallAreas
part-requires-clause-small g c = named_small c.root.result.now c.args.job.now.cell.sheet (subst IsTree (sym c.root.ensures.value) c.root.ensures.tree)

pub part-requires-clause-fits : goal.part-requires-clause-fits
part-requires-clause-fits g c = omega (arith, sites_fit c.root.result.now (subst IsTree (sym c.root.ensures.value) c.root.ensures.tree))
