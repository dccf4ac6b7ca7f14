use Rattle.std.proofs.Common.{drop, arith, sym, ap, ◌∙◌}
use Rattle.std.proofs.lemmas.List.{drop_all}
use Rattle.cell_eval.specs.Inputs.{ascends_from}
use Rattle.cell_eval.proofs.Ascending.{ascends_step}
use Rattle.cell_eval.proofs.orders.do_ascend.Goals as goal

pub loop-entry-preserved : goal.loop-entry-preserved
loop-entry-preserved c = c.loop-entry.invariant ∙ ascends_step c.args.entries.now c.loop-entry.entry-index c.loop-entry.last c.entry-item.result _ (omega arith) c.entry-item.is (sym c.lt.ensures ∙ c.if-lt.true)

pub returns-else-lt : goal.returns-else-lt
returns-else-lt c = sym (c.loop-entry.invariant ∙ ascends_step c.args.entries.now c.loop-entry.entry-index c.loop-entry.last c.entry-item.result _ (omega arith) c.entry-item.is (sym c.lt.ensures ∙ c.if-lt.false))
