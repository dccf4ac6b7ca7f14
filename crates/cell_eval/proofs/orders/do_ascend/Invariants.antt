use Rattle.std.proofs.Common.{◌≡◌, drop}
use Rattle.cell_eval.specs.Inputs.{ascends_from}
use Rattle.cell_eval.proofs.orders.do_ascend.Given as goal

-- all ascend where those that are still to come ascend from the last one on
abbrev pub invariant-loop-entry : goal.invariant-loop-entry
invariant-loop-entry l = ascends_from l.fn.last l.entries ≡ ascends_from l.last (drop l.entry-index l.entries)
