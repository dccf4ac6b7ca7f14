use Rattle.std.proofs.lemmas.List.{nil_from_length}
use Rattle.cell_eval.proofs.Ascending.{first_sorted, first_ascends}
use Rattle.cell_eval.proofs.InputLaws.{no_entries}
use Rattle.cell_eval.proofs.orders.is_in_order.Goals as goal

pub returns-in-None-clause-ordered : goal.returns-in-None-clause-ordered
returns-in-None-clause-ordered c = λ yes. no_entries c.args.entries.now (nil_from_length c.args.entries.now c.in-None.ensures.cases)

pub returns-in-Some-clause-ordered : goal.returns-in-Some-clause-ordered
returns-in-Some-clause-ordered c = first_sorted c.args.entries.now c.in-Some.first.now c.in-Some.others.now c.do_ascend.result c.in-Some.ensures.cases.0 c.do_ascend.ensures

pub returns-in-Some-clause-found : goal.returns-in-Some-clause-found
returns-in-Some-clause-found c = first_ascends c.args.entries.now c.in-Some.first.now c.in-Some.others.now c.do_ascend.result c.in-Some.ensures.cases.0 c.do_ascend.ensures
