use Rattle.cell_store.proofs.Entries.{equal-alike}
use Rattle.cell_store.proofs.laws.entries_that_look_up_alike_are_equal.Goals as goal

pub returns-clause-sheets : goal.returns-clause-sheets
returns-clause-sheets c = equal-alike

pub returns-clause-values : goal.returns-clause-values
returns-clause-values c = equal-alike
