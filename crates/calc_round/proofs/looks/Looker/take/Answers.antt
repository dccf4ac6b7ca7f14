use Rattle.std.proofs.Common.{rules, ◌∙◌}
use Rattle.calc_round.proofs.Jobs.{names-unknown}
use Rattle.calc_round.proofs.looks.Looker.take.Goals as goal

pub returns-in-None-clause-job : goal.returns-in-None-clause-job
returns-in-None-clause-job g c =
    names-unknown c.args.self.now.book.now.contents c.args.store.now c.args.cell c.in-Some-Formula.tree c.deref.result.now (search rules)
    (c.deref.ensures.value ∙ c.in_ok-areas.ensures.areas) (rw c.in-None.is at c.in_ok-gather.ensures)
