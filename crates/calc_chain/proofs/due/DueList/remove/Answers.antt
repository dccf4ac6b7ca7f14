use Rattle.std.proofs.Common.{drop, arith}
use Rattle.calc_chain.proofs.DueLaws.{due-removed, due-strange}
use Rattle.calc_chain.proofs.due.DueList.remove.Goals as goal

pub returns-then-place-len-clause-due : goal.returns-then-place-len-clause-due
returns-then-place-len-clause-due c = due-removed c.args.self.now.flags.items c.args.x (drop c.args.self.now.taken c.args.self.now.numbers.items) (let len = c.len.ensures in let below = c.if-place-len.true in omega (arith, len, below))

pub returns-else-place-len-clause-due : goal.returns-else-place-len-clause-due
returns-else-place-len-clause-due c = due-strange c.args.self.now.flags.items c.args.x (drop c.args.self.now.taken c.args.self.now.numbers.items) (let len = c.len.ensures in let past = c.if-place-len.false in omega (arith, len, past))
