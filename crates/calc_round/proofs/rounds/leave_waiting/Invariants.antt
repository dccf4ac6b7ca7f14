use Rattle.std.proofs.Common.{◌≡◌, ◌≤◌, ◌++◌, length, vec_capacity}
use Rattle.calc_round.proofs.rounds.leave_waiting.Given as goal

-- the cells that wait and those that are due are the same together
abbrev pub invariant-rest : goal.invariant-rest
invariant-rest g l = record {
  cells : l.waiting.items ++ l.chain.due ≡ l.fn.waiting.items ++ l.fn.chain.due;
  entries : l.chain.entries ≡ l.fn.chain.entries;
  room : vec_capacity l.fn.waiting ≤ vec_capacity l.waiting;
}

abbrev pub decreases-rest : goal.decreases-rest
decreases-rest g l = length l.chain.due
