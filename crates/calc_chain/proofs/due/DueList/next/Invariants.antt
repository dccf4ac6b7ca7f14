use Rattle.std.proofs.Common.{◌≡◌, ◌-◌, length}
use Rattle.calc_chain.specs.Due.{due_of}
use Rattle.calc_chain.proofs.due.DueList.next.Given as goal

-- what was passed wasn't due
abbrev pub invariant-passed : goal.invariant-passed
invariant-passed l = record {
  due : due_of l.self ≡ due_of l.fn.self;
  numbers : l.self.numbers ≡ l.fn.self.numbers;
  flags : l.self.flags ≡ l.fn.self.flags;
}

abbrev pub decreases-passed : goal.decreases-passed
decreases-passed l = length l.self.numbers.items - l.self.taken
