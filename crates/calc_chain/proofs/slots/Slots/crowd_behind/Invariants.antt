use Rattle.std.proofs.Common.{◌-◌, ◌≡◌, false}
use Rattle.calc_chain.specs.Chain.{has}
use Rattle.calc_chain.specs.declared.slots.TheConstants.{END}
use Rattle.calc_chain.specs.Linking.{after_of, nth, walk}
use Rattle.calc_chain.proofs.slots.Slots.crowd_behind.Given as goal

-- so many entries were passed, and what comes next is looked at
abbrev pub invariant-entries : goal.invariant-entries
invariant-entries l = record {
  next : l.next ≡ nth (after_of l.self) l.count (after_of l.self l.y);
  passed : has (walk (after_of l.self) l.count (after_of l.self l.y)) END ≡ false;
}

abbrev pub decreases-entries : goal.decreases-entries
decreases-entries l = END - l.count
