use Rattle.std.proofs.Common.{◌-◌, ◌≡◌, ◌≤◌}
use Rattle.calc_chain.specs.declared.slots.TheConstants.{END}
use Rattle.calc_chain.specs.Linking.{after_of, nth, walk}
use Rattle.calc_chain.proofs.orders.LinkedOrder.list.Given as goal

-- so many are listed
abbrev pub invariant-entries : goal.invariant-entries
invariant-entries l = record {
  listed : l.list.items ≡ walk (after_of l.self-inside.slots) l.done (after_of l.self-inside.slots END);
  next : l.next ≡ nth (after_of l.self-inside.slots) l.done (after_of l.self-inside.slots END);
  within : l.done ≤ l.self-inside.count;
}

abbrev pub decreases-entries : goal.decreases-entries
decreases-entries l = l.self-inside.count - l.done
