use Rattle.std.proofs.Common.{◌-◌, ◌≡◌, ◌≤◌, ◌+◌, ◌*◌}
use Rattle.calc_chain.specs.Linking.{Relabels, after_of, nth}
use Rattle.calc_chain.proofs.slots.Slots.relabel.Given as goal

-- so many have their labels
abbrev pub invariant-entries : goal.invariant-entries
invariant-entries l = record {
  done : Relabels l.fn.self l.self l.first l.done l.low l.step;
  next : l.next ≡ nth (after_of l.fn.self) l.done l.first;
  label : l.label ≡ l.low + l.done * l.step;
  within : l.done ≤ l.count;
}

abbrev pub decreases-entries : goal.decreases-entries
decreases-entries l = l.count - l.done
