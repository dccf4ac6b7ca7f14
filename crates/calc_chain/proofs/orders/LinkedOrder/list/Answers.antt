use Rattle.std.proofs.Common.{[], ◌∷◌, ◌++◌, ap, sym, ◌∙◌, arith}
use Rattle.calc_chain.specs.declared.slots.Slot.{Slot}
use Rattle.calc_chain.specs.declared.slots.TheConstants.{END}
use Rattle.calc_chain.specs.Linking.{after_of, nth, walk}
use Rattle.calc_chain.proofs.CrowdLaws.{nth-next, walk-more}
use Rattle.calc_chain.proofs.KeepsLaws.{entries_few}
use Rattle.calc_chain.proofs.LinkLaws.{length-walk}
use Rattle.calc_chain.proofs.RenewalLaws.{one_more}
use Rattle.calc_chain.proofs.orders.LinkedOrder.list.Goals as goal

pub overflow_add-done : goal.overflow_add-done
overflow_add-done c =
    let few = entries_few c.self.inside.slots (walk (after_of c.self.inside.slots) c.self.inside.count (after_of c.self.inside.slots END)) c.self.invariant in
    let len = length-walk (after_of c.self.inside.slots) c.self.inside.count (after_of c.self.inside.slots END) in
    let below = c.entries-test.true in
    omega (arith, few, len, below)

pub entries-preserved : goal.entries-preserved
entries-preserved c =
    let after = after_of c.self.inside.slots in
    let first = after END in
    let at = c.entries.invariant.next in
    let below = c.entries-test.true in
    record {
      listed =
          c.in_ok-push.ensures.items ∙ ap (λ ys. ys ++ c.entries.next ∷ []) c.entries.invariant.listed ∙ ap (λ m. walk after c.entries.done first ++ m ∷ []) at
          ∙ sym (walk-more after c.entries.done first) ∙ ap (λ m. walk after m first) (one_more c.entries.done);
      next = ap (λ (slot : Slot). slot.after) c.at-next-in-entries.ensures ∙ ap after at ∙ sym (nth-next after c.entries.done first) ∙ ap (λ m. nth after m first) (one_more c.entries.done);
      within = omega (arith, below);
    }
