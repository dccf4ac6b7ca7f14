use Rattle.std.proofs.Common.{◌+◌, ap, subst, sym, ◌∙◌, arith}
use Rattle.calc_chain.specs.declared.slots.Slot.{Slot}
use Rattle.calc_chain.specs.Linking.{Relabels, after_of, nth}
use Rattle.calc_chain.proofs.CrowdLaws.{has-walk, nth-next}
use Rattle.calc_chain.proofs.RenewalLaws.{one_more, relabels_more}
use Rattle.calc_chain.proofs.slots.Slots.relabel.Goals as goal

pub set_label-requires : goal.set_label-requires
set_label-requires c apart =
    let at = c.entries.invariant.next in
    let fits = c.requires.fits (nth (after_of c.args.self.now) c.entries.done c.args.first) (has-walk (after_of c.args.self.now) c.args.count c.entries.done c.args.first c.entries-test.true) (λ end. apart (at ∙ end)) in
    let size = c.entries.invariant.done.links.size in
    omega (arith, at, fits, size)

pub entries-preserved : goal.entries-preserved
entries-preserved c =
    let at = c.entries.invariant.next in
    let label = c.entries.invariant.label in
    let below = c.entries-test.true in
    let more = relabels_more c.args.self.now c.entries.self c.set_label.new.self c.args.first c.args.count c.entries.done c.args.low c.args.step c.entries.next (c.entries.label + c.args.step) c.requires.once below c.entries.invariant.done at
    (omega (arith, label)) (record { after = c.set_label.ensures.after; before = c.set_label.ensures.before; size = c.set_label.ensures.size }) c.set_label.ensures.labels in
    record {
      done = subst (λ m. Relabels c.args.self.now c.set_label.new.self c.args.first m c.args.low c.args.step) (one_more c.entries.done) more;
      next =
          ap (λ (slot : Slot). slot.after) c.at-next.ensures ∙ more.links.after c.entries.next ∙ ap (after_of c.args.self.now) at
          ∙ sym (nth-next (after_of c.args.self.now) c.entries.done c.args.first) ∙ ap (λ m. nth (after_of c.args.self.now) m c.args.first) (one_more c.entries.done);
      label = omega (arith, label);
      within = omega (arith, below);
    }
