use Rattle.std.proofs.Common.{ap, ◌∙◌, arith}
use Rattle.calc_chain.specs.declared.slots.Slot.{Slot}
use Rattle.calc_chain.specs.Linking.{label_of}
use Rattle.calc_chain.proofs.RenewalLaws.{crowd_above, crowd_goes_on, crowd_small}
use Rattle.calc_chain.proofs.slots.Slots.crowd_behind.Goals as goal

pub overflow_sub-gap : goal.overflow_sub-gap
overflow_sub-gap c =
    let at = c.entries.invariant.next in
    let above = crowd_above c.args.self.now c.requires.0 c.args.y c.entries.count c.requires.1 c.requires.2 c.entries.invariant.passed (λ end. c.entries-test.true (at ∙ end)) in
    let own = ap (λ (slot : Slot). slot.label) c.at-low.ensures in
    let its = ap (λ (slot : Slot). slot.label) c.at.ensures in
    let same = ap (label_of c.args.self.now) at in
    omega (arith, above, own, its, same)

pub step_within-requires : goal.step_within-requires
step_within-requires c = let small = crowd_small c.args.self.now c.requires.0 c.args.y c.entries.count c.requires.1 c.requires.2 c.entries.invariant.passed in omega (arith, small)

pub overflow_add-count : goal.overflow_add-count
overflow_add-count c = let small = crowd_small c.args.self.now c.requires.0 c.args.y c.entries.count c.requires.1 c.requires.2 c.entries.invariant.passed in omega (arith, small)

pub entries-smaller : goal.entries-smaller
entries-smaller c = let small = crowd_small c.args.self.now c.requires.0 c.args.y c.entries.count c.requires.1 c.requires.2 c.entries.invariant.passed in omega (arith, small)

pub entries-preserved : goal.entries-preserved
entries-preserved c =
    let on = crowd_goes_on c.args.self.now c.args.y c.entries.count c.entries.next c.at-next-in-entries.result.after c.entries.invariant.passed c.entries.invariant.next c.entries-test.true (ap (λ (slot : Slot). slot.after) c.at-next-in-entries.ensures) in
    record { next = on.0; passed = on.1 }

pub step_within-requires-2 : goal.step_within-requires-2
step_within-requires-2 c = let small = crowd_small c.args.self.now c.requires.0 c.args.y c.entries.count c.requires.1 c.requires.2 c.entries.invariant.passed in omega (arith, small)
