use Rattle.std.proofs.Common.{◌+◌, Some, ap, sym, subst, ◌∙◌, take}
use Rattle.cell_store.specs.Scanning.{IsNext}
use Rattle.cell_store.proofs.AreaSteps.{next-all, next-more, next-stays}
use Rattle.cell_store.proofs.scanning.next_in.Goals as goal
use Rattle.cell_store.proofs.scanning.next_in.Goals.{in-Some, in_default}

pub loop-area-preserved : goal.loop-area-preserved
loop-area-preserved c = elim c.match-next_of.branch [
  | in-Some w ↦ subst (λ next. IsNext (take (c.loop-area.area-index + 1) c.args.areas.now) c.args.cell next) (ap Some (sym w.lesser.ensures) ∙ sym w.next-is)
      (next-more c.args.areas.now c.loop-area.area-index _ c.args.cell c.loop-area.next w.in-Some.other c.loop-area-test.true c.loop-area.invariant w.in-Some.ensures)
  | in_default w ↦ subst (λ next. IsNext (take (c.loop-area.area-index + 1) c.args.areas.now) c.args.cell next) (sym w.next-is)
      (next-stays c.args.areas.now c.loop-area.area-index _ c.args.cell c.loop-area.next c.loop-area-test.true c.loop-area.invariant w.in_default.ensures)
]

pub returns : goal.returns
returns c = next-all c.args.areas.now c.loop-area.area-index c.args.cell c.loop-area.next c.loop-area-test.false c.loop-area.invariant
