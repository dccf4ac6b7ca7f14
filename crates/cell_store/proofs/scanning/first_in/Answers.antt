use Rattle.std.proofs.Common.{Some, ap, sym, subst, ◌∙◌, ◌+◌, take}
use Rattle.cell_store.specs.Scanning.{IsFirst, lesser}
use Rattle.cell_store.proofs.AreaSteps.{first-all, first-more}
use Rattle.cell_store.proofs.scanning.first_in.Goals as goal

pub loop-area-preserved : goal.loop-area-preserved
loop-area-preserved c = subst (λ first. IsFirst (take (c.loop-area.area-index + 1) c.args.areas.now) (Some first)) (ap (lesser c.loop-area.first) (sym c.corner.ensures) ∙ sym c.lesser.ensures)
    (first-more c.args.areas.now c.loop-area.area-index _ c.loop-area.first c.loop-area-test.true c.loop-area.invariant)

pub returns : goal.returns
returns c = first-all c.args.areas.now c.loop-area.area-index c.loop-area.first c.loop-area-test.false c.loop-area.invariant
