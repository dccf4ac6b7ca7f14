use Rattle.std.proofs.Common.{not, ap, sym, ◌∙◌}
use Rattle.cell_store.specs.Walking.{unknowns_inside}
use Rattle.cell_store.proofs.Sought.{sought-beside, sought-found, sought-passes}
use Rattle.cell_store.proofs.Walked.{left-as, left-first, left-next, range-from, steps-end, steps-fall}
use Rattle.cell_store.proofs.unknowns.unknown_on.Goals as goal

pub loop-cell-init : goal.loop-cell-init
loop-cell-init c =
    let all = c.into_iter-cell-iterator.ensures.into_iter_gives ∙ range-from c.args.present.now.entries c.range-cell-items.result c.args.seek (c.range-cell-items.ensures.between tt) in
    record {
      left = left-as _ _ _ _ (sym all) (left-first c.args.present.now.entries c.args.seek);
      same = ap (unknowns_inside c.args.areas.now) all;
    }

pub returns-then-not-lies_in : goal.returns-then-not-lies_in
returns-then-not-lies_in c =
    let left = left-as _ _ _ _ c.in-Some.ensures.steps c.loop-cell.invariant.left in (
      sought-beside c.args.areas.now c.args.present.now.entries c.args.seek _ _ _ (c.in-Some.cell.now, c.in-Some.value.now) c.next_in.result c.requires c.in-Some.ensures.steps left c.next_in.ensures (sym c.lies_in.ensures ∙ c.if-not-lies_in.true) c.loop-cell.invariant.same,
      steps-fall c.args.areas.now c.args.present.now.entries c.args.seek (c.in-Some.cell.now, c.in-Some.value.now) _ c.next_in.result c.requires left c.next_in.ensures,
    )

pub returns-then-is_none : goal.returns-then-is_none
returns-then-is_none c = sought-found c.args.areas.now _ _ _ (c.in-Some.cell.now, c.in-Some.value.now) c.in-Some.ensures.steps (sym c.lies_in.ensures ∙ c.if-not-lies_in.false) (ap not c.if-is_none.ensures) c.loop-cell.invariant.same

pub loop-cell-preserved : goal.loop-cell-preserved
loop-cell-preserved c = record {
  left = left-next _ _ _ _ (left-as _ _ _ _ c.in-Some.ensures.steps c.loop-cell.invariant.left);
  same = sought-passes c.args.areas.now _ _ _ (c.in-Some.cell.now, c.in-Some.value.now) c.in-Some.ensures.steps (sym c.lies_in.ensures ∙ c.if-not-lies_in.false) (ap not c.if-is_none.ensures) c.loop-cell.invariant.same;
}

pub returns : goal.returns
returns c = (ap (unknowns_inside c.args.areas.now) (sym c.in-None.ensures.steps.0) ∙ c.loop-cell.invariant.same, steps-end c.args.present.now.entries c.args.seek)
