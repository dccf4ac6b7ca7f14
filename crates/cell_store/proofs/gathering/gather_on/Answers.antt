use Rattle.std.proofs.Common.{◌++◌, ap, sym, ◌∙◌}
use Rattle.cell_store.specs.Walking.{entries_inside, with_values}
use Rattle.cell_store.proofs.Gathered.{gathered-beside, gathered-more}
use Rattle.cell_store.proofs.Walked.{left-as, left-first, left-next, range-from, steps-fall}
use Rattle.cell_store.proofs.gathering.gather_on.Goals as goal

pub loop-cell-init : goal.loop-cell-init
loop-cell-init c =
    let all = c.into_iter-cell-iterator.ensures.into_iter_gives ∙ range-from c.args.present.now.entries c.range-cell-items.result c.args.seek (c.range-cell-items.ensures.between tt) in
    record {
      left = left-as _ _ _ _ (sym all) (left-first c.args.present.now.entries c.args.seek);
      gathered = ap (λ es. with_values c.args.entries.now.items ++ entries_inside c.args.areas.now es) all;
    }

pub returns-then-not-lies_in : goal.returns-then-not-lies_in
returns-then-not-lies_in c =
    let left = left-as _ _ _ _ c.in-Some.ensures.steps c.loop-cell.invariant.left in (
      gathered-beside c.args.areas.now c.args.present.now.entries _ c.args.seek _ _ _ (c.in-Some.cell.now, c.in-Some.value.now) c.next_in.result c.requires c.in-Some.ensures.steps left c.next_in.ensures (sym c.lies_in.ensures ∙ c.if-not-lies_in.true) c.loop-cell.invariant.gathered,
      steps-fall c.args.areas.now c.args.present.now.entries c.args.seek (c.in-Some.cell.now, c.in-Some.value.now) _ c.next_in.result c.requires left c.next_in.ensures,
    )

pub loop-cell-preserved : goal.loop-cell-preserved
loop-cell-preserved c = record {
  left = left-next _ _ _ _ (left-as _ _ _ _ c.in-Some.ensures.steps c.loop-cell.invariant.left);
  gathered = gathered-more c.args.areas.now _ _ _ _ _ (c.in-Some.cell.now, c.in-Some.value.now) _ c.in-Some.ensures.steps (sym c.lies_in.ensures ∙ c.if-not-lies_in.false) c.in-Some-value.is c.in_ok-push_copy.ensures c.loop-cell.invariant.gathered;
}
