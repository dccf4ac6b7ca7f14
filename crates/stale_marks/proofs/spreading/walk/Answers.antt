use Rattle.std.proofs.Common.{rules, [], ◌∷◌, arith, subst, sym}
use Rattle.cell_refs.specs.Reaching.{Reaches}
use Rattle.dep_table.specs.Table.{precedents_at}
use Rattle.stale_marks.proofs.WalkLaws.{begun-keeps, dependent-at, few, longer, walked-next}
use Rattle.stale_marks.proofs.spreading.walk.Goals as goal

pub walk_on-requires-clause-from : goal.walk_on-requires-clause-from
walk_on-requires-clause-from c =
    subst (λ q. Reaches (precedents_at c.args.table.now) (c.args.origin ∷ []) q) (sym c.index.ensures)
    (dependent-at c.args.table.now c.args.origin c.loop-next.added.items c.loop-next.next c.index.result.now (search rules) c.loop-next.invariant.spread.dependents).reaches

pub loop-next-smaller : goal.loop-next-smaller
loop-next-smaller c = omega (arith, few c.args.table.now c.args.origin _ _ _ c.loop-next.invariant.spread)

pub loop-next-preserved : goal.loop-next-preserved
loop-next-preserved c = record {
  ordered = c.walk_on.ensures.ordered;
  spread = c.in_ok-walk_on.ensures.spread c.args.marks.now.keys c.loop-next.invariant.spread;
  begun = begun-keeps c.args.table.now c.args.origin _ _ _ _ c.walk_on.ensures.kept c.walk_on.ensures.behind c.loop-next.invariant.begun;
  walked = walked-next c.args.table.now _ _ _ _ c.loop-next.next c.index.result.now c.index.result.now (search rules) c.walk_on.ensures.behind c.index.ensures c.walk_on.ensures.kept c.loop-next.invariant.walked c.in_ok-walk_on.ensures.walked;
  within = longer _ _ c.loop-next.next (search rules) c.walk_on.ensures.behind;
}
