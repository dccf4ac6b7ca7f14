use Rattle.std.proofs.Common.{rules}
use Rattle.std.proofs.lemmas.Result.{err_from_is_err_and}
use Rattle.stale_marks.proofs.WalkLaws.{all-next, behind-more, dependent-at}
use Rattle.stale_marks.proofs.spreading.add_all.Goals as goal

pub returns-in_err-add-clause-spread : goal.returns-in_err-add-clause-spread
returns-in_err-add-clause-spread c table origin old spread all =
    let p = err_from_is_err_and c.from_residual.result c.from_residual.ensures.1 in
    rw (p.1) (c.in_err-add.ensures.spread table origin old (c.loop-cell.invariant.spread table origin old spread all) (dependent-at table origin _ _ _ (search rules) all))

pub loop-cell-preserved : goal.loop-cell-preserved
loop-cell-preserved c = record {
  ordered = c.add.ensures.ordered;
  spread = λ table origin old spread all. c.in_ok-add.ensures.spread table origin old (c.loop-cell.invariant.spread table origin old spread all) (dependent-at table origin _ _ _ (search rules) all);
  all = all-next _ _ _ _ _ (search rules) c.add.ensures.kept c.loop-cell.invariant.all c.in_ok-add.ensures.here;
  kept = λ q h. c.add.ensures.kept q (c.loop-cell.invariant.kept q h);
  behind = behind-more _ _ _ c.loop-cell.invariant.behind c.add.ensures.behind;
}
