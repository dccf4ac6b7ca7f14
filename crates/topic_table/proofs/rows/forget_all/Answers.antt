use Rattle.std.proofs.Common.{◌≡◌, ◌+◌, length, sym, ap, subst, ◌∙◌, arith}
use Rattle.indexmap.specs.IndexMap.{spare}
use Rattle.topic_table.specs.Rows.{IsForgotten}
use Rattle.topic_table.proofs.RowChanges.{Progress, progress-all, progress-more, progress-past}
use Rattle.topic_table.proofs.rows.forget_all.Goals as goal
use Rattle.topic_table.proofs.rows.forget_all.Goals.{in-Some, in_default}

pub loop-i-preserved : goal.loop-i-preserved
loop-i-preserved c =
    let es = c.args.rows.now.entries in
    let i = c.loop-i.i in
    elim c.match-get_index_mut.branch [
      | in-Some w ↦ (
        subst (λ m. Progress (IsForgotten c.args.cell) (i + 1) es m.entries) (sym w.rows-is)
            (progress-more (IsForgotten c.args.cell) i es c.loop-i.rows.entries w.in-Some.place.now w.forget_in.new.place c.loop-i.invariant.0 w.in-Some.ensures.value
            (record { row = w.forget_in.ensures.bare; kept = w.forget_in.ensures.kept; running = w.forget_in.ensures.running })),
        ap spare w.rows-is ∙ c.loop-i.invariant.1,
      )
      | in_default w ↦ (
        subst (λ m. Progress (IsForgotten c.args.cell) (i + 1) es m.entries) (sym w.rows-is)
            (progress-past (IsForgotten c.args.cell) i es c.loop-i.rows.entries c.loop-i.invariant.0 w.in_default.ensures.value),
        ap spare w.rows-is ∙ c.loop-i.invariant.1,
      )
    ]

pub returns-clause-places : goal.returns-clause-places
returns-clause-places c =
    let es = c.args.rows.now.entries in
    let count : c.len-i-end.result ≡ length es = c.len-i-end.ensures.len in
    progress-all (IsForgotten c.args.cell) c.loop-i.i es c.loop-i.rows.entries (omega (arith, count, c.loop-i-test.false)) c.loop-i.invariant.0
