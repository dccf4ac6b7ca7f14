use Rattle.std.proofs.Common.{◌≡◌, ◌+◌, length, sym, ap, subst, ◌∙◌, arith}
use Rattle.indexmap.specs.IndexMap.{spare}
use Rattle.topic_table.specs.Rows.{IsKept}
use Rattle.topic_table.proofs.RowChanges.{Progress, progress-all, progress-more, progress-past}
use Rattle.topic_table.proofs.rows.keep_all.Goals as goal
use Rattle.topic_table.proofs.rows.keep_all.Goals.{in-Some, in_default}

pub loop-i-preserved : goal.loop-i-preserved
loop-i-preserved c =
    let es = c.args.rows.now.entries in
    let i = c.loop-i.i in
    elim c.match-get_index_mut.branch [
      | in-Some w ↦ (
        subst (λ m. Progress IsKept (i + 1) es m.entries) (sym w.rows-is)
            (progress-more IsKept i es c.loop-i.rows.entries w.in-Some.place.now w.keep_in.new.place c.loop-i.invariant.0 w.in-Some.ensures.value
            (record { row = w.keep_in.ensures.bare; kept = w.keep_in.ensures.kept; running = w.keep_in.ensures.running })),
        ap spare w.rows-is ∙ c.loop-i.invariant.1,
      )
      | in_default w ↦ (
        subst (λ m. Progress IsKept (i + 1) es m.entries) (sym w.rows-is)
            (progress-past IsKept i es c.loop-i.rows.entries c.loop-i.invariant.0 w.in_default.ensures.value),
        ap spare w.rows-is ∙ c.loop-i.invariant.1,
      )
    ]

pub returns-clause-places : goal.returns-clause-places
returns-clause-places c =
    let es = c.args.rows.now.entries in
    let count : c.len-i-end.result ≡ length es = c.len-i-end.ensures.len in
    progress-all IsKept c.loop-i.i es c.loop-i.rows.entries (omega (arith, count, c.loop-i-test.false)) c.loop-i.invariant.0
