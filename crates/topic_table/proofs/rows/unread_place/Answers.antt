use Rattle.std.proofs.Common.{ℕ, Option, sym}
use Rattle.topic_table.specs.declared.places.Row.{Row}
use Rattle.topic_table.specs.Rows.{is_unread_place}
use Rattle.topic_table.proofs.RowChanges.{any-more, any-past}
use Rattle.topic_table.proofs.rows.unread_place.Goals as goal
use Rattle.topic_table.proofs.rows.unread_place.Goals.{in-Some+else-is_unread, in_default}

pub loop-i-preserved : goal.loop-i-preserved
loop-i-preserved c =
    let es = c.args.rows.now.entries in
    elim c.match-get_index.branch [
      | in-Some+else-is_unread w ↦ any-more (λ (e : ℕ × Option Row). is_unread_place e.1) es c.loop-i.i (w.in-Some.field-0-0.now, w.in-Some.place.now) c.loop-i.invariant w.in-Some.ensures.entry (sym w.if-is_unread.ensures)
      | in_default w ↦ any-past (λ (e : ℕ × Option Row). is_unread_place e.1) es c.loop-i.i c.loop-i.invariant w.in_default.ensures.entry
    ]
