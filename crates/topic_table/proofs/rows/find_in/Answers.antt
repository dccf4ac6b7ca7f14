use Rattle.std.proofs.Common.{◌≡◌, ℕ, false, Option, length, map, sym, ap, ◌∙◌, refl, arith}
use Rattle.std.specs.Prelude.{find}
use Rattle.std.specs.Option.{option_map, option_map_or}
use Rattle.cell_values.specs.declared.topics.Topic.{Topic}
use Rattle.cell_values.specs.Topic.{same_topic}
use Rattle.topic_table.specs.declared.places.Row.{Row}
use Rattle.topic_table.specs.Rows.{connected, is_topic_place, live, topic_in}
use Rattle.topic_table.specs.Table.{ConnectedTopic}
use Rattle.topic_table.proofs.RowChanges.{agrees-topic, any-more, any-past, any-whole, first-found, id-in, id-leaving, none-found}
use Rattle.topic_table.proofs.rows.find_in.Goals as goal
use Rattle.topic_table.proofs.rows.find_in.Goals.{in-Some+else-is_of, in_default}

pub returns-then-is_of : goal.returns-then-is_of
returns-then-is_of c =
    let es = c.args.rows.now.entries in
    let topic = c.args.topic.now in
    let at = ap (λ found. option_map_or (λ (e : ℕ × Option Row). is_topic_place topic e.1) found false) (sym c.in-Some.ensures.entry) ∙ sym c.if-is_of.ensures in
    id-in (is_topic_place topic) refl c.in-Some.id.now c.in-Some.place.now (sym c.if-is_of.ensures)
    ∙ ap (λ found. option_map (λ (t : Topic × ℕ). t.1) (topic_in found)) c.in-Some.ensures.entry
    ∙ ap (option_map (λ (t : Topic × ℕ). t.1)) (first-found (λ (t : ConnectedTopic). same_topic topic t.topic) (is_topic_place topic) refl es c.loop-i.i (agrees-topic es topic) c.loop-i.invariant at)
    ∙ id-leaving (find (λ (t : ConnectedTopic). same_topic topic t.topic) (map connected (live es)))

pub returns : goal.returns
returns c =
    let es = c.args.rows.now.entries in
    let topic = c.args.topic.now in
    let count : c.len-i-end.result ≡ length es = c.len-i-end.ensures.len in
    let none = any-whole (λ (e : ℕ × Option Row). is_topic_place topic e.1) es c.loop-i.i (omega (arith, count, c.loop-i-test.false)) c.loop-i.invariant in
    sym (ap (option_map (λ (t : ConnectedTopic). t.id)) (none-found (λ (t : ConnectedTopic). same_topic topic t.topic) (is_topic_place topic) refl es (agrees-topic es topic) none))

pub loop-i-preserved : goal.loop-i-preserved
loop-i-preserved c =
    let es = c.args.rows.now.entries in
    elim c.match-get_index.branch [
      | in-Some+else-is_of w ↦ any-more (λ (e : ℕ × Option Row). is_topic_place c.args.topic.now e.1) es c.loop-i.i (w.in-Some.id.now, w.in-Some.place.now) c.loop-i.invariant w.in-Some.ensures.entry (sym w.if-is_of.ensures)
      | in_default w ↦ any-past (λ (e : ℕ × Option Row). is_topic_place c.args.topic.now e.1) es c.loop-i.i c.loop-i.invariant w.in_default.ensures.entry
    ]
