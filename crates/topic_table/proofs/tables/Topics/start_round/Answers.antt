use Rattle.std.proofs.Common.{◌<◌, length, ◌∙◌}
use Rattle.topic_table.specs.Table.{has_read}
use Rattle.topic_table.proofs.RowLaws.{forget-step}
use Rattle.topic_table.proofs.tables.Topics.start_round.Goals as goal

pub loop-cell-preserved : goal.loop-cell-preserved
loop-cell-preserved c =
    let i = c.loop-cell.cell-index in
    let cells = c.args.cells.now in
    let before = c.loop-cell.invariant in
    let within : i < length cells = c.loop-cell-test.true in (
      record { topics = c.forget.ensures.topics.topics ∙ before.0.topics; greatest = c.forget.ensures.topics.greatest ∙ before.0.greatest },
      λ q cell. c.forget.ensures.readers q cell ∙ before.1 q cell,
      λ q cell. forget-step cells i cell _ _ _ (has_read c.args.self.now q cell) within (c.forget.ensures.running q cell) (before.2 q cell),
      c.forget.ensures.room ∙ before.3,
    )
