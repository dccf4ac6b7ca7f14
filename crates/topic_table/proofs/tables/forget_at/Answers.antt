use Rattle.std.proofs.Common.{◌<◌, ◌&&◌, ◌||◌, not, length, take, get_or, sym, ap, ◌∙◌}
use Rattle.std.specs.Prelude.{nat_eq}
use Rattle.std.specs.Cmp.{nat_eq_equiv}
use Rattle.std.specs.List.{list_any}
use Rattle.std.proofs.lemmas.List.Folds.{list_any_more}
use Rattle.cell_refs.specs.Cell.{same_cell}
use Rattle.topic_table.specs.Table.{has_read}
use Rattle.topic_table.proofs.RowLaws.{forget-both}
use Rattle.topic_table.proofs.tables.forget_at.Goals as goal

pub loop-id-preserved : goal.loop-id-preserved
loop-id-preserved c =
    let i = c.loop-id.id-index in
    let ids = c.args.ids.now in
    let before = c.loop-id.invariant in
    let within : i < length ids = c.loop-id-test.true in (
      record { topics = c.forget.ensures.topics.topics ∙ before.0.topics; greatest = c.forget.ensures.topics.greatest ∙ before.0.greatest },
      λ q cell. c.forget.ensures.readers q cell ∙ before.1 q cell,
      λ q cell.
          let x = has_read c.args.rows.now q cell in
          let s = same_cell cell c.args.cell in
          c.forget.ensures.running q cell
          ∙ ap (λ b. b && not (nat_eq (get_or ids i 0) q && s)) (before.2 q cell)
          ∙ forget-both x (list_any (nat_eq q) (take i ids)) (nat_eq (get_or ids i 0) q) s
          ∙ ap (λ b. x && not ((list_any (nat_eq q) (take i ids) || b) && s)) (nat_eq_equiv.symm (get_or ids i 0) q)
          ∙ ap (λ b. x && not (b && s)) (sym (list_any_more (nat_eq q) ids i 0 within)),
      c.forget.ensures.room ∙ before.3,
    )
