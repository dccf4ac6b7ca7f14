use Rattle.std.proofs.Common.{arith, sym, ◌∙◌}
use Rattle.workbook.proofs.PublicLaws.{next-shorter}
use Rattle.book_sync.proofs.Remaking.{so_far-empty, so_far-more}
use Rattle.book_sync.proofs.anew.table_of.Goals as goal

pub loop-cell-init : goal.loop-cell-init
loop-cell-init c = so_far-empty _ _ c.new-table.ensures

pub loop-cell-smaller : goal.loop-cell-smaller
loop-cell-smaller c = omega (arith, next-shorter c.args.book.now.contents c.next_cell.ensures.ordered c.loop-cell.after c.in-Some.cell (sym c.next_cell.ensures.next ∙ c.in-Some.is))

pub loop-cell-preserved : goal.loop-cell-preserved
loop-cell-preserved c = so_far-more _ _ _ _ _ c.next_cell.ensures.ordered (sym c.next_cell.ensures.next ∙ c.in-Some.is) c.in_ok-put_areas.ensures.areas c.put_areas.ensures.others c.loop-cell.invariant
