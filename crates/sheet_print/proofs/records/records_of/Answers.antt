use Rattle.std.proofs.Common.{◌++◌, ap, ◌∙◌, option_copied}
use Rattle.cell_refs.specs.Written.{cell_text}
use Rattle.sheet_print.proofs.Written.{record-next}
use Rattle.sheet_print.proofs.records.records_of.Goals as goal

pub loop-cell-preserved : goal.loop-cell-preserved
loop-cell-preserved c =
    let item = c.loop-cell-item.result in
    let name = c.as_slice.ensures.value ∙ c.in_ok-push_name.ensures.ok ∙ ap (λ l. l ++ cell_text item.0) c.clear.ensures.items in
    let written = c.in_ok-write_shown.ensures.ok _ c.loop-cell.invariant in
    record-next c.write_shown.new.records c.as_slice-cell-items.result.now c.loop-cell.cell-index item c.as_slice.result.now (option_copied c.as_ref.result)
    c.loop-cell-test.true c.loop-cell-item.is name c.as_ref.ensures.value c.in_ok-write_shown.ensures.line written
