use Rattle.std.proofs.Common.{◌≡◌, ◌++◌, [], sym, ap, ◌∙◌, rules}
use Rattle.std.proofs.lemmas.List.{append-nil}
use Rattle.cell_refs.proofs.PublicLaws.{listed_in_order}
use Rattle.cell_refs.specs.Area.{cells_of}
use Rattle.cell_eval.proofs.InputLaws.{values_along, along_cells, ascend_from_pairs}
use Rattle.cell_eval.proofs.area_values.area_values.Goals as goal

pub returns : goal.returns
returns c =
    let left : c.loop-cell.cell-iterator ≡ [] = search rules in
    sym (append-nil c.loop-cell.values.items)
    ∙ sym (ap (λ cs. c.loop-cell.values.items ++ values_along c.loop-cell.rest.now cs) left)
    ∙ c.loop-cell.invariant.whole
    ∙ along_cells c.args.inputs.now (cells_of c.args.area) c.requires (ascend_from_pairs (cells_of c.args.area) (listed_in_order c.args.area))
