use Rattle.std.proofs.Common.{◌≡◌, length, ap, ◌∙◌}
use Rattle.std.proofs.lemmas.List.{length-map}
use Rattle.cell_refs.proofs.PublicLaws.{count_cells}
use Rattle.cell_refs.specs.Area.{cells_of, size_of}
use Rattle.cell_eval.specs.Jobs.{input_of}
use Rattle.cell_eval.proofs.AreaLaws.{whole_rows}
use Rattle.cell_eval.proofs.area_values.area_argument.Goals as goal

pub returns-clause-form : goal.returns-clause-form
returns-clause-form c =
    let count : length c.new.result ≡ size_of c.args.area =
    ap length c.new.ensures ∙ ap length c.in_ok-values.ensures ∙ length-map (cells_of c.args.area) (input_of c.args.inputs.now) ∙ count_cells c.args.area in
    let rows = whole_rows c.args.area (length c.new.result) count c.requires.small c.requires.formed.0 c.requires.formed.1 in
    (rw (c.from.ensures, c.from-2.ensures) rows)
