use Rattle.std.proofs.Common.{IfOk, ◌≡◌, ◌∙◌, ap, subst}
use Rattle.cell_values.specs.declared.values.Value.{Value}
use Rattle.cell_eval.specs.Inputs.{head_value}
use Rattle.cell_eval.proofs.InputLaws.{found}
use Rattle.cell_eval.proofs.area_values.input_value.Goals as goal

pub returns : goal.returns
returns c =
    subst (λ (v : Value). IfOk c.head_value.result (λ value. value ≡ v))
    (ap (λ es. head_value es c.args.cell) c.from_cell.ensures.entries ∙ found c.args.entries.now c.args.cell c.requires)
    c.head_value.ensures
