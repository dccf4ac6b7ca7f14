use Rattle.std.proofs.Common.{sym, ◌∙◌, rules}
use mir.Syntax.{w128}
use mir.Val.{SFits}
use Rattle.std.proofs.lemmas.Int.{to_z-of_z}
use Rattle.functions.specs.Gathering.{numbers_or_error}
use Rattle.functions.proofs.TallyLaws.{summed}
use Rattle.functions.proofs.gathering.sum.Goals as goal

pub returns-in-Ok : goal.returns-in-Ok
returns-in-Ok c =
    let fits : SFits w128 c.in-Ok.sum.0 = search rules in
    let shown = simp to_z-of_z at c.number_value.ensures in
    shown ∙ summed (numbers_or_error c.args.args.now) c.in-Ok.sum (sym c.tally.ensures ∙ c.in-Ok.is)
