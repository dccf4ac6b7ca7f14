use Rattle.std.proofs.Common.{◌≡◌, pos, unwrap_or, sym, ap, ◌∙◌, rules, w64}
use mir.Val.{SFits}
use Rattle.std.proofs.lemmas.Int.{to_z-of_z}
use Rattle.cell_values.specs.declared.values.Value.TheVariants as values
use Rattle.functions.specs.Gathering.{numbers_or_error}
use Rattle.functions.proofs.TallyLaws.{greatest_kept}
use Rattle.functions.proofs.gathering.max.Goals as goal

pub returns-in-Ok : goal.returns-in-Ok
returns-in-Ok c =
    let fits : SFits w64 c.unwrap_or.result = search rules in
    let kept : c.unwrap_or.result ≡ unwrap_or c.in-Ok.greatest.0 (pos 0) = search rules in
    simp to_z-of_z (ap values.Num kept ∙ greatest_kept (numbers_or_error c.args.args.now) c.in-Ok.greatest (sym c.tally.ensures ∙ c.in-Ok.is))
