use Rattle.std.proofs.Common.{sym, ◌∙◌}
use Rattle.functions.specs.Gathering.{numbers_or_error}
use Rattle.functions.proofs.TallyLaws.{multiplied}
use Rattle.functions.proofs.gathering.product.Goals as goal

pub returns-in-Ok : goal.returns-in-Ok
returns-in-Ok c = c.value.ensures ∙ multiplied (numbers_or_error c.args.args.now) c.in-Ok.product (sym c.tally.ensures ∙ c.in-Ok.is)
