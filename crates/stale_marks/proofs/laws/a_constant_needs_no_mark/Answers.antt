use Rattle.stale_marks.proofs.EditLaws.{unmarked-constant}
use Rattle.stale_marks.proofs.laws.a_constant_needs_no_mark.Goals as goal

pub returns : goal.returns
returns c = unmarked-constant
