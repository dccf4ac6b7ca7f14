use Rattle.stale_marks.proofs.EditLaws.{edit-closed_but}
use Rattle.stale_marks.proofs.laws.an_edit_leaves_marks_closed_but_for_one.Goals as goal

pub returns : goal.returns
returns c before now cell marks only = edit-closed_but before now cell only marks
