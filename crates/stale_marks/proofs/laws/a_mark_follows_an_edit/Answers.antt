use Rattle.stale_marks.proofs.EditLaws.{edit-marked}
use Rattle.stale_marks.proofs.laws.a_mark_follows_an_edit.Goals as goal

pub returns : goal.returns
returns c before now cell old new changed only = edit-marked before now cell only old new changed
