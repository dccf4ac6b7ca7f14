use Rattle.std.proofs.Common.{false, cond, ap, ◌∙◌}
use Rattle.cell_refs.specs.Cell.{is_among, same_cell}
use Rattle.stale_marks.proofs.marks.Marks.unmark.Goals as goal

pub returns-clause-marks : goal.returns-clause-marks
returns-clause-marks c q = c.remove.ensures.updates.0 q ∙ ap (λ keys. cond (same_cell c.args.cell q) false (is_among keys q)) c.self.view_is
