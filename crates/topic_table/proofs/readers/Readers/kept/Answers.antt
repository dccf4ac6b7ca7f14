use Rattle.std.proofs.Common.{subst}
use Rattle.std.specs.List.{IsDistinct}
use Rattle.cell_refs.specs.Cell.{same_cell}
use Rattle.topic_table.proofs.ReaderLaws.{IsDistinct-take}
use Rattle.topic_table.proofs.readers.Readers.kept.Goals as goal

pub returns-clause-once : goal.returns-clause-once
returns-clause-once c =
    subst (λ v. IsDistinct same_cell v.kept) c.self.view_is
    (IsDistinct-take same_cell c.self.inside.kept c.self.inside.cells c.as_slice.ensures.once)
