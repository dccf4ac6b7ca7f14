use Rattle.std.proofs.Common.{◌∙◌, sym, ap}
use Rattle.cell_refs.specs.Cell.{is_among, same_cell}
use Rattle.topic_table.proofs.ReaderLaws.{stands-drop}
use Rattle.topic_table.proofs.Zones.{none-drop}
use Rattle.topic_table.proofs.readers.Readers.has_read.Goals as goal

pub returns-in-Some : goal.returns-in-Some
returns-in-Some c =
    stands-drop c.self.inside.cells c.args.cell c.in-Some.place c.in-Some.ensures.place c.in-Some.ensures.once c.self.inside.forgotten
    ∙ ap (λ v. is_among v.running c.args.cell) c.self.view_is

pub returns-in-None : goal.returns-in-None
returns-in-None c =
    sym (none-drop (same_cell c.args.cell) c.self.inside.forgotten c.self.inside.cells (sym c.in-None.ensures.found))
    ∙ ap (λ v. is_among v.running c.args.cell) c.self.view_is
