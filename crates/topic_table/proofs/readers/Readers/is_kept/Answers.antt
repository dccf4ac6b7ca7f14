use Rattle.std.proofs.Common.{◌∙◌, sym, ap}
use Rattle.cell_refs.specs.Cell.{is_among}
use Rattle.topic_table.proofs.ReaderLaws.{absent-take, stands-take}
use Rattle.topic_table.proofs.readers.Readers.is_kept.Goals as goal

pub returns-in-Some : goal.returns-in-Some
returns-in-Some c =
    stands-take c.self.inside.cells c.args.cell c.in-Some.place c.in-Some.ensures.place c.self.inside.kept
    ∙ ap (λ v. is_among v.kept c.args.cell) c.self.view_is

pub returns-in-None : goal.returns-in-None
returns-in-None c =
    sym (absent-take c.self.inside.cells c.args.cell (sym c.in-None.ensures.found) c.self.inside.kept)
    ∙ ap (λ v. is_among v.kept c.args.cell) c.self.view_is
