use Rattle.std.proofs.Common.{◌∙◌}
use Rattle.std.proofs.lemmas.Result.{on_ok_weaker}
use Rattle.stale_marks.proofs.WalkLaws.{readers-dependent, readers-walked}
use Rattle.stale_marks.proofs.spreading.walk_on.Goals as goal

pub returns-clause-spread : goal.returns-clause-spread
returns-clause-spread c old spread =
    c.add_all.ensures.spread c.args.table.now c.args.origin old spread
    (readers-dependent c.args.table.now c.readers.ensures.ordered c.args.origin c.args.cell c.as_slice.result.now (c.as_slice.ensures.value ∙ c.in-Ok.ensures.readers) c.requires.from)

pub returns-clause-walked : goal.returns-clause-walked
returns-clause-walked c =
    on_ok_weaker c.add_all.result (readers-walked c.args.table.now c.readers.ensures.ordered c.args.cell c.as_slice.result.now _ (c.as_slice.ensures.value ∙ c.in-Ok.ensures.readers)) c.add_all.ensures.all
