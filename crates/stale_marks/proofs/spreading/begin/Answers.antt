use Rattle.std.proofs.Common.{sym}
use Rattle.stale_marks.proofs.SpreadLaws.{spread-none}
use Rattle.stale_marks.proofs.WalkLaws.{begun-itself, origin-dependent}
use Rattle.stale_marks.proofs.spreading.begin.Goals as goal

pub returns-then-has-clause-spread : goal.returns-then-has-clause-spread
returns-then-has-clause-spread c =
    c.add.ensures.spread c.args.table.now c.args.origin c.args.marks.now.keys
    (spread-none c.args.table.now c.args.origin _ _ c.requires.empty) (origin-dependent c.args.table.now c.args.origin (sym c.if-has.ensures.reader))

pub returns-then-has-clause-begun : goal.returns-then-has-clause-begun
returns-then-has-clause-begun c =
    begun-itself c.add.result c.args.table.now c.args.origin c.args.marks.now.keys _ _ _ (sym c.if-has.ensures.reader) c.requires.absent
    (c.add.ensures.spread c.args.table.now c.args.origin c.args.marks.now.keys
    (spread-none c.args.table.now c.args.origin _ _ c.requires.empty) (origin-dependent c.args.table.now c.args.origin (sym c.if-has.ensures.reader)))
    c.add.ensures.here

pub returns-else-has-clause-spread : goal.returns-else-has-clause-spread
returns-else-has-clause-spread c =
    c.walk_on.ensures.spread c.args.marks.now.keys (spread-none c.args.table.now c.args.origin _ _ c.requires.empty)
