use Rattle.std.proofs.Common.{subst, sym}
use Rattle.stale_marks.specs.Spreading.{HasSpread}
use Rattle.stale_marks.proofs.SpreadLaws.{gains-keeps, spread-more}
use Rattle.stale_marks.proofs.spreading.add.Goals as goal

pub returns-clause-kept : goal.returns-clause-kept
returns-clause-kept c = gains-keeps _ _ c.args.cell c.in_ok-insert.ensures.updates.0

pub returns-clause-spread : goal.returns-clause-spread
returns-clause-spread c table origin old spread dependent =
    subst (λ xs. HasSpread table origin old c.insert.new.self.keys xs) (sym c.in_ok-push.ensures.items)
    (spread-more table origin old c.args.marks.now.keys c.insert.new.self.keys c.args.added.now.items c.args.cell spread dependent (sym c.if-contains.ensures) c.in_ok-insert.ensures.updates.0)
