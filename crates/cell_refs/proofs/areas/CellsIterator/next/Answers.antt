use Rattle.std.proofs.Common.{ap, length, sym, arith}
use Rattle.cell_refs.proofs.Listing.{steps_in_row, steps_to_row}
use Rattle.cell_refs.proofs.areas.CellsIterator.next.Goals as goal

pub returns-then-self-2-clause-steps : goal.returns-then-self-2-clause-steps
returns-then-self-2-clause-steps c =
    let i = c.self.inside in
    steps_in_row _ i.ended i.sheet i.left i.right i.bottom i.row i.col (sym c.self.view_is) c.if-self.false c.if-self-2.true

pub returns-then-self-2-clause-goes : goal.returns-then-self-2-clause-goes
returns-then-self-2-clause-goes c =
    let i = c.self.inside in
    let e = ap length (steps_in_row _ i.ended i.sheet i.left i.right i.bottom i.row i.col (sym c.self.view_is) c.if-self.false c.if-self-2.true) in
    record { on = λ _. (tt, tt, omega (arith, e)); keeps = tt; rests = λ _. tt }

pub returns-then-self-3-clause-steps : goal.returns-then-self-3-clause-steps
returns-then-self-3-clause-steps c =
    let i = c.self.inside in
    let place = c.self.invariant c.if-self.false in
    steps_to_row _ i.ended i.sheet i.left i.right i.bottom i.row i.col (sym c.self.view_is) c.if-self.false (omega (arith, place.1)) c.if-self-3.true

pub returns-then-self-3-clause-goes : goal.returns-then-self-3-clause-goes
returns-then-self-3-clause-goes c =
    let i = c.self.inside in
    let place = c.self.invariant c.if-self.false in
    let e = ap length (steps_to_row _ i.ended i.sheet i.left i.right i.bottom i.row i.col (sym c.self.view_is) c.if-self.false (omega (arith, place.1)) c.if-self-3.true) in
    record { on = λ _. (tt, tt, omega (arith, e)); keeps = tt; rests = λ _. tt }
