use Rattle.std.proofs.Common.{sym}
use Rattle.cell_chain.proofs.NumberLaws.{inverse-removed, one_to_one}
use Rattle.cell_chain.proofs.numbering.Numbering.remove.Goals as goal

pub invariant_of-self-2 : goal.invariant_of-self-2
invariant_of-self-2 c =
    inverse-removed c.self.inside.numbers c.remove.new.self c.self.inside.cells.slots c.remove-2.new.self.slots c.args.cell c.in_ok-number.number
    c.self.invariant (sym c.in_ok-number.ensures.value) c.in_ok-number.ensures.ordered c.in_ok-number.ensures.updates.0
    (record { changed = c.remove-2.ensures.updates.changed; others = c.remove-2.ensures.updates.others })

pub returns-in_err-number-clause-once : goal.returns-in_err-number-clause-once
returns-in_err-number-clause-once c = one_to_one _ _ c.self.invariant

pub returns-clause-once : goal.returns-clause-once
returns-clause-once c = one_to_one _ _ (invariant_of-self-2 c)
