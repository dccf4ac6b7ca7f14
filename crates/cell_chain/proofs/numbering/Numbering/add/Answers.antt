use Rattle.std.proofs.Common.{◌≡◌, ap, sym, ◌∙◌}
use Rattle.cell_chain.specs.Numbering.{cell_of}
use Rattle.cell_chain.proofs.NumberLaws.{inverse-added, one_to_one, one_to_one-same}
use Rattle.cell_chain.proofs.numbering.Numbering.add.Goals as goal

pub invariant_of-self-2 : goal.invariant_of-self-2
invariant_of-self-2 c =
    let number = c.in-Ok.number in
    let kept : c.reserve.new.self.slots ≡ c.self.inside.cells.slots = ap (λ s. s.slots) c.reserve.ensures.rest_kept in
    let key : number ≡ c.insert_reserved.result = c.in-Ok.ensures.1 ∙ c.vacant_key.ensures.value ∙ sym c.insert_reserved.ensures.key in
    inverse-added c.self.inside.numbers c.insert.new.self c.self.inside.cells.slots c.insert_reserved.new.self.slots c.args.cell number
    c.self.invariant
    (λ other h. c.requires.new other (ap (λ xs. cell_of xs other) (sym c.self.view_is) ∙ h))
    (ap (λ xs. cell_of xs number) (sym kept) ∙ ap (cell_of c.reserve.new.self.slots) c.in-Ok.ensures.1 ∙ c.vacant_key.ensures.vacant)
    c.in_ok-insert.ensures.ordered c.in_ok-insert.ensures.updates.0
    (record {
      changed = ap (cell_of c.insert_reserved.new.self.slots) key ∙ c.insert_reserved.ensures.updates.changed;
      others = λ other apart. c.insert_reserved.ensures.updates.others other (λ is. apart (is ∙ sym key)) ∙ ap (λ xs. cell_of xs other) kept;
    })

pub returns-in_err-reserve-clause-once : goal.returns-in_err-reserve-clause-once
returns-in_err-reserve-clause-once c = one_to_one-same _ _ (ap (λ s. s.slots) c.reserve.ensures.rest_kept) (one_to_one _ _ c.self.invariant)

pub returns-in_default-clause-once : goal.returns-in_default-clause-once
returns-in_default-clause-once c = one_to_one-same _ _ (ap (λ s. s.slots) c.reserve.ensures.rest_kept) (one_to_one _ _ c.self.invariant)

pub returns-in_err-insert-clause-once : goal.returns-in_err-insert-clause-once
returns-in_err-insert-clause-once c = one_to_one-same _ _ (ap (λ s. s.slots) c.reserve.ensures.rest_kept) (one_to_one _ _ c.self.invariant)

pub returns-clause-once : goal.returns-clause-once
returns-clause-once c = one_to_one _ _ (invariant_of-self-2 c)
