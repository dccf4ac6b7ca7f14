use Rattle.std.proofs.Common.{rules, vec_capacity, ◌≡◌, ◌++◌, ◌∷◌, [], false, ap, subst, sym, ◌∙◌}
use Rattle.cell_refs.specs.Cell.{is_among}
use Rattle.cell_chain.proofs.CellLaws.{is-cell-chain, not-numbered, numbered-append, view-append}
use Rattle.cell_chain.proofs.chains.CellChain.append.Goals as goal

pub add-requires : goal.add-requires
add-requires c = record {
  new = not-numbered c.self.inside.numbering c.self.inside.chain _ c.self.invariant c.args.cell
      (subst (λ v. is_among v.entries c.args.cell ≡ false) (sym c.self.view_is) c.requires.new);
}

pub invariant_of-self-in-Ok : goal.invariant_of-self-in-Ok
invariant_of-self-in-Ok c =
    numbered-append c.self.inside.numbering c.add.new.self c.self.inside.chain c.append_number.new.chain _ _ c.in_ok-number.number c.args.cell c.self.invariant
    c.in_ok-number.ensures.free c.in_ok-number.ensures.added c.in_ok-number.ensures.others c.in_ok-number.ensures.once
    c.in-Ok.ensures.ok c.in-Ok.ensures.kept c.in-Ok.ensures.room

pub returns-in-Ok-clause-ok : goal.returns-in-Ok-clause-ok
returns-in-Ok-clause-ok c =
    view-append c.self.inside.numbering c.add.new.self c.self.inside.chain c.append_number.new.chain _ c.in_ok-number.number c.args.cell c.self.invariant
    c.in_ok-number.ensures.free c.in_ok-number.ensures.added c.in_ok-number.ensures.others c.in-Ok.ensures.ok
    ∙ ap (λ v. record { entries = v.entries ++ c.args.cell ∷ []; due = v.due }) c.self.view_is

pub returns-in-Ok-clause-chain : goal.returns-in-Ok-clause-chain
returns-in-Ok-clause-chain c = is-cell-chain c.add.new.self c.append_number.new.chain _ (invariant_of-self-in-Ok c)

pub returns-in_err-number-clause-chain : goal.returns-in_err-number-clause-chain
returns-in_err-number-clause-chain c = is-cell-chain c.add.new.self c.self.inside.chain (vec_capacity c.self.inside.room) (search rules)

pub returns-in-Err-clause-chain : goal.returns-in-Err-clause-chain
returns-in-Err-clause-chain c = is-cell-chain c.remove.new.self c.append_number.new.chain (vec_capacity c.append_number.new.room) (search rules)
