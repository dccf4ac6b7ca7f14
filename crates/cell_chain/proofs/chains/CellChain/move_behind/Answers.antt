use Rattle.std.proofs.Common.{◌≡◌, true, false, cond, ap, subst, sym, ◌∙◌}
use Rattle.cell_refs.specs.Cell.{is_among}
use Rattle.cell_chain.specs.CellOrder.{is_behind, moved_behind}
use Rattle.cell_chain.proofs.CellLaws.{apart-numbers, entry-numbered, idle-number, is-cell-chain, numbered-entry, numbered-moved, view-moved}
use Rattle.cell_chain.proofs.chains.CellChain.move_behind.Goals as goal

pub number_at-first-requires : goal.number_at-first-requires
number_at-first-requires c =
    entry-numbered c.self.inside.numbering c.self.inside.chain _ c.self.invariant c.args.x
    (subst (λ v. is_among v.entries c.args.x ≡ true) (sym c.self.view_is) c.requires.first)

pub number_at-second-requires : goal.number_at-second-requires
number_at-second-requires c =
    entry-numbered c.self.inside.numbering c.self.inside.chain _ c.self.invariant c.args.y
    (subst (λ v. is_among v.entries c.args.y ≡ true) (sym c.self.view_is) c.requires.second)

pub move_behind-requires-clause-idle : goal.move_behind-requires-clause-idle
move_behind-requires-clause-idle c =
    idle-number c.self.inside.numbering c.self.inside.chain c.number_at-first.result c.args.x c.number_at-first.ensures
    (subst (λ v. is_among v.due c.args.x ≡ false) (sym c.self.view_is) c.requires.idle)

pub invariant_of-self : goal.invariant_of-self
invariant_of-self c =
    let slots = c.self.inside.numbering in
    let chain = c.self.inside.chain in
    numbered-moved slots chain _ _ c.number_at-first.result c.number_at-second.result c.self.invariant
    (apart-numbers slots _ _ c.args.x c.args.y c.number_at-first.ensures c.number_at-second.ensures c.requires.apart)
    (numbered-entry slots chain _ c.self.invariant c.args.x c.number_at-first.result c.number_at-first.ensures)
    (numbered-entry slots chain _ c.self.invariant c.args.y c.number_at-second.result c.number_at-second.ensures)
    (idle-number slots chain c.number_at-first.result c.args.x c.number_at-first.ensures (subst (λ v. is_among v.due c.args.x ≡ false) (sym c.self.view_is) c.requires.idle))
    c.move_behind.ensures

pub returns-clause-moved : goal.returns-clause-moved
returns-clause-moved c =
    view-moved c.self.inside.numbering c.self.inside.chain c.move_behind.new.self _ c.number_at-first.result c.number_at-second.result c.args.x c.args.y c.self.invariant
    c.number_at-first.ensures c.number_at-second.ensures c.move_behind.ensures
    ∙ ap (λ v. record { entries = cond (is_behind v.entries c.args.x c.args.y) v.entries (moved_behind v.entries c.args.x c.args.y); due = v.due }) c.self.view_is

pub returns-clause-chain : goal.returns-clause-chain
returns-clause-chain c = is-cell-chain c.self.inside.numbering c.move_behind.new.self _ (invariant_of-self c)
