use Rattle.std.proofs.Common.{◌≡◌, true, map, ap, subst, sym, ◌∙◌}
use Rattle.cell_refs.specs.Cell.{is_among}
use Rattle.cell_chain.specs.CellOrder.{entries_among}
use Rattle.calc_chain.specs.Chain.{has}
use Rattle.cell_chain.specs.Numbering.{cell_at}
use Rattle.cell_chain.proofs.CellLaws.{entry-numbered, is-cell-chain, numbered-rewound, numbers-once, room-enough, view-rewound}
use Rattle.cell_chain.proofs.chains.CellChain.rewind.Goals as goal

pub fill-requires-clause-numbered : goal.fill-requires-clause-numbered
fill-requires-clause-numbered c cell h =
    entry-numbered c.self.inside.numbering c.self.inside.chain _ c.self.invariant cell
    (subst (λ v. is_among v.entries cell ≡ true) (sym c.self.view_is) (c.requires.entries cell h))

pub fill-requires-clause-room : goal.fill-requires-clause-room
fill-requires-clause-room c =
    room-enough c.self.inside.numbering c.self.inside.chain _ c.args.due.now c.self.invariant c.requires.once
    (λ cell h. subst (λ v. is_among v.entries cell ≡ true) (sym c.self.view_is) (c.requires.entries cell h))

pub rewind-requires-clause-once : goal.rewind-requires-clause-once
rewind-requires-clause-once c =
    numbers-once c.self.inside.numbering c.deref.result.now c.args.due.now (ap (map (cell_at c.self.inside.numbering)) c.deref.ensures.value ∙ c.fill.ensures.cells) c.requires.once

pub invariant_of-self : goal.invariant_of-self
invariant_of-self c =
    numbered-rewound c.self.inside.numbering c.self.inside.chain c.rewind.new.self _ _ c.deref.result.now c.self.invariant c.rewind.ensures c.fill.ensures.room

pub returns-clause-due : goal.returns-clause-due
returns-clause-due c =
    view-rewound c.self.inside.numbering c.self.inside.chain c.rewind.new.self _ c.deref.result.now c.args.due.now c.self.invariant
    (ap (map (cell_at c.self.inside.numbering)) c.deref.ensures.value ∙ c.fill.ensures.cells)
    (λ x h. c.fill.ensures.used x (ap (λ xs. has xs x) (sym c.deref.ensures.value) ∙ h)) c.rewind.ensures
    ∙ ap (λ v. record { entries = v.entries; due = entries_among v.entries c.args.due.now }) c.self.view_is

pub returns-clause-chain : goal.returns-clause-chain
returns-clause-chain c = is-cell-chain c.self.inside.numbering c.rewind.new.self _ (invariant_of-self c)
