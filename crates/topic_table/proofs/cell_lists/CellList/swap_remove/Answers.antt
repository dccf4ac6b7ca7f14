use Rattle.std.proofs.Common.{◌≡◌, ◌-◌, ◌<◌, length, take, swap, sym, ap, subst, ◌∙◌, rules}
use Rattle.std.specs.List.{IsDistinct}
use Rattle.cell_refs.specs.Cell.{is_among, same_cell}
use Rattle.cell_refs.proofs.PublicLaws.{same_cells}
use Rattle.topic_table.proofs.Zones.{gone-swap_last, take-swap_last}
use Rattle.topic_table.proofs.cell_lists.CellList.swap_remove.Goals as goal

-- the place is within the cells
within : (c : goal.After-swap_remove) → c.args.place < length c.self.inside.cells.items
within c = subst (λ l. c.args.place < length l) (sym c.self.view_is) c.requires

-- how many cells there are
count : (c : goal.After-swap_remove) → c.len-last.result ≡ length c.self.inside.cells.items
count c = search rules

-- the keys that changed places
swapped : (c : goal.After-swap_remove) → c.swap_indices.new.self.keys ≡ swap c.self.inside.cells.items c.args.place (length c.self.inside.cells.items - 1)
swapped c =
    c.swap_indices.ensures.keys ∙ ap (λ l. swap l c.args.place (c.len-last.result - 1)) c.self.invariant.0
    ∙ ap (λ n. swap c.self.inside.cells.items c.args.place (n - 1)) (count c)

-- the keys are those but for the last
keys : (c : goal.After-swap_remove) → c.truncate.new.self.keys ≡ take (length c.self.inside.cells.items - 1) (swap c.self.inside.cells.items c.args.place (length c.self.inside.cells.items - 1))
keys c =
    c.truncate.ensures.keys ∙ ap (λ n. take (n - 1) c.swap_indices.new.self.keys) (count c)
    ∙ ap (take (length c.self.inside.cells.items - 1)) (swapped c)

pub invariant_of-self : goal.invariant_of-self
invariant_of-self c = (
  keys c ∙ take-swap_last c.self.inside.cells.items c.args.place c.swap_remove.result (within c) ∙ sym c.swap_remove.ensures.items,
  search rules,
  search rules,
)

pub returns-clause-gone : goal.returns-clause-gone
returns-clause-gone c =
    let items = c.self.inside.cells.items in
    let cell = c.swap_remove.result in
    let distinct = subst (IsDistinct same_cell) (swapped c) c.swap_indices.ensures.unique in
    ap (λ l. is_among l cell) (c.swap_remove.ensures.items ∙ sym (take-swap_last items c.args.place cell (within c)))
    ∙ ap (λ q. is_among (take (length items - 1) (swap items c.args.place (length items - 1))) q) c.swap_remove.ensures.value
    ∙ gone-swap_last same_cells items c.args.place cell (within c) distinct
