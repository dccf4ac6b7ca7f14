use Rattle.std.proofs.Common.{refl, sym, ap, ◌∙◌}
use Rattle.std.proofs.lemmas.List.Filters.{dedup_is}
use Rattle.std.proofs.lemmas.List.Kept.{IsStrictlySortedBy-dedup}
use Rattle.std.proofs.lemmas.List.Sorted.{list_any-IsPermutation}
use Rattle.cell_refs.specs.Cell.{same_cell, is_among}
use Rattle.cell_refs.proofs.PublicLaws.{cells_total}
use Rattle.area_index.proofs.Readers.{among-dedup}
use Rattle.area_index.proofs.indexes.put_in_order.Goals as goal

pub returns-clause-sorted : goal.returns-clause-sorted
returns-clause-sorted c = rw (dedup_is same_cell c.sort_unstable.new.self.items c.dedup.new.self.items c.dedup.ensures.filtered) (IsStrictlySortedBy-dedup cells_total (λ x y. refl) c.sort_unstable.new.self.items c.sort_unstable.ensures.sorted)

pub returns-clause-same : goal.returns-clause-same
returns-clause-same c q =
    ap (λ xs. is_among xs q) (dedup_is same_cell c.sort_unstable.new.self.items c.dedup.new.self.items c.dedup.ensures.filtered)
    ∙ among-dedup c.sort_unstable.new.self.items q
    ∙ sym (list_any-IsPermutation (same_cell q) c.args.cells.now.items c.sort_unstable.new.self.items c.sort_unstable.ensures.permutation)
