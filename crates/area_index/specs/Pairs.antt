-- Pairs of an area and a cell that names it, and their order.
use Rattle.std.specs.Prelude.{Bool}
use Rattle.std.specs.declared.cmp.Ordering.{Ordering}
use Rattle.std.specs.Ordering.{nat_cmp, ordering_then, is_eq}
use Rattle.std.specs.Cmp.{IsTotalOrder, nat_cmp_total, on_total, then_total}
use Rattle.cell_refs.specs.Cell.{cell_cmp, cells_total}
use Rattle.area_index.specs.declared.pairs.Pair.{Pair}

-- by top row, then left, bottom, right and reader, and last by sheet
unfoldable pub pair_cmp : Pair → Pair → Ordering
pair_cmp p q =
    ordering_then (ordering_then (ordering_then (ordering_then (ordering_then
    (nat_cmp p.area.top q.area.top)
    (nat_cmp p.area.left q.area.left))
    (nat_cmp p.area.bottom q.area.bottom))
    (nat_cmp p.area.right q.area.right))
    (cell_cmp p.reader q.reader))
    (nat_cmp p.area.sheet q.area.sheet)

-- that is a total order
pub pairs_total : IsTotalOrder pair_cmp
unfolding pair_cmp
pairs_total =
    then_total (then_total (then_total (then_total (then_total
    (on_total (λ p. p.area.top) nat_cmp_total)
    (on_total (λ p. p.area.left) nat_cmp_total))
    (on_total (λ p. p.area.bottom) nat_cmp_total))
    (on_total (λ p. p.area.right) nat_cmp_total))
    (on_total (λ p. p.reader) cells_total))
    (on_total (λ p. p.area.sheet) nat_cmp_total)

-- whether two pairs are one
abbrev pub same_pair : Pair → Pair → Bool
same_pair p q = is_eq (pair_cmp p q)
