-- What the walk finds.
use Rattle.std.proofs.Common.{◌≡◌, ℕ, ◌+◌, ◌<◌, ◌≤◌, max, Bool, true, false, cond, ◌&&◌, List, [], ◌∷◌, ◌++◌, refl, ap, sym, ◌∙◌, subst, nat_lt, nat_le, arith, eqb}
use Rattle.std.specs.Prelude.{map}
use Rattle.std.proofs.lemmas.Bool.{ltb-true, leb-true}
use Rattle.std.proofs.lemmas.List.{map-append}
use Rattle.std.proofs.lemmas.List.Elements.{filter-append}
use Rattle.std.proofs.lemmas.Map.Keys.{le_from_not_gt}
use Rattle.std.specs.declared.cmp.Ordering.{Ordering}
use Rattle.std.specs.declared.cmp.Ordering.TheVariants.{Less, Equal, Greater}
use Rattle.std.specs.Ordering.{ordering_then, is_gt}
use Rattle.std.specs.List.{AllByRecursion, filter}
use Rattle.cell_refs.specs.declared.grid.Cell.{Cell}
use Rattle.cell_refs.specs.Area.{area_has}
use Rattle.area_index.specs.declared.pairs.Pair.{Pair}
use Rattle.area_index.specs.Pairs.{pair_cmp}
use Rattle.area_index.specs.Shapes.{Shape, empty, fork, in_order, bottom_of, IsLevel, IsOrdered}
use Rattle.area_index.specs.Walk.{found, found_here, readers_at}
use Rattle.area_index.proofs.Ordered.{sorted_front, sorted_back, back_above, drops, all_map, all_join}

not_after : (a b : Ordering) → is_gt (ordering_then a b) ≡ false → is_gt a ≡ false
not_after Less b e = refl
not_after Equal b e = refl
not_after Greater b e = e

-- a pair before another begins no lower
pub tops_rise : (p q : Pair) → pair_cmp p q ≡ Less → p.area.top ≤ q.area.top
unfolding pair_cmp
tops_rise p q e =
    le_from_not_gt p.area.top q.area.top
    (not_after _ _ (not_after _ _ (not_after _ _ (not_after _ _ (not_after _ _ (ap is_gt e))))))

-- each area ends no lower than the bottom row that stands at the root
pub all_end : (t : Shape) → IsLevel t → AllByRecursion (λ p. p.area.bottom ≤ bottom_of t) (in_order t)
all_end empty a = tt
all_end (fork l p h b r) a =
    let e : b ≡ max p.pair.area.bottom (max (bottom_of l) (bottom_of r)) = a.5 in
    all_join _ (in_order l) (p.pair ∷ in_order r)
    (all_map _ (λ q. q.area.bottom ≤ b) (in_order l) (λ q k. omega arith) (all_end l a.0))
    (omega arith, all_map _ (λ q. q.area.bottom ≤ b) (in_order r) (λ q k. omega arith) (all_end r a.1))

and_false : (a b c d : Bool) → c ≡ false → (a && (b && (c && d))) ≡ false
and_false true true c d e = rw e refl
and_false true false c d e = refl
and_false false b c d e = refl

and_false_early : (a b c : Bool) → b ≡ false → (a && (b && c)) ≡ false
and_false_early true b c e = rw e refl
and_false_early false b c e = refl

gt-leb : (a b : ℕ) → b < a → nat_le a b ≡ false
gt-leb a b h = elim (nat_le a b) as (λ w. nat_le a b ≡ w → w ≡ false) [ true ↦ λ e. absurd (let k : a ≤ b = leb-true a b e in omega arith) | false ↦ λ e. refl ] refl

ends_above : (p : Pair) (cell : Cell) → p.area.bottom < cell.row → area_has p.area cell ≡ false
ends_above p cell h = and_false _ _ _ _ (gt-leb cell.row p.area.bottom h)

begins_below : (p : Pair) (cell : Cell) → cell.row < p.area.top → area_has p.area cell ≡ false
begins_below p cell h = and_false_early _ _ _ (gt-leb p.area.top cell.row h)

here-is : (p : Pair) (cell : Cell) (pairs : List Pair) → readers_at (p ∷ pairs) cell ≡ found_here p cell ++ readers_at pairs cell
here-is p cell pairs = elim (area_has p.area cell) as (λ w. map (λ q. q.reader) (cond w (p ∷ filter (λ q. area_has q.area cell) pairs) (filter (λ q. area_has q.area cell) pairs)) ≡ cond w (p.reader ∷ []) [] ++ readers_at pairs cell) [ true ↦ refl | false ↦ refl ]

readers_at-append : (xs ys : List Pair) (cell : Cell) → readers_at (xs ++ ys) cell ≡ readers_at xs cell ++ readers_at ys cell
readers_at-append xs ys cell = ap (map (λ p. p.reader)) (filter-append (λ p. area_has p.area cell) xs ys) ∙ map-append (λ p. p.reader) (filter (λ p. area_has p.area cell) xs) (filter (λ p. area_has p.area cell) ys)

none_at : (pairs : List Pair) (cell : Cell) → AllByRecursion (λ p. area_has p.area cell ≡ false) pairs → readers_at pairs cell ≡ []
none_at pairs cell a = ap (map (λ p. p.reader)) (drops (λ p. area_has p.area cell) pairs a)

-- the walk finds the readers of the pairs whose area has the cell
pub found-is : (t : Shape) (cell : Cell) → IsLevel t → IsOrdered t → found t cell ≡ readers_at (in_order t) cell
found-is empty cell a s = refl
found-is (fork l p h b r) cell a s =
    by (found-is l cell a.0 (sorted_front pair_cmp (in_order l) (p.pair ∷ in_order r) s)) (found-is r cell a.1 (sorted_back pair_cmp (in_order l) p.pair (in_order r) s)) (nat_lt b cell.row) refl where
      right : found r cell ≡ readers_at (in_order r) cell → (w : Bool) → nat_lt cell.row p.pair.area.top ≡ w → cond w [] (found r cell) ≡ readers_at (in_order r) cell
      right ih true e =
          let k : cell.row < p.pair.area.top = ltb-true cell.row p.pair.area.top e in
          sym (none_at (in_order r) cell (all_map _ (λ q. area_has q.area cell ≡ false) (in_order r) (λ q g. begins_below q cell (let j = tops_rise p.pair q g in omega arith)) (back_above pair_cmp (in_order l) p.pair (in_order r) s)))
      right ih false e = ih

      by : found l cell ≡ readers_at (in_order l) cell → found r cell ≡ readers_at (in_order r) cell → (w : Bool) → nat_lt b cell.row ≡ w → cond w [] ((found l cell ++ found_here p.pair cell) ++ cond (nat_lt cell.row p.pair.area.top) [] (found r cell)) ≡ readers_at (in_order l ++ p.pair ∷ in_order r) cell
      by x y true e =
          let k : b < cell.row = ltb-true b cell.row e in
          sym (none_at (in_order l ++ p.pair ∷ in_order r) cell (all_map _ (λ q. area_has q.area cell ≡ false) (in_order l ++ p.pair ∷ in_order r) (λ q g. ends_above q cell (omega arith)) (all_end (fork l p h b r) a)))
      by x y false e =
          let m = right y (nat_lt cell.row p.pair.area.top) refl in
          rw (x, m) (
          Rattle.std.proofs.Common.append_assoc (readers_at (in_order l) cell) (found_here p.pair cell) (readers_at (in_order r) cell)
          ∙ ap (λ z. readers_at (in_order l) cell ++ z) (sym (here-is p.pair cell (in_order r)))
          ∙ sym (readers_at-append (in_order l) (p.pair ∷ in_order r) cell)
          )
