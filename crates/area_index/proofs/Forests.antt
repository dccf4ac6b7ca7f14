-- The trees of the sheets after a change: what holds of them, and which pairs are there.
use Rattle.std.proofs.Common.{◌≡◌, ◌≢◌, ℕ, ◌+◌, ◌<◌, true, false, ◌&&◌, ◌||◌, [], refl, ap, sym, ◌∙◌, subst, nat_eq, arith}
use Rattle.std.specs.Prelude.{not}
use Rattle.std.specs.declared.cmp.Ordering.{Ordering}
use Rattle.std.specs.declared.cmp.Ordering.TheVariants.{Less, Equal, Greater}
use Rattle.std.specs.Ordering.{nat_cmp, ordering_then, is_eq}
use Rattle.std.specs.Cmp.{IsEquivalence, eq_by_cmp_equiv}
use Rattle.std.specs.List.{list_any}
use Rattle.std.specs.List.Sorted.{IsStrictlySortedBy}
use Rattle.std.proofs.lemmas.List.Kept.{IsStrictlySortedBy-filter}
use Rattle.std.proofs.lemmas.Map.Lookups.{CmpEqualImpliesEq, exact_pairs, exact_unsigned}
use Rattle.std.proofs.lemmas.Map.Views.{any-filter_same}
use Rattle.std.proofs.lemmas.Bool.{eqb-true, eqb-false}
use Rattle.cell_refs.specs.declared.grid.Cell.{Cell}
use Rattle.cell_refs.specs.Cell.{cell_cmp}
use Rattle.cell_refs.proofs.PublicLaws.{exact_cells}
use Rattle.area_index.specs.declared.pairs.Pair.{Pair}
use Rattle.area_index.specs.declared.nodes.Entry.{Entry}
use Rattle.area_index.specs.declared.nodes.TheConstants.{LEVELS, NONE}
use Rattle.area_index.specs.declared.stores.Store.{Store}
use Rattle.area_index.specs.Pairs.{pair_cmp, pairs_total, same_pair}
use Rattle.area_index.specs.Shapes.{Shape, empty, in_order, inserted, removed}
use Rattle.area_index.specs.Forests.{tree_in, has_pair, forest_of, forest_with, HasSameTrees, IsKept, IsSheetTree, IsForest, ChangesAt}
use Rattle.area_index.proofs.Kept.{tree_in-is}
use Rattle.area_index.proofs.Ordered.{all_insert, all_leave, sorted_insert, any_insert, differs}
use Rattle.area_index.proofs.InOrder.{in_order-inserted, in_order-removed}
use Rattle.area_index.proofs.Levels.{level-inserted, level-removed}

-- pairs that compare alike are one
exact_order : CmpEqualImpliesEq pair_cmp
unfolding pair_cmp
exact_order a b h =
    ap (λ (p : ((((ℕ × ℕ) × ℕ) × ℕ) × Cell) × ℕ). record { area = record { sheet = p.1; top = p.0.0.0.0.0; left = p.0.0.0.0.1; bottom = p.0.0.0.1; right = p.0.0.1 }; reader = p.0.1 })
    (exact_pairs (λ (p q : (((ℕ × ℕ) × ℕ) × ℕ) × Cell). ordering_then (ordering_then (ordering_then (ordering_then (nat_cmp p.0.0.0.0 q.0.0.0.0) (nat_cmp p.0.0.0.1 q.0.0.0.1)) (nat_cmp p.0.0.1 q.0.0.1)) (nat_cmp p.0.1 q.0.1)) (cell_cmp p.1 q.1)) nat_cmp
    (exact_pairs (λ (p q : ((ℕ × ℕ) × ℕ) × ℕ). ordering_then (ordering_then (ordering_then (nat_cmp p.0.0.0 q.0.0.0) (nat_cmp p.0.0.1 q.0.0.1)) (nat_cmp p.0.1 q.0.1)) (nat_cmp p.1 q.1)) cell_cmp
    (exact_pairs (λ (p q : (ℕ × ℕ) × ℕ). ordering_then (ordering_then (nat_cmp p.0.0 q.0.0) (nat_cmp p.0.1 q.0.1)) (nat_cmp p.1 q.1)) nat_cmp
    (exact_pairs (λ (p q : ℕ × ℕ). ordering_then (nat_cmp p.0 q.0) (nat_cmp p.1 q.1)) nat_cmp (exact_pairs nat_cmp nat_cmp exact_unsigned exact_unsigned) exact_unsigned)
    exact_unsigned)
    exact_cells)
    exact_unsigned
    (((((a.area.top, a.area.left), a.area.bottom), a.area.right), a.reader), a.area.sheet) (((((b.area.top, b.area.left), b.area.bottom), b.area.right), b.reader), b.area.sheet) h)

is_equal : (o : Ordering) → is_eq o ≡ true → o ≡ Equal
is_equal Less h = cc
is_equal Equal h = refl
is_equal Greater h = cc

-- pairs that are the same are one
pub same_pair_is : (p q : Pair) → same_pair p q ≡ true → p ≡ q
same_pair_is p q same = exact_order p q (is_equal (pair_cmp p q) same)

-- pairs are the same as an equivalence is
pub same_pairs : IsEquivalence same_pair
same_pairs = eq_by_cmp_equiv pairs_total

-- what holds of a sheet's tree, after a pair was put in
pub sheet-inserted : (sheet links : ℕ) (t : Shape) (p : Entry) → IsSheetTree sheet links t → p.pair.area.sheet ≡ sheet → links + 1 < LEVELS → IsSheetTree sheet (links + 1) (inserted t p)
sheet-inserted sheet links t p s e room =
    let within = s.within in
    let w = level-inserted t p s.level (omega arith) in
    let x = w.not_higher in
    let i = in_order-inserted t p s.ordered in
    record {
      level = w.level;
      ordered = rw i (sorted_insert pairs_total (in_order t) p.pair s.ordered);
      own = rw i (all_insert pairs_total (λ q. q.area.sheet ≡ sheet) (in_order t) p.pair s.own e);
      within = omega arith;
    }

sheet-more : (sheet links : ℕ) (t : Shape) → IsSheetTree sheet links t → IsSheetTree sheet (links + 1) t
sheet-more sheet links t s = let w = s.within in record { level = s.level; ordered = s.ordered; own = s.own; within = omega arith }

sheet-removed : (sheet links : ℕ) (t : Shape) (p : Pair) → IsSheetTree sheet links t → links < LEVELS → IsSheetTree sheet links (removed t p)
sheet-removed sheet links t p s room =
    let within = s.within in
    let w = level-removed t p s.level (omega arith) in
    let x = w.not_higher in
    let i = in_order-removed t p s.ordered in
    record {
      level = w.level;
      ordered = rw i (IsStrictlySortedBy-filter pair_cmp (differs pair_cmp p) (in_order t) s.ordered);
      own = rw i (all_leave (λ q. q.area.sheet ≡ sheet) (differs pair_cmp p) (in_order t) s.own);
      within = omega arith;
    }

by_sheet : (P : Type 0) (x y : ℕ) → (x ≡ y → P) → (x ≢ y → P) → P
by_sheet P x y same apart = elim (nat_eq x y) as (λ t. nat_eq x y ≡ t → P) [
  | true ↦ λ e. same (eqb-true x y e)
  | false ↦ λ e. apart (eqb-false x y e)
] refl

-- what is kept doesn't rest on how many pairs were put in
pub kept_as : (store : Store) (m n : ℕ) → IsKept (forest_with store m) → IsKept (forest_with store n)
kept_as store m n k = record { shapes = k.shapes; frees = k.frees; roots = k.roots; parts = k.parts }

-- what holds of the trees, after a pair was put in
pub forest-inserted : (old new : Store) (links : ℕ) (p : Entry) → IsForest (forest_with old links) → ChangesAt (forest_of old) (forest_of new) p.pair.area.sheet (inserted (tree_in (forest_of old) p.pair.area.sheet) p) → links + 1 < LEVELS → IsForest (forest_with new (links + 1))
forest-inserted old new links p f c room = record {
  room = room;
  kept = kept_as new 0 (links + 1) c.kept;
  trees = λ sheet. by_sheet (IsSheetTree sheet (links + 1) (tree_in (forest_of new) sheet)) sheet p.pair.area.sheet
      (λ e. rw (e, c.here) (sheet-inserted p.pair.area.sheet links (tree_in (forest_of old) p.pair.area.sheet) p (f.trees p.pair.area.sheet) refl room))
      (λ n. rw (c.others sheet n) (sheet-more sheet links (tree_in (forest_of old) sheet) (f.trees sheet)));
}

pub forest-removed : (old new : Store) (links : ℕ) (p : Pair) → IsForest (forest_with old links) → ChangesAt (forest_of old) (forest_of new) p.area.sheet (removed (tree_in (forest_of old) p.area.sheet) p) → IsForest (forest_with new links)
forest-removed old new links p f c = record {
  room = f.room;
  kept = kept_as new 0 links c.kept;
  trees = λ sheet. by_sheet (IsSheetTree sheet links (tree_in (forest_of new) sheet)) sheet p.area.sheet
      (λ e. rw (e, c.here) (sheet-removed p.area.sheet links (tree_in (forest_of old) p.area.sheet) p (f.trees p.area.sheet) f.room))
      (λ n. rw (c.others sheet n) (f.trees sheet));
}

not_same : (q p : Pair) → q.area.sheet ≢ p.area.sheet → same_pair q p ≡ false
not_same q p n = elim (same_pair q p) as (λ w. same_pair q p ≡ w → w ≡ false) [ true ↦ λ e. absurd (n (ap (λ r. r.area.sheet) (same_pair_is q p e))) | false ↦ λ e. refl ] refl

-- which pairs are there, after one was put in
pub has-inserted : (old new : Store) (links more : ℕ) (p : Entry) → IsForest (forest_with old links) → ChangesAt (forest_of old) (forest_of new) p.pair.area.sheet (inserted (tree_in (forest_of old) p.pair.area.sheet) p) → (q : Pair) → has_pair (forest_with new more) q ≡ (same_pair q p.pair || has_pair (forest_with old links) q)
unfolding has_pair
has-inserted old new links more p f c q =
    by_sheet (list_any (same_pair q) (in_order (tree_in (forest_of new) q.area.sheet)) ≡ (same_pair q p.pair || list_any (same_pair q) (in_order (tree_in (forest_of old) q.area.sheet)))) q.area.sheet p.pair.area.sheet
    (λ e. subst (λ s. list_any (same_pair q) (in_order (tree_in (forest_of new) s)) ≡ (same_pair q p.pair || list_any (same_pair q) (in_order (tree_in (forest_of old) s)))) (sym e) (rw (c.here, in_order-inserted (tree_in (forest_of old) p.pair.area.sheet) p (f.trees p.pair.area.sheet).ordered) (any_insert pairs_total q (in_order (tree_in (forest_of old) p.pair.area.sheet)) p.pair)))
    (λ n. rw (c.others q.area.sheet n, not_same q p.pair n) refl)

-- which pairs are there, after one was taken out
pub has-removed : (old new : Store) (links : ℕ) (p : Pair) → IsForest (forest_with old links) → ChangesAt (forest_of old) (forest_of new) p.area.sheet (removed (tree_in (forest_of old) p.area.sheet) p) → (q : Pair) → has_pair (forest_with new links) q ≡ (not (same_pair q p) && has_pair (forest_with old links) q)
unfolding has_pair
has-removed old new links p f c q =
    by_sheet (list_any (same_pair q) (in_order (tree_in (forest_of new) q.area.sheet)) ≡ (not (same_pair q p) && list_any (same_pair q) (in_order (tree_in (forest_of old) q.area.sheet)))) q.area.sheet p.area.sheet
    (λ e. subst (λ s. list_any (same_pair q) (in_order (tree_in (forest_of new) s)) ≡ (not (same_pair q p) && list_any (same_pair q) (in_order (tree_in (forest_of old) s)))) (sym e) (rw (c.here, in_order-removed (tree_in (forest_of old) p.area.sheet) p (f.trees p.area.sheet).ordered) (any-filter_same (same_pair q) (differs pair_cmp p) (not (same_pair q p)) (λ k g. ap not (same_pairs.symm p k ∙ sym (ap (λ z. same_pair z p) (same_pair_is q k g)))) (in_order (tree_in (forest_of old) p.area.sheet)))))
    (λ n. rw (c.others q.area.sheet n, not_same q p n) refl)

sheet-empty : (sheet links : ℕ) → IsSheetTree sheet links empty
unfolding IsStrictlySortedBy
sheet-empty sheet links = record { level = tt; ordered = tt; own = tt; within = omega arith }

-- a store without nodes and trees
none-kept : (store : Store) → store.nodes.items.items ≡ [] → store.free ≡ NONE → store.trees.items ≡ [] → IsKept (forest_with store 0)
none-kept store nodes free trees = record {
  shapes = [];
  frees = [];
  roots = trees;
  parts = rw nodes (record { each = ((free, tt), tt); apart = λ k. omega arith; all = refl; few = omega arith });
}

none-tree : (store : Store) → store.nodes.items.items ≡ [] → store.free ≡ NONE → store.trees.items ≡ [] → (sheet : ℕ) → tree_in (forest_with store 0) sheet ≡ empty
unfolding none-kept
none-tree store nodes free trees sheet = tree_in-is (forest_with store 0) (none-kept store nodes free trees) sheet

-- what holds of no trees
pub forest-none : (store : Store) → store.nodes.items.items ≡ [] → store.free ≡ NONE → store.trees.items ≡ [] → IsForest (forest_with store 0)
forest-none store nodes free trees = record {
  room = omega arith;
  kept = none-kept store nodes free trees;
  trees = λ sheet. rw (none-tree store nodes free trees sheet) (sheet-empty sheet 0);
}

pub has-none : (store : Store) → store.nodes.items.items ≡ [] → store.free ≡ NONE → store.trees.items ≡ [] → (p : Pair) → has_pair (forest_with store 0) p ≡ false
unfolding has_pair
has-none store nodes free trees p = rw (none-tree store nodes free trees p.area.sheet) refl

-- trees that are the same at each sheet
pub forest-same : (old new : Store) (links : ℕ) → HasSameTrees (forest_of old) (forest_of new) → IsForest (forest_with old links) → IsForest (forest_with new links)
forest-same old new links same f =
    let kept = kept_as old links 0 f.kept in
    record {
      room = f.room;
      kept = kept_as new 0 links (same.kept kept);
      trees = λ sheet. rw (same.trees kept sheet) (f.trees sheet);
    }

pub has-same : (old new : Store) (links more : ℕ) → HasSameTrees (forest_of old) (forest_of new) → IsForest (forest_with old links) → (p : Pair) → has_pair (forest_with new more) p ≡ has_pair (forest_with old links) p
unfolding has_pair
has-same old new links more same f p = rw (same.trees (kept_as old links 0 f.kept) p.area.sheet) refl

pub same_itself : (a : Store) → HasSameTrees (forest_of a) (forest_of a)
same_itself a = record { kept = λ k. k; trees = λ k sheet. refl }

pub both_same : (a b c : Store) → HasSameTrees (forest_of a) (forest_of b) → HasSameTrees (forest_of b) (forest_of c) → HasSameTrees (forest_of a) (forest_of c)
both_same a b c x y = record {
  kept = λ k. y.kept (x.kept k);
  trees = λ k sheet. y.trees (x.kept k) sheet ∙ x.trees k sheet;
}
