-- The trees of the sheets and the free nodes, as one store keeps them.
use Rattle.std.proofs.Common.{length-append, ◌≡◌, ℕ, zero, suc, ◌+◌, ◌<◌, ◌≤◌, max, Bool, true, false, cond, List, [], ◌∷◌, ◌++◌, length, refl, ap, sym, ◌∙◌, subst, nat_lt, arith}
use Rattle.std.specs.Prelude.{map, not, slice_index_or, slice_set}
use Rattle.std.specs.List.{AllByRecursion}
use Rattle.std.proofs.lemmas.Bool.{lt-ltb}
use Rattle.std.proofs.lemmas.Option.{slice_get_past}
use Rattle.area_index.specs.declared.pairs.Pair.{Pair}
use Rattle.area_index.specs.declared.nodes.Node.{Node}
use Rattle.area_index.specs.declared.nodes.Entry.{Entry}
use Rattle.area_index.specs.declared.nodes.TheConstants.{LEVELS, NONE}
use Rattle.area_index.specs.Shapes.{Shape, depth_of, empty, fork, in_order, height_of, higher, node_of}
use Rattle.area_index.specs.Standing.{number_of, IsStanding, Part, rooted, IsPartStanding, size_of, size_of_all, AreParts, row_of, tree_at}
use Rattle.area_index.specs.Forests.{Forest, ChangesAt, HasSameTrees, IsKept, free_in, pair_count, pairs_below, rooted_all, tree_in}
use Rattle.area_index.proofs.Standing.{height-at}
use Rattle.area_index.proofs.TreeLists.{at-set, at-set_other, count-more, count-set, many-numbers, many-set, number-at, numbers-more, numbers-set, root-more, shape-past, shape_at, size-at, size-more, size-set, standing-at, standing-back, standing-more, standing-set}

-- a pair at a number
abbrev pub entry_with : ℕ → Pair → Entry
entry_with n p = record { at = n; pair = p }

pub not_true : (b : Bool) → not b ≡ true → b ≡ false
not_true true h = cc
not_true false h = refl

pub not_false : (b : Bool) → not b ≡ false → b ≡ true
not_false true h = refl
not_false false h = cc

-- ---- one of the trees taken in hand, and put back

pub picked : (nodes : List Node) (b : Part) (shapes : List Shape) (i root : ℕ) → i < length shapes → root ≡ number_of (shape_at shapes i) → AreParts nodes (b ∷ rooted_all shapes) → AreParts nodes (rooted root (shape_at shapes i) ∷ b ∷ rooted_all (slice_set shapes i empty))
picked nodes b shapes i root h is a = record {
  each = ((is, standing-at nodes shapes i a.each.1), (a.each.0, standing-set nodes shapes i empty tt a.each.1));
  apart = λ k. let m = a.apart k in let e = count-set k shapes i empty h in omega arith;
  all = let m = a.all in let e = size-set shapes i empty h in omega arith;
  few = a.few;
}

pub placed : (nodes : List Node) (n : ℕ) (t : Shape) (b : Part) (shapes : List Shape) (i : ℕ) → i < length shapes → AreParts nodes (rooted n t ∷ b ∷ rooted_all (slice_set shapes i empty)) → AreParts nodes (b ∷ rooted_all (slice_set shapes i t))
placed nodes n t b shapes i h a = record {
  each = (a.each.1.0, standing-back nodes shapes i t a.each.0.1 a.each.1.1);
  apart = λ k. let m = a.apart k in let e = count-set k shapes i empty h in let f = count-set k shapes i t h in omega arith;
  all = let m = a.all in let e = size-set shapes i empty h in let f = size-set shapes i t h in omega arith;
  few = a.few;
}

-- ---- a tree by the number of its root

pub depth-size : (t : Shape) → depth_of t ≤ size_of t
depth-size empty = omega arith
depth-size (fork l e h b r) = let x = depth-size l in let y = depth-size r in omega arith

tree_at-is : (levels : ℕ) (nodes : List Node) (t : Shape) → length nodes ≤ NONE → IsStanding nodes t → size_of t ≤ levels → tree_at levels nodes (number_of t) ≡ t
tree_at-is zero nodes empty few s h = refl
tree_at-is (suc levels) nodes empty few s h = rw (slice_get_past nodes NONE few) refl
tree_at-is zero nodes (fork l e a b r) few s h = absurd (omega arith)
tree_at-is (suc levels) nodes (fork l e a b r) few s h = rw (s.0, tree_at-is levels nodes l few s.1 (omega arith), tree_at-is levels nodes r few s.2 (omega arith)) refl

pub tree_in-is : (forest : Forest) (kept : IsKept forest) (sheet : ℕ) → tree_in forest sheet ≡ shape_at kept.shapes sheet
tree_in-is forest kept sheet =
    let all = kept.parts.all in
    let part = size-at kept.shapes sheet in
    ap (λ ns. tree_at (length forest.nodes) forest.nodes (slice_index_or ns sheet NONE)) kept.roots
    ∙ ap (tree_at (length forest.nodes) forest.nodes) (number-at kept.shapes sheet)
    ∙ tree_at-is (length forest.nodes) forest.nodes (shape_at kept.shapes sheet) kept.parts.few (standing-at forest.nodes kept.shapes sheet kept.parts.each.1) (omega arith)

-- a sheet's tree has no more levels than there are nodes
pub depth-in : (forest : Forest) (kept : IsKept forest) (sheet : ℕ) → depth_of (shape_at kept.shapes sheet) ≤ length forest.nodes
depth-in forest kept sheet =
    let all = kept.parts.all in
    let part = size-at kept.shapes sheet in
    let deep = depth-size (shape_at kept.shapes sheet) in
    omega arith

pub root-in : (forest : Forest) (kept : IsKept forest) (sheet : ℕ) → slice_index_or forest.trees sheet NONE ≡ number_of (shape_at kept.shapes sheet)
root-in forest kept sheet = ap (λ ns. slice_index_or ns sheet NONE) kept.roots ∙ number-at kept.shapes sheet

pub standing-in : (forest : Forest) (kept : IsKept forest) (sheet : ℕ) → IsStanding forest.nodes (shape_at kept.shapes sheet)
standing-in forest kept sheet = standing-at forest.nodes kept.shapes sheet kept.parts.each.1

pub many-in : (forest : Forest) (kept : IsKept forest) → length forest.trees ≡ length kept.shapes
many-in forest kept = ap length kept.roots ∙ many-numbers kept.shapes

-- ---- free nodes

size-row : (es : List Entry) → size_of (row_of es) ≡ length es
unfolding node_of
size-row [] = refl
size-row (e ∷ es) = let x = size-row es in omega arith

height-row : (es : List Entry) → length es ≤ NONE → height_of (row_of es) ≡ length es
unfolding node_of higher
height-row [] few = refl
height-row (e ∷ es) few =
    let x : height_of (row_of es) ≡ length es = height-row es (omega arith) in
    let room : max (height_of (row_of es)) 0 < LEVELS = omega arith in
    let y : cond (nat_lt (max (height_of (row_of es)) 0) LEVELS) (max (height_of (row_of es)) 0 + 1) (max (height_of (row_of es)) 0) ≡ max (height_of (row_of es)) 0 + 1 = ap (λ w. cond w (max (height_of (row_of es)) 0 + 1) (max (height_of (row_of es)) 0)) (lt-ltb (max (height_of (row_of es)) 0) LEVELS room) in
    omega arith

pub free_in-is : (forest : Forest) (kept : IsKept forest) → free_in forest ≡ length kept.frees
free_in-is forest kept =
    let all = kept.parts.all in
    let few = kept.parts.few in
    let row = size-row kept.frees in
    height-at forest.nodes forest.free (row_of kept.frees) kept.parts.few kept.parts.each.0 ∙ height-row kept.frees (omega arith)

-- the tree of one sheet put back in place of the one that stood there
pub changed : (old new : Forest) (kept : IsKept old) (sheet root : ℕ) (t : Shape) (es : List Entry) → length new.nodes ≡ length old.nodes → sheet < length old.trees → new.trees ≡ slice_set old.trees sheet root → AreParts new.nodes (rooted root t ∷ rooted new.free (row_of es) ∷ rooted_all (slice_set kept.shapes sheet empty)) → ChangesAt old new sheet t × (free_in new ≡ length es)
changed old new kept sheet root t es large h is parts =
    let within : sheet < length kept.shapes = subst (λ n. sheet < n) (many-in old kept) h in
    let now : IsKept new = record {
      shapes = slice_set kept.shapes sheet t;
      frees = es;
      roots = is ∙ ap (λ n. slice_set old.trees sheet n) parts.each.0.0 ∙ ap (λ ns. slice_set ns sheet (number_of t)) kept.roots ∙ sym (numbers-set kept.shapes sheet t);
      parts = placed new.nodes root t (rooted new.free (row_of es)) kept.shapes sheet within parts;
    } in
    let changes : ChangesAt old new sheet t = record {
      kept = now;
      here = tree_in-is new now sheet ∙ at-set kept.shapes sheet t within;
      others = λ other apart. tree_in-is new now other ∙ at-set_other kept.shapes sheet other t apart ∙ sym (tree_in-is old kept other);
      as_many = ap length is ∙ many-set old.trees sheet root;
      as_large = large;
    } in
    (changes, free_in-is new now)

-- free nodes that are some have a first one
pub record HasFirst (es : List Entry) : Type 0 where
  pub first : Entry
  pub rest : List Entry
  pub is : es ≡ first ∷ rest

pub some_free : (es : List Entry) → 0 < length es → HasFirst es
some_free [] h = absurd (omega arith)
some_free (e ∷ es) h = record { first = e; rest = es; is = refl }

-- no tree stands at a sheet behind the last
pub tree-past : (forest : Forest) (kept : IsKept forest) (sheet : ℕ) → length forest.trees ≤ sheet → tree_in forest sheet ≡ empty
tree-past forest kept sheet h = let many = many-in forest kept in tree_in-is forest kept sheet ∙ shape-past kept.shapes sheet (omega arith)

-- ---- one tree more, which is empty

pub one_sheet_more : (old new : Forest) → new.nodes ≡ old.nodes → new.free ≡ old.free → new.trees ≡ old.trees ++ NONE ∷ [] → HasSameTrees old new
one_sheet_more old new nodes free trees = record {
  kept = λ k. record {
    shapes = k.shapes ++ empty ∷ [];
    frees = k.frees;
    roots = trees ∙ ap (λ ns. ns ++ NONE ∷ []) k.roots ∙ sym (numbers-more k.shapes);
    parts = rw (nodes, free) (record {
      each = (k.parts.each.0, standing-more old.nodes k.shapes k.parts.each.1);
      apart = λ n. let c = k.parts.apart n in let e = count-more n k.shapes in omega arith;
      all = let c = k.parts.all in let e = size-more k.shapes in omega arith;
      few = k.parts.few;
    });
  };
  trees = λ k sheet.
      ap (λ ns. tree_at (length ns) ns (slice_index_or new.trees sheet NONE)) nodes
      ∙ ap (tree_at (length old.nodes) old.nodes) (ap (λ ns. slice_index_or ns sheet NONE) trees ∙ root-more old.trees sheet);
}

-- ---- as many nodes as pairs and free nodes

size-pairs : (t : Shape) → length (in_order t) ≡ size_of t
size-pairs empty = refl
size-pairs (fork l e h b r) = let x = size-pairs l in let y = size-pairs r in let z = length-append (in_order l) (e.pair ∷ in_order r) in omega arith

pairs-below : (nodes : List Node) (shapes : List Shape) → length nodes ≤ NONE → size_of_all (rooted_all shapes) ≤ length nodes → AllByRecursion (IsPartStanding nodes) (rooted_all shapes) → pairs_below nodes (map number_of shapes) ≡ size_of_all (rooted_all shapes)
pairs-below nodes [] few fits a = refl
pairs-below nodes (t ∷ shapes) few fits a =
    let here : length (in_order (tree_at (length nodes) nodes (number_of t))) ≡ size_of t = ap (λ z. length (in_order z)) (tree_at-is (length nodes) nodes t few a.0.1 (omega arith)) ∙ size-pairs t in
    let rest = pairs-below nodes shapes few (omega arith) a.1 in
    omega arith

-- each node has a pair or is free
pub nodes-are : (forest : Forest) (kept : IsKept forest) → length forest.nodes ≡ pair_count forest + free_in forest
nodes-are forest kept =
    let all = kept.parts.all in
    let row = size-row kept.frees in
    let free = free_in-is forest kept in
    let pairs : pair_count forest ≡ size_of_all (rooted_all kept.shapes) = ap (pairs_below forest.nodes) kept.roots ∙ pairs-below forest.nodes kept.shapes kept.parts.few (omega arith) kept.parts.each.1 in
    omega arith
