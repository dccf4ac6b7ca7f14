-- Trees that stand in one list of nodes, as nodes are put in and taken apart.
use Rattle.std.proofs.Common.{◌≡◌, ◌≢◌, ℕ, zero, suc, ◌+◌, ◌-◌, ◌<◌, ◌≤◌, max, List, [], ◌∷◌, None, Some, length, refl, ap, sym, ◌∙◌, subst, arith}
use Rattle.std.specs.Prelude.{slice_get, slice_set}
use Rattle.std.specs.List.{AllByRecursion}
use Rattle.std.proofs.lemmas.Bool.{eq-eqb}
use Rattle.std.proofs.lemmas.Option.{slice_get_past, slice_get_within}
use Rattle.area_index.specs.declared.pairs.Pair.{Pair}
use Rattle.area_index.specs.declared.nodes.Node.{Node}
use Rattle.area_index.specs.declared.nodes.Entry.{Entry}
use Rattle.area_index.specs.declared.nodes.TheConstants.{NONE}
use Rattle.area_index.specs.Shapes.{Shape, depth_of, empty, fork, rest_of, height_of, bottom_of, higher, node_of}
use Rattle.area_index.specs.Slots.{bottom_at, height_at, node_between}
use Rattle.area_index.specs.Standing.{number_of, IsStanding, Part, alone, rooted, IsPartStanding, one, count_in, count_in_part, count_in_all, AreParts}

-- ---- nodes after one was put at a number

length-set : (nodes : List Node) (n : ℕ) (x : Node) → length (slice_set nodes n x) ≡ length nodes
length-set [] n x = refl
length-set (y ∷ nodes) zero x = refl
length-set (y ∷ nodes) (suc n) x = ap suc (length-set nodes n x)

get-set : (nodes : List Node) (n : ℕ) (x : Node) → n < length nodes → slice_get (slice_set nodes n x) n ≡ Some x
get-set [] n x h = absurd (omega arith)
get-set (y ∷ nodes) zero x h = refl
get-set (y ∷ nodes) (suc n) x h = get-set nodes n x (omega arith)

get-set_other : (nodes : List Node) (n k : ℕ) (x : Node) → k ≢ n → slice_get (slice_set nodes n x) k ≡ slice_get nodes k
get-set_other [] n k x a = refl
get-set_other (y ∷ nodes) zero zero x a = absurd (a refl)
get-set_other (y ∷ nodes) zero (suc k) x a = refl
get-set_other (y ∷ nodes) (suc n) zero x a = refl
get-set_other (y ∷ nodes) (suc n) (suc k) x a = get-set_other nodes n k x (λ e. a (ap suc e))

-- ---- numbers

one-same : (n : ℕ) → one n n ≡ 1
one-same n = rw (eq-eqb n n refl) refl

pub one-apart : (n k : ℕ) → one n k ≡ 0 → k ≢ n
one-apart n k h e = let same : one n k ≡ 1 = rw e (one-same n) in omega arith

-- ---- what stands stays, where a node is put at a number that isn't in it

kept : (nodes : List Node) (n : ℕ) (x : Node) (t : Shape) → count_in n t ≡ 0 → IsStanding nodes t → IsStanding (slice_set nodes n x) t
kept nodes n x empty h s = tt
kept nodes n x (fork l e b c r) h s =
    (get-set_other nodes n e.at x (one-apart n e.at (omega arith)) ∙ s.0, kept nodes n x l (omega arith) s.1, kept nodes n x r (omega arith) s.2)

kept_part : (nodes : List Node) (n : ℕ) (x : Node) (part : Part) → count_in_part n part ≡ 0 → IsPartStanding nodes part → IsPartStanding (slice_set nodes n x) part
kept_part nodes n x (alone k) h s = let e = length-set nodes n x in omega arith
kept_part nodes n x (rooted k t) h s = (s.0, kept nodes n x t h s.1)

kept_all : (nodes : List Node) (n : ℕ) (x : Node) (parts : List Part) → count_in_all n parts ≡ 0 → AllByRecursion (IsPartStanding nodes) parts → AllByRecursion (IsPartStanding (slice_set nodes n x)) parts
kept_all nodes n x [] h s = tt
kept_all nodes n x (part ∷ parts) h s = (kept_part nodes n x part (omega arith) s.0, kept_all nodes n x parts (omega arith) s.1)

-- ---- what a number says of the tree that stands there

none_at : (nodes : List Node) → length nodes ≤ NONE → slice_get nodes NONE ≡ None
none_at nodes few = slice_get_past nodes NONE few

pub height-at : (nodes : List Node) (n : ℕ) (t : Shape) → length nodes ≤ NONE → IsPartStanding nodes (rooted n t) → height_at nodes n ≡ height_of t
height-at nodes n empty few s = rw (s.0, none_at nodes few) refl
height-at nodes n (fork l e h b r) few s = rw (s.0, s.1.0) refl

pub bottom-at : (nodes : List Node) (n : ℕ) (t : Shape) → length nodes ≤ NONE → IsPartStanding nodes (rooted n t) → bottom_at nodes n ≡ bottom_of t
bottom-at nodes n empty few s = rw (s.0, none_at nodes few) refl
bottom-at nodes n (fork l e h b r) few s = rw (s.0, s.1.0) refl

-- ---- a node linked

abbrev node_with : Pair → ℕ → ℕ → ℕ → ℕ → Node
node_with p h b x y = record { pair = p; height = h; bottom = b; left = x; right = y }

node_is : (p : Pair) (h h' b b' x x' y y' : ℕ) → h ≡ h' → b ≡ b' → x ≡ x' → y ≡ y' → node_with p h b x y ≡ node_with p h' b' x' y'
node_is p h h' b b' x x' y y' eh eb ex ey = rw (eh, eb, ex, ey) refl

pub linked : (nodes new : List Node) (e : Entry) (left right n : ℕ) (l r : Shape) (rest : List Part) → new ≡ slice_set nodes e.at (node_between nodes e.pair left right) → n ≡ e.at → AreParts nodes (alone e.at ∷ rooted left l ∷ rooted right r ∷ rest) → AreParts new (rooted n (node_of l e r) ∷ rest)
unfolding node_of
linked nodes new e left right n l r rest is at a =
    let x = node_between nodes e.pair left right in
    let once = a.apart e.at in
    let here = one-same e.at in
    let hl = height-at nodes left l a.few a.each.1.0 in
    let hr = height-at nodes right r a.few a.each.1.1.0 in
    let bl = bottom-at nodes left l a.few a.each.1.0 in
    let br = bottom-at nodes right r a.few a.each.1.1.0 in
    let made : slice_get (slice_set nodes e.at x) e.at ≡ Some x = get-set nodes e.at x a.each.0 in
    let many = length-set nodes e.at x in
    rw (is, at) (record {
      each = ((refl, (made ∙ ap Some (node_is e.pair _ (higher (max (height_of l) (height_of r))) _ (max e.pair.area.bottom (max (bottom_of l) (bottom_of r))) left (number_of l) right (number_of r) (rw (hl, hr) refl) (rw (bl, br) refl) a.each.1.0.0 a.each.1.1.0.0), kept nodes e.at x l (omega arith) a.each.1.0.1, kept nodes e.at x r (omega arith) a.each.1.1.0.1)), kept_all nodes e.at x rest (omega arith) a.each.1.1.1);
      apart = λ k. let c = a.apart k in omega arith;
      all = let c = a.all in omega arith;
      few = let c = a.few in omega arith;
    })

-- ---- a tree taken apart

-- where a node stands at the root's number, the tree has it
pub record Opened (nodes : List Node) (n : ℕ) (t : Shape) (node : Node) (rest : List Part) : Type 0 where
  pub left : Shape
  pub right : Shape
  pub is : t ≡ fork left (record { at = n; pair = node.pair }) node.height node.bottom right
  pub parts : AreParts nodes (alone n ∷ rooted node.left left ∷ rooted node.right right ∷ rest)

some_is : (a b : Node) → Some a ≡ Some b → a ≡ b
some_is a b e = cc

pub opened : (nodes : List Node) (n : ℕ) (t : Shape) (node : Node) (rest : List Part) → slice_get nodes n ≡ Some node → AreParts nodes (rooted n t ∷ rest) → Opened nodes n t node rest
opened nodes n empty node rest is a =
    absurd (let e : None ≡ Some node = sym (none_at nodes a.few) ∙ ap (slice_get nodes) (sym a.each.0.0) ∙ is in cc)
opened nodes n (fork l e h b r) node rest is a =
    let same : node ≡ node_with e.pair h b (number_of l) (number_of r) = some_is node _ (sym is ∙ ap (slice_get nodes) a.each.0.0 ∙ a.each.0.1.0) in
    let within : n < length nodes = slice_get_within nodes n node is in
    rw (same, a.each.0.0) (record {
      left = l;
      right = r;
      is = refl;
      parts = record {
        each = (subst (λ k. k < length nodes) a.each.0.0 within, ((refl, a.each.0.1.1), ((refl, a.each.0.1.2), a.each.1)));
        apart = λ k. let c = a.apart k in omega arith;
        all = let c = a.all in omega arith;
        few = a.few;
      };
    })

-- where no node stands at the root's number, the tree is empty
pub closed : (nodes : List Node) (n : ℕ) (t : Shape) (rest : List Part) → slice_get nodes n ≡ None → AreParts nodes (rooted n t ∷ rest) → t ≡ empty
closed nodes n empty rest is a = refl
closed nodes n (fork l e h b r) rest is a =
    absurd (let k : None ≡ Some (node_with e.pair h b (number_of l) (number_of r)) = sym is ∙ ap (slice_get nodes) a.each.0.0 ∙ a.each.0.1.0 in cc)

-- a tree without levels is empty
pub no_levels : (t : Shape) (levels : ℕ) → depth_of t ≤ levels → levels ≤ 0 → t ≡ empty
no_levels empty levels d e = refl
no_levels (fork l e h b r) levels d z = absurd (omega arith)

-- an empty tree in place of a node's sides
pub leaves : (nodes : List Node) (n root : ℕ) (rest : List Part) → AreParts nodes (alone n ∷ rooted root empty ∷ rest) → AreParts nodes (alone n ∷ rooted NONE empty ∷ rooted NONE empty ∷ rest)
leaves nodes n root rest a = record {
  each = (a.each.0, ((refl, tt), ((refl, tt), a.each.1.1)));
  apart = λ k. let c = a.apart k in omega arith;
  all = let c = a.all in omega arith;
  few = a.few;
}

-- the levels of a tree's sides
pub sides_levels : (t l : Shape) (e : Entry) (h b : ℕ) (r : Shape) (levels : ℕ) → t ≡ fork l e h b r → depth_of t ≤ levels → (depth_of l ≤ levels - 1) × (depth_of r ≤ levels - 1)
sides_levels t l e h b r levels is d =
    let f : max (depth_of l) (depth_of r) + 1 ≤ levels = subst (λ z. depth_of z ≤ levels) is d in
    (omega arith, omega arith)

-- where the left side is empty, the right one is what is left
pub without_left : (nodes : List Node) (e : Entry) (left right : ℕ) (l r : Shape) (rest : List Part) → l ≡ empty → AreParts nodes (alone e.at ∷ rooted left l ∷ rooted right r ∷ rest) → AreParts nodes (alone e.at ∷ rooted right (rest_of l e r) ∷ rest)
without_left nodes e left right empty r rest none a = record {
  each = (a.each.0, (a.each.1.1.0, a.each.1.1.1));
  apart = λ k. let c = a.apart k in omega arith;
  all = let c = a.all in omega arith;
  few = a.few;
}
without_left nodes e left right (fork x y h b z) r rest none a = let n : fork x y h b z ≡ empty = none in cc

-- no node stands at the number of an empty tree
pub no_root : (nodes : List Node) (n : ℕ) (t : Shape) → n ≡ NONE → n ≡ number_of t → length nodes ≤ NONE → IsStanding nodes t → t ≡ empty
no_root nodes n empty none is few s = refl
no_root nodes n (fork l e h b r) none is few s =
    absurd (let k : None ≡ Some (node_with e.pair h b (number_of l) (number_of r)) = sym (none_at nodes few) ∙ ap (slice_get nodes) (sym none ∙ is) ∙ s.0 in cc)
