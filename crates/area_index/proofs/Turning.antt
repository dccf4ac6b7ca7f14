-- Trees turned, by what their sides are.
use Rattle.std.proofs.Common.{◌≡◌, ℕ, ◌<◌, ◌≤◌, true, false, arith, refl, sym, ap, subst, nat_lt, nat_le}
use Rattle.std.specs.Prelude.{List}
use Rattle.std.proofs.lemmas.Bool.{le-leb, leb-true, lt-ltb, ltb-true}
use Rattle.area_index.specs.declared.nodes.Nodes.{Nodes}
use Rattle.area_index.specs.declared.nodes.Entry.{Entry}
use Rattle.area_index.specs.Shapes.{Shape, empty, fork, height_of, higher, node_of, raised, lean_left, lean_right, balanced, inserted, joined, removed}
use Rattle.std.specs.declared.cmp.Ordering.TheVariants.{Less, Equal, Greater}
use Rattle.std.specs.Ordering.{match_ordering}
use Rattle.area_index.specs.declared.pairs.Pair.{Pair}
use Rattle.area_index.specs.Pairs.{pair_cmp}
use Rattle.area_index.specs.Standing.{Part, AreParts}

-- nodes that are the same have the same parts
pub same_parts : (old new : Nodes) (parts : List Part) → new ≡ old → AreParts old.items.items parts → AreParts new.items.items parts
same_parts old new parts e a = subst (λ nodes. AreParts nodes.items.items parts) (sym e) a

leb-not : (a b : ℕ) → b < a → nat_le a b ≡ false
leb-not a b h = elim (nat_le a b) as (λ w. nat_le a b ≡ w → w ≡ false) [ true ↦ λ e. absurd (let k : a ≤ b = leb-true a b e in omega arith) | false ↦ λ e. refl ] refl

ltb-not : (a b : ℕ) → b ≤ a → nat_lt a b ≡ false
ltb-not a b h = elim (nat_lt a b) as (λ w. nat_lt a b ≡ w → w ≡ false) [ true ↦ λ e. absurd (let k : a < b = ltb-true a b e in omega arith) | false ↦ λ e. refl ] refl

pub raised-empty : (l : Shape) (p : Entry) (q : Entry) (r : Shape) → raised l p empty q r ≡ node_of (node_of l p empty) q r
unfolding raised
raised-empty l p q r = refl

pub raised-fork : (l : Shape) (p : Entry) (a : Shape) (x : Entry) (h b : ℕ) (c : Shape) (q : Entry) (r : Shape) → raised l p (fork a x h b c) q r ≡ node_of (node_of l p a) x (node_of c q r)
unfolding raised
raised-fork l p a x h b c q r = refl

pub left-empty : (q : Entry) (r : Shape) → lean_left empty q r ≡ node_of empty q r
unfolding lean_left
left-empty q r = refl

pub left-outer : (l : Shape) (p : Entry) (h b : ℕ) (m : Shape) (q : Entry) (r : Shape) → height_of m ≤ height_of l → lean_left (fork l p h b m) q r ≡ node_of l p (node_of m q r)
unfolding lean_left
left-outer l p h b m q r e = rw (le-leb (height_of m) (height_of l) e) refl

pub left-inner : (l : Shape) (p : Entry) (h b : ℕ) (m : Shape) (q : Entry) (r : Shape) → height_of l < height_of m → lean_left (fork l p h b m) q r ≡ raised l p m q r
unfolding lean_left
left-inner l p h b m q r e = rw (leb-not (height_of m) (height_of l) e) refl

pub right-empty : (l : Shape) (p : Entry) → lean_right l p empty ≡ node_of l p empty
unfolding lean_right
right-empty l p = refl

pub right-outer : (l : Shape) (p : Entry) (m : Shape) (q : Entry) (h b : ℕ) (r : Shape) → height_of m ≤ height_of r → lean_right l p (fork m q h b r) ≡ node_of (node_of l p m) q r
unfolding lean_right
right-outer l p m q h b r e = rw (le-leb (height_of m) (height_of r) e) refl

pub right-inner : (l : Shape) (p : Entry) (m : Shape) (q : Entry) (h b : ℕ) (r : Shape) → height_of r < height_of m → lean_right l p (fork m q h b r) ≡ raised l p m q r
unfolding lean_right
right-inner l p m q h b r e = rw (leb-not (height_of m) (height_of r) e) refl

pub balanced-left : (l : Shape) (p : Entry) (r : Shape) → higher (height_of r) < height_of l → balanced l p r ≡ lean_left l p r
unfolding balanced
balanced-left l p r e = rw (lt-ltb (higher (height_of r)) (height_of l) e) refl

pub balanced-right : (l : Shape) (p : Entry) (r : Shape) → height_of l ≤ higher (height_of r) → higher (height_of l) < height_of r → balanced l p r ≡ lean_right l p r
unfolding balanced
balanced-right l p r e f = rw (ltb-not (higher (height_of r)) (height_of l) e, lt-ltb (higher (height_of l)) (height_of r) f) refl

pub balanced-even : (l : Shape) (p : Entry) (r : Shape) → height_of l ≤ higher (height_of r) → height_of r ≤ higher (height_of l) → balanced l p r ≡ node_of l p r
unfolding balanced
balanced-even l p r e f = rw (ltb-not (higher (height_of r)) (height_of l) e, ltb-not (higher (height_of l)) (height_of r) f) refl

pub inserted-left : (l : Shape) (q : Entry) (h b : ℕ) (r : Shape) (p : Entry) → pair_cmp p.pair q.pair ≡ Less → inserted (fork l q h b r) p ≡ balanced (inserted l p) q r
inserted-left l q h b r p e = ap (λ o. match_ordering o (balanced (inserted l p) q r) (node_of l q r) (balanced l q (inserted r p))) e

pub inserted-here : (l : Shape) (q : Entry) (h b : ℕ) (r : Shape) (p : Entry) → pair_cmp p.pair q.pair ≡ Equal → inserted (fork l q h b r) p ≡ node_of l q r
inserted-here l q h b r p e = ap (λ o. match_ordering o (balanced (inserted l p) q r) (node_of l q r) (balanced l q (inserted r p))) e

pub inserted-right : (l : Shape) (q : Entry) (h b : ℕ) (r : Shape) (p : Entry) → pair_cmp p.pair q.pair ≡ Greater → inserted (fork l q h b r) p ≡ balanced l q (inserted r p)
inserted-right l q h b r p e = ap (λ o. match_ordering o (balanced (inserted l p) q r) (node_of l q r) (balanced l q (inserted r p))) e

pub removed-left : (l : Shape) (q : Entry) (h b : ℕ) (r : Shape) (p : Pair) → pair_cmp p q.pair ≡ Less → removed (fork l q h b r) p ≡ balanced (removed l p) q r
removed-left l q h b r p e = ap (λ o. match_ordering o (balanced (removed l p) q r) (joined l r) (balanced l q (removed r p))) e

pub removed-here : (l : Shape) (q : Entry) (h b : ℕ) (r : Shape) (p : Pair) → pair_cmp p q.pair ≡ Equal → removed (fork l q h b r) p ≡ joined l r
removed-here l q h b r p e = ap (λ o. match_ordering o (balanced (removed l p) q r) (joined l r) (balanced l q (removed r p))) e

pub removed-right : (l : Shape) (q : Entry) (h b : ℕ) (r : Shape) (p : Pair) → pair_cmp p q.pair ≡ Greater → removed (fork l q h b r) p ≡ balanced l q (removed r p)
removed-right l q h b r p e = ap (λ o. match_ordering o (balanced (removed l p) q r) (joined l r) (balanced l q (removed r p))) e
