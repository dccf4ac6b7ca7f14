-- Nodes that are free, and one node more.
use Rattle.std.proofs.Common.{◌≡◌, ℕ, zero, suc, ◌+◌, ◌<◌, ◌≤◌, Bool, true, false, cond, List, [], ◌∷◌, ◌++◌, None, Some, length, refl, ap, sym, ◌∙◌, subst, nat_eq, arith}
use Rattle.std.specs.Prelude.{slice_get}
use Rattle.std.specs.List.{AllByRecursion}
use Rattle.std.proofs.lemmas.Bool.{eqb-true}
use Rattle.std.proofs.lemmas.Option.{slice_get_within}
use Rattle.area_index.specs.declared.nodes.Node.{Node}
use Rattle.area_index.specs.declared.nodes.Entry.{Entry}
use Rattle.area_index.specs.declared.nodes.TheConstants.{NONE}
use Rattle.area_index.specs.Shapes.{Shape, empty, fork, node_of}
use Rattle.area_index.specs.Standing.{IsStanding, Part, alone, rooted, IsPartStanding, one, count_in, count_in_all, AreParts, row_of}
use Rattle.area_index.proofs.Orders.{to_ba}
use Rattle.area_index.proofs.Standing.{closed, opened}

left_of : Shape → Shape
left_of empty = empty
left_of (fork l e h b r) = l

right_of : Shape → Shape
right_of empty = empty
right_of (fork l e h b r) = r

without_empty : {nodes : List Node} {a b : Part} (n : ℕ) {rest : List Part} → AreParts nodes (a ∷ b ∷ rooted n empty ∷ rest) → AreParts nodes (a ∷ b ∷ rest)
without_empty n s = record {
  each = (s.each.0, (s.each.1.0, s.each.1.1.1));
  apart = λ k. let m = s.apart k in omega arith;
  all = let m = s.all in omega arith;
  few = s.few;
}

-- the first free node is taken: the next one is left of it
pub first_taken : (nodes : List Node) (free : ℕ) (node : Node) (e : Entry) (es : List Entry) (rest : List Part) → slice_get nodes free ≡ Some node → AreParts nodes (rooted free (row_of (e ∷ es)) ∷ rest) → AreParts nodes (alone free ∷ rooted node.left (row_of es) ∷ rest)
unfolding node_of left_of right_of
first_taken nodes free node e es rest is a =
    let o = opened nodes free (row_of (e ∷ es)) node rest is a in
    let left : row_of es ≡ o.left = ap left_of o.is in
    let right : empty ≡ o.right = ap right_of o.is in
    without_empty node.right (subst (λ z. AreParts nodes (alone free ∷ rooted node.left (row_of es) ∷ rooted node.right z ∷ rest)) (sym right) (subst (λ z. AreParts nodes (alone free ∷ rooted node.left z ∷ rooted node.right o.right ∷ rest)) (sym left) o.parts))

pub none_free : (nodes : List Node) (free : ℕ) (e : Entry) (es : List Entry) (rest : List Part) → slice_get nodes free ≡ None → AreParts nodes (rooted free (row_of (e ∷ es)) ∷ rest) → ⊥
unfolding node_of
none_free nodes free e es rest is a = let n = closed nodes free (row_of (e ∷ es)) rest is a in cc

-- a node that stands alone and the free ones, as sides of a link
pub before_free : {nodes : List Node} {a b : Part} {rest : List Part} → AreParts nodes (a ∷ b ∷ rest) → AreParts nodes (b ∷ a ∷ rooted NONE empty ∷ rest)
before_free s = record {
  each = (s.each.1.0, (s.each.0, ((refl, tt), s.each.1.1)));
  apart = λ k. let m = s.apart k in omega arith;
  all = let m = s.all in omega arith;
  few = s.few;
}

-- ---- one node more

get-more : (nodes : List Node) (x : Node) (k : ℕ) (y : Node) → slice_get nodes k ≡ Some y → slice_get (nodes ++ x ∷ []) k ≡ Some y
get-more [] x k y h = cc
get-more (z ∷ nodes) x zero y h = h
get-more (z ∷ nodes) x (suc k) y h = get-more nodes x k y h

pub many-more : (nodes : List Node) (x : Node) → length (nodes ++ x ∷ []) ≡ length nodes + 1
many-more [] x = refl
many-more (z ∷ nodes) x = let e = many-more nodes x in omega arith

more : (nodes : List Node) (x : Node) (t : Shape) → IsStanding nodes t → IsStanding (nodes ++ x ∷ []) t
more nodes x empty s = tt
more nodes x (fork l e h b r) s = (get-more nodes x e.at _ s.0, more nodes x l s.1, more nodes x r s.2)

more_all : (nodes : List Node) (x : Node) (parts : List Part) → AllByRecursion (IsPartStanding nodes) parts → AllByRecursion (IsPartStanding (nodes ++ x ∷ [])) parts
more_all nodes x [] s = tt
more_all nodes x (alone n ∷ parts) s = (let e = many-more nodes x in let h : n < length nodes = s.0 in omega arith, more_all nodes x parts s.1)
more_all nodes x (rooted n t ∷ parts) s = ((s.0.0, more nodes x t s.0.1), more_all nodes x parts s.1)

abbrev bit : Bool → ℕ
bit w = cond w 1 0

one-other : (n k : ℕ) → k < n → one n k ≡ 0
one-other n k h = elim (nat_eq n k) as (λ w. nat_eq n k ≡ w → bit w ≡ 0) [ true ↦ λ e. absurd (let same = eqb-true n k e in omega arith) | false ↦ λ e. refl ] refl

none_past : (nodes : List Node) (t : Shape) → IsStanding nodes t → count_in (length nodes) t ≡ 0
none_past nodes empty s = refl
none_past nodes (fork l e h b r) s =
    let within : e.at < length nodes = slice_get_within nodes e.at _ s.0 in
    let x = one-other (length nodes) e.at within in
    let y = none_past nodes l s.1 in
    let z = none_past nodes r s.2 in
    omega arith

none_past_all : (nodes : List Node) (parts : List Part) → AllByRecursion (IsPartStanding nodes) parts → count_in_all (length nodes) parts ≡ 0
none_past_all nodes [] s = refl
none_past_all nodes (alone n ∷ parts) s = let x = one-other (length nodes) n s.0 in let y = none_past_all nodes parts s.1 in omega arith
none_past_all nodes (rooted n t ∷ parts) s = let x = none_past nodes t s.0.1 in let y = none_past_all nodes parts s.1 in omega arith

one-le : (k n : ℕ) → one k n ≤ 1
one-le k n = elim (nat_eq k n) as (λ w. bit w ≤ 1) [ true ↦ omega arith | false ↦ omega arith ]

apart_more : (nodes : List Node) (n : ℕ) (parts : List Part) → n ≡ length nodes → AllByRecursion (IsPartStanding nodes) parts → ((k : ℕ) → count_in_all k parts ≤ 1) → (k : ℕ) → one k n + count_in_all k parts ≤ 1
apart_more nodes n parts is s a k = elim (nat_eq k n) as (λ w. nat_eq k n ≡ w → bit w + count_in_all k parts ≤ 1) [
  | true ↦ λ e. let same : k ≡ length nodes = eqb-true k n e ∙ is in let z : count_in_all k parts ≡ 0 = ap (λ j. count_in_all j parts) same ∙ none_past_all nodes parts s in omega arith
  | false ↦ λ e. let z = a k in omega arith
] refl

pub grown : (nodes new : List Node) (x : Node) (n : ℕ) (a : Part) (rest : List Part) → new ≡ nodes ++ x ∷ [] → n ≡ length nodes → n < NONE → AreParts nodes (a ∷ rest) → AreParts new (a ∷ alone n ∷ rest)
grown nodes new x n a rest is at room s =
    let many = many-more nodes x in
    let first : AreParts (nodes ++ x ∷ []) (alone n ∷ a ∷ rest) = record {
      each = (omega arith, more_all nodes x (a ∷ rest) s.each);
      apart = apart_more nodes n (a ∷ rest) at s.each s.apart;
      all = let m = s.all in omega arith;
      few = omega arith;
    } in
    rw is (to_ba first)
