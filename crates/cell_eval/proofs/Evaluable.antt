-- What parts may ask of their own parts: small areas, few sites, less weight.
use Rattle.std.proofs.Common.{◌≡◌, ℕ, zero, suc, ◌+◌, ◌<◌, ◌≤◌, List, [], ◌∷◌, ◌++◌, map, length, take, drop, get_or, All, refl, sym, ap, ◌∙◌, subst, arith}
use Rattle.std.proofs.lemmas.List.{drop_more}
use Rattle.std.proofs.lemmas.List.Elements.{All-head, All-tail, All-cons, All-nil}
use Rattle.cell_refs.specs.declared.areas.Area.{Area}
use Rattle.cell_refs.specs.Area.{size_of}
use Rattle.cell_eval.specs.Steps.{NamesSmallAreas, sites_among}
use Rattle.cell_eval.proofs.Weights.{weight, weights, weights_first}
use Rattle.formula_parse.proofs.PublicLaws.{fold_call, fold_parentheses, fold_negation, fold_chain}
use Rattle.formula_parse.specs.declared.callees.Callee.{Callee}
use Rattle.formula_parse.specs.declared.nodes.Node.{Node}
use Rattle.formula_parse.specs.declared.nodes.Node.TheVariants as nodes
use Rattle.formula_parse.specs.declared.operators.Operator.{Operator}
use Rattle.formula_parse.specs.Tree.{areas_named, areas_step, concat, site_count}

-- ---- small areas
abbrev IsSmall : Area → Type 0
IsSmall area = size_of area ≤ 65536

-- what holds of each of two lists together, holds of each
all_front : {X : Type 0} (P : X → Type 0) (xs ys : List X) → All P (xs ++ ys) → All P xs
all_front P [] ys h = All-nil P
all_front P (x ∷ xs) ys h = All-cons P x xs (All-head P x (xs ++ ys) h) (all_front P xs ys (All-tail P x (xs ++ ys) h))

all_back : {X : Type 0} (P : X → Type 0) (xs ys : List X) → All P (xs ++ ys) → All P ys
all_back P [] ys h = h
all_back P (x ∷ xs) ys h = all_back P xs ys (All-tail P x (xs ++ ys) h)

-- the areas of several parts
small_all : (home : ℕ) (ns : List Node) → All IsSmall (concat (map (λ n. areas_named n home) ns)) → All (NamesSmallAreas home) ns
unfolding NamesSmallAreas
small_all home [] h = All-nil (NamesSmallAreas home)
small_all home (n ∷ ns) h =
    All-cons (NamesSmallAreas home) n ns (all_front IsSmall (areas_named n home) (concat (map (λ m. areas_named m home) ns)) h)
    (small_all home ns (all_back IsSmall (areas_named n home) (concat (map (λ m. areas_named m home) ns)) h))

pub small_call : (home : ℕ) (node : Node) (callee : Callee) (arguments : List Node) → node ≡ nodes.Call callee arguments → NamesSmallAreas home node → All (NamesSmallAreas home) arguments
unfolding NamesSmallAreas
small_call home node callee arguments is h = small_all home arguments (subst (All IsSmall) (ap (λ n. areas_named n home) is ∙ fold_call (List Area) (areas_step home) callee arguments) h)

pub small_chain : (home : ℕ) (node : Node) (operands : List Node) (ops : List Operator) → node ≡ nodes.Chain operands ops → NamesSmallAreas home node → All (NamesSmallAreas home) operands
unfolding NamesSmallAreas
small_chain home node operands ops is h = small_all home operands (subst (All IsSmall) (ap (λ n. areas_named n home) is ∙ fold_chain (List Area) (areas_step home) operands ops) h)

pub small_parentheses : (home : ℕ) (node inner : Node) → node ≡ nodes.Parentheses inner → NamesSmallAreas home node → NamesSmallAreas home inner
unfolding NamesSmallAreas
small_parentheses home node inner is h = subst (All IsSmall) (ap (λ n. areas_named n home) is ∙ fold_parentheses (List Area) (areas_step home) inner) h

pub small_negation : (home : ℕ) (node : Node) (count : ℕ) (operand : Node) → node ≡ nodes.Negation count operand → NamesSmallAreas home node → NamesSmallAreas home operand
unfolding NamesSmallAreas
small_negation home node count operand is h = subst (All IsSmall) (ap (λ n. areas_named n home) is ∙ fold_negation (List Area) (areas_step home) count operand) h

-- ---- the first of several parts, and the others
pub record Split (home : ℕ) (ns : List Node) (n : Node) (rest : List Node) : Type 0 where
  pub lighter : weights ns ≡ weight n + 2 + weights rest
  pub fewer : sites_among ns ≡ site_count n + sites_among rest
  pub small : NamesSmallAreas home n
  pub others : All (NamesSmallAreas home) rest

pub split : (home : ℕ) (ns : List Node) (n : Node) (rest : List Node) → ns ≡ n ∷ rest → All (NamesSmallAreas home) ns → Split home ns n rest
split home ns n rest is h =
    let all = subst (All (NamesSmallAreas home)) is h in
    record {
      lighter = ap weights is ∙ weights_first n rest;
      fewer = ap sites_among is;
      small = All-head (NamesSmallAreas home) n rest all;
      others = All-tail (NamesSmallAreas home) n rest all;
    }

-- the part at a place
pub record At (home : ℕ) (ns : List Node) (i : ℕ) (x : Node) : Type 0 where
  pub rest : sites_among (drop i ns) ≡ site_count x + sites_among (drop (i + 1) ns)
  pub whole : sites_among ns ≡ sites_among (take i ns) + (site_count x + sites_among (drop (i + 1) ns))
  pub small : NamesSmallAreas home x

-- the sites up to a place and from it on
pub taken_sites : (ns : List Node) (i : ℕ) → sites_among ns ≡ sites_among (take i ns) + sites_among (drop i ns)
taken_sites [] zero = refl
taken_sites [] (suc i) = refl
taken_sites (n ∷ ns) zero = omega arith
taken_sites (n ∷ ns) (suc i) = let h = taken_sites ns i in omega arith

pub part_at : (home : ℕ) (ns : List Node) (i : ℕ) (x : Node) → i < length ns → x ≡ get_or ns i x → All (NamesSmallAreas home) ns → At home ns i x
part_at home ns i x lt is h =
    let rest : sites_among (drop i ns) ≡ site_count x + sites_among (drop (i + 1) ns) =
    ap sites_among (drop_more ns i x lt) ∙ ap (λ (n : Node). site_count n + sites_among (drop (i + 1) ns)) (sym is) in
    record {
      rest = rest;
      whole = taken_sites ns i ∙ ap (λ k. sites_among (take i ns) + k) rest;
      small = subst (NamesSmallAreas home) (sym is) (h i x lt);
    }
