-- The pairs from left to right, after a change.
use Rattle.std.proofs.Common.{◌≡◌, true, false, cond, [], ◌∷◌, ◌++◌, refl, ap, sym, ◌∙◌, append_assoc, nat_lt, nat_le}
use Rattle.std.specs.declared.cmp.Ordering.{Ordering}
use Rattle.std.specs.declared.cmp.Ordering.TheVariants.{Less, Equal, Greater}
use Rattle.std.specs.Ordering.{match_ordering}
use Rattle.std.specs.List.{filter}
use Rattle.std.specs.BTreeSet.{insert_key}
use Rattle.area_index.specs.declared.pairs.Pair.{Pair}
use Rattle.area_index.specs.declared.nodes.Entry.{Entry}
use Rattle.area_index.specs.Pairs.{pair_cmp, pairs_total}
use Rattle.area_index.specs.Shapes.{Shape, empty, fork, in_order, height_of, higher, node_of, raised, lean_left, lean_right, balanced, inserted, first_of, rest_of, joined, removed, IsOrdered}
use Rattle.area_index.proofs.Ordered.{insert_left, insert_right, insert_here, leave_left, leave_right, leave_here, differs, sorted_front, sorted_back}

pub in_order-node_of : (l : Shape) (p : Entry) (r : Shape) → in_order (node_of l p r) ≡ in_order l ++ p.pair ∷ in_order r
unfolding node_of
in_order-node_of l p r = refl

in_order-raised : (l : Shape) (p : Entry) (m : Shape) (q : Entry) (r : Shape) → in_order (raised l p m q r) ≡ in_order l ++ p.pair ∷ (in_order m ++ q.pair ∷ in_order r)
unfolding raised node_of
in_order-raised l p empty q r = append_assoc (in_order l) (p.pair ∷ []) (q.pair ∷ in_order r)
in_order-raised l p (fork a x h b c) q r =
    append_assoc (in_order l) (p.pair ∷ in_order a) (x.pair ∷ (in_order c ++ q.pair ∷ in_order r))
    ∙ ap (λ z. in_order l ++ p.pair ∷ z) (sym (append_assoc (in_order a) (x.pair ∷ in_order c) (q.pair ∷ in_order r)))

in_order-lean_left : (l : Shape) (p : Entry) (r : Shape) → in_order (lean_left l p r) ≡ in_order l ++ p.pair ∷ in_order r
unfolding lean_left node_of
in_order-lean_left empty q r = refl
in_order-lean_left (fork l p h b m) q r =
    let e = sym (append_assoc (in_order l) (p.pair ∷ in_order m) (q.pair ∷ in_order r)) in
    elim (nat_le (height_of m) (height_of l)) as (λ c. in_order (cond c (node_of l p (node_of m q r)) (raised l p m q r)) ≡ (in_order l ++ p.pair ∷ in_order m) ++ q.pair ∷ in_order r) [
      | true ↦ e
      | false ↦ in_order-raised l p m q r ∙ e
    ]

in_order-lean_right : (l : Shape) (p : Entry) (r : Shape) → in_order (lean_right l p r) ≡ in_order l ++ p.pair ∷ in_order r
unfolding lean_right node_of
in_order-lean_right l p empty = refl
in_order-lean_right l p (fork m q h b r) =
    elim (nat_le (height_of m) (height_of r)) as (λ c. in_order (cond c (node_of (node_of l p m) q r) (raised l p m q r)) ≡ in_order l ++ p.pair ∷ (in_order m ++ q.pair ∷ in_order r)) [
      | true ↦ append_assoc (in_order l) (p.pair ∷ in_order m) (q.pair ∷ in_order r)
      | false ↦ in_order-raised l p m q r
    ]

pub in_order-balanced : (l : Shape) (p : Entry) (r : Shape) → in_order (balanced l p r) ≡ in_order l ++ p.pair ∷ in_order r
unfolding balanced
in_order-balanced l p r =
    elim (nat_lt (higher (height_of r)) (height_of l)) as (λ c. in_order (cond c (lean_left l p r) (cond (nat_lt (higher (height_of l)) (height_of r)) (lean_right l p r) (node_of l p r))) ≡ in_order l ++ p.pair ∷ in_order r) [
      | true ↦ in_order-lean_left l p r
      | false ↦ elim (nat_lt (higher (height_of l)) (height_of r)) as (λ c. in_order (cond c (lean_right l p r) (node_of l p r)) ≡ in_order l ++ p.pair ∷ in_order r) [
        | true ↦ in_order-lean_right l p r
        | false ↦ in_order-node_of l p r
      ]
    ]

in_order-rest_of : (l : Shape) (p : Entry) (r : Shape) → (first_of l p).pair ∷ in_order (rest_of l p r) ≡ in_order l ++ p.pair ∷ in_order r
in_order-rest_of empty p r = refl
in_order-rest_of (fork l q h b m) p r =
    ap (λ z. (first_of l q).pair ∷ z) (in_order-balanced (rest_of l q m) p r)
    ∙ ap (λ z. z ++ p.pair ∷ in_order r) (in_order-rest_of l q m)

pub in_order-joined : (l r : Shape) → in_order (joined l r) ≡ in_order l ++ in_order r
in_order-joined l empty = sym (Rattle.std.proofs.lemmas.List.append-nil (in_order l))
in_order-joined l (fork m p h b r) =
    in_order-balanced l (first_of m p) (rest_of m p r)
    ∙ ap (λ z. in_order l ++ z) (in_order-rest_of m p r)

pub in_order-inserted : (t : Shape) (p : Entry) → IsOrdered t → in_order (inserted t p) ≡ insert_key pair_cmp (in_order t) p.pair
in_order-inserted empty p s = in_order-node_of empty p empty
in_order-inserted (fork l q h b r) p s = by (in_order-inserted l p (sorted_front pair_cmp (in_order l) (q.pair ∷ in_order r) s)) (in_order-inserted r p (sorted_back pair_cmp (in_order l) q.pair (in_order r) s)) (pair_cmp p.pair q.pair) refl where
  by : in_order (inserted l p) ≡ insert_key pair_cmp (in_order l) p.pair → in_order (inserted r p) ≡ insert_key pair_cmp (in_order r) p.pair → (o : Ordering) → pair_cmp p.pair q.pair ≡ o → in_order (match_ordering o (balanced (inserted l p) q r) (node_of l q r) (balanced l q (inserted r p))) ≡ insert_key pair_cmp (in_order l ++ q.pair ∷ in_order r) p.pair
  by left right Less e =
      in_order-balanced (inserted l p) q r
      ∙ ap (λ z. z ++ q.pair ∷ in_order r) left
      ∙ sym (insert_left pair_cmp p.pair (in_order l) q.pair (in_order r) e)
  by left right Equal e = in_order-node_of l q r ∙ sym (insert_here pairs_total p.pair (in_order l) q.pair (in_order r) s e)
  by left right Greater e =
      in_order-balanced l q (inserted r p)
      ∙ ap (λ z. in_order l ++ q.pair ∷ z) right
      ∙ sym (insert_right pairs_total p.pair (in_order l) q.pair (in_order r) s e)

pub in_order-removed : (t : Shape) (p : Pair) → IsOrdered t → in_order (removed t p) ≡ filter (differs pair_cmp p) (in_order t)
in_order-removed empty p s = refl
in_order-removed (fork l q h b r) p s = by (in_order-removed l p (sorted_front pair_cmp (in_order l) (q.pair ∷ in_order r) s)) (in_order-removed r p (sorted_back pair_cmp (in_order l) q.pair (in_order r) s)) (pair_cmp p q.pair) refl where
  by : in_order (removed l p) ≡ filter (differs pair_cmp p) (in_order l) → in_order (removed r p) ≡ filter (differs pair_cmp p) (in_order r) → (o : Ordering) → pair_cmp p q.pair ≡ o → in_order (match_ordering o (balanced (removed l p) q r) (joined l r) (balanced l q (removed r p))) ≡ filter (differs pair_cmp p) (in_order l ++ q.pair ∷ in_order r)
  by left right Less e =
      in_order-balanced (removed l p) q r
      ∙ ap (λ z. z ++ q.pair ∷ in_order r) left
      ∙ sym (leave_left pairs_total p (in_order l) q.pair (in_order r) s e)
  by left right Equal e = in_order-joined l r ∙ sym (leave_here pairs_total p (in_order l) q.pair (in_order r) s e)
  by left right Greater e =
      in_order-balanced l q (removed r p)
      ∙ ap (λ z. in_order l ++ q.pair ∷ z) right
      ∙ sym (leave_right pairs_total p (in_order l) q.pair (in_order r) s e)
