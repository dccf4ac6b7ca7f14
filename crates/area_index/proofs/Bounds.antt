-- How many nodes the walk looks at, and how many levels a tree has.
use Rattle.std.proofs.Common.{◌≡◌, ℕ, suc, ◌+◌, ◌*◌, ◌^◌, ◌<◌, ◌≤◌, max, Bool, true, false, cond, ◌&&◌, ◌⊎◌, inl, inr, ◌∷◌, length-append, refl, ap, ◌∙◌, nat_lt, nat_le, arith}
use Rattle.std.proofs.Math.Nat.{mul-le-mul_left, mul-le-mul_right, pow-suc, pow-le-pow_right, add-mul, mul-add}
use Rattle.std.proofs.lemmas.Bool.{ltb-true, ltb-false, le-leb}
use Rattle.std.proofs.lemmas.Bool.Decides.{leb_tells}
use Rattle.std.proofs.lemmas.List.Sums.{sum_by-append, sum_by-cons}
use Rattle.std.specs.List.{AllByRecursion}
use Rattle.area_index.specs.declared.pairs.Pair.{Pair}
use Rattle.area_index.specs.declared.nodes.Entry.{Entry}
use Rattle.area_index.specs.Pairs.{pair_cmp}
use Rattle.area_index.specs.Shapes.{Shape, empty, fork, in_order, height_of, bottom_of, IsLevel, IsOrdered}
use Rattle.area_index.specs.Walk.{visits, rows_have, pairs_in, pairs_at}
use Rattle.area_index.proofs.Ordered.{sorted_front, sorted_back, front_below, all_map, all_front, all_middle, all_behind}
use Rattle.area_index.proofs.Found.{tops_rise}

-- 1 for a pair whose rows have the row
abbrev one_at : ℕ → Pair → ℕ
one_at row p = cond (rows_have row p) 1 0

pairs_at-fork : (l : Shape) (p : Entry) (h b : ℕ) (r : Shape) (row : ℕ) → pairs_at (fork l p h b r) row ≡ pairs_at l row + (one_at row p.pair + pairs_at r row)
pairs_at-fork l p h b r row =
    sum_by-append (one_at row) (in_order l) (p.pair ∷ in_order r)
    ∙ ap (λ z. pairs_at l row + z) (sum_by-cons (one_at row) p.pair (in_order r))

both : (a b : Bool) → a ≡ true → b ≡ true → (a && b) ≡ true
both a b e f = rw (e, f) refl

one-is : (row : ℕ) (p : Pair) → p.area.top ≤ row → row ≤ p.area.bottom → one_at row p ≡ 1
one-is row p a b = ap (λ w. cond w 1 0) (both _ _ (le-leb p.area.top row a) (le-leb row p.area.bottom b))

-- a tree whose areas begin no lower than a row, and that ends no higher, has a pair at the row
some_at : (t : Shape) (row : ℕ) → IsLevel t → AllByRecursion (λ p. p.area.top ≤ row) (in_order t) → 1 ≤ row → row ≤ bottom_of t → 1 ≤ pairs_at t row
some_at empty row a tops positive reach = absurd (omega arith)
some_at (fork l p h b r) row a tops positive reach =
    let e : b ≡ max p.pair.area.bottom (max (bottom_of l) (bottom_of r)) = a.5 in
    let k = pairs_at-fork l p h b r row in
    let here = all_middle _ (in_order l) p.pair (in_order r) tops in
    let left = some_at l row a.0 (all_front _ (in_order l) (p.pair ∷ in_order r) tops) positive in
    let right = some_at r row a.1 (all_behind _ (in_order l) p.pair (in_order r) tops) positive in
    elim (leb_tells row p.pair.area.bottom) as (λ _. 1 ≤ pairs_at (fork l p h b r) row) [
      | inl x ↦ let o = one-is row p.pair here x.1 in omega arith
      | inr x ↦ elim (leb_tells row (bottom_of l)) as (λ _. 1 ≤ pairs_at (fork l p h b r) row) [
        | inl y ↦ let o = left y.1 in omega arith
        | inr y ↦ let o : 1 ≤ pairs_at r row = right (let x1 = x.1 in let y1 = y.1 in omega arith) in omega arith
      ]
    ]

-- the products behind a step down both sides
products : (kl kr k hl hr m : ℕ) → kl + kr ≤ k → hl ≤ m → hr ≤ m → kl * hl + kr * hr ≤ k * m
products kl kr k hl hr m a b c =
    let x : kl * hl ≤ kl * m = mul-le-mul_left kl b in
    let y : kr * hr ≤ kr * m = mul-le-mul_left kr c in
    let z : (kl + kr) * m ≤ k * m = mul-le-mul_right m a in
    let w : (kl + kr) * m ≡ kl * m + kr * m = add-mul kl kr m in
    omega arith

one_more : (k m : ℕ) → k * (m + 1) ≡ k * m + k
one_more k m = mul-add k m 1 ∙ ap (λ z. k * m + z) (Rattle.std.proofs.Math.Nat.mul-one k)

-- where every area begins no lower than the row, each level has no more nodes gone through than pairs at the row
visits_above : (t : Shape) (row : ℕ) → IsLevel t → AllByRecursion (λ p. p.area.top ≤ row) (in_order t) → visits t row ≤ 1 + 2 * (pairs_at t row * height_of t)
visits_above empty row a tops = omega arith
visits_above (fork l p h b r) row a tops = by (nat_lt b row) refl (nat_lt row p.pair.area.top) refl (visits_above l row a.0 (all_front _ (in_order l) (p.pair ∷ in_order r) tops)) (visits_above r row a.1 (all_behind _ (in_order l) p.pair (in_order r) tops)) where
  k : ℕ
  k = pairs_at (fork l p h b r) row

  some : nat_lt b row ≡ false → 1 ≤ pairs_at (fork l p h b r) row
  some n =
      let reach : row ≤ b = ltb-false b row n in
      let e = pairs_at-fork l p h b r row in
      let here = all_middle _ (in_order l) p.pair (in_order r) tops in
      elim (leb_tells row p.pair.area.bottom) as (λ _. 1 ≤ pairs_at (fork l p h b r) row) [
        | inl x ↦ let o = one-is row p.pair here x.1 in omega arith
        | inr x ↦ some_at (fork l p h b r) row a tops (let y = x.1 in omega arith) reach
      ]

  by : (w : Bool) → nat_lt b row ≡ w → (v : Bool) → nat_lt row p.pair.area.top ≡ v → visits l row ≤ 1 + 2 * (pairs_at l row * height_of l) → visits r row ≤ 1 + 2 * (pairs_at r row * height_of r) → cond w 1 (1 + visits l row + cond v 0 (visits r row)) ≤ 1 + 2 * (pairs_at (fork l p h b r) row * h)
  by true n v e x y = omega arith
  by false n true e x y = absurd (let u : row < p.pair.area.top = ltb-true row p.pair.area.top e in let here = all_middle _ (in_order l) p.pair (in_order r) tops in omega arith)
  by false n false e x y =
      let m = max (height_of l) (height_of r) in
      let g : h ≡ m + 1 = a.2 in
      let one = some n in
      let c = pairs_at-fork l p h b r row in
      let q = products (pairs_at l row) (pairs_at r row) (pairs_at (fork l p h b r) row) (height_of l) (height_of r) m (omega arith) (omega arith) (omega arith) in
      rw g (let s = one_more (pairs_at (fork l p h b r) row) m in omega arith)

-- the walk looks at no more than twice the levels for each pair at the row, and as many again
pub visits-le : (t : Shape) (row : ℕ) → IsLevel t → IsOrdered t → visits t row ≤ 2 * ((pairs_at t row + 1) * height_of t)
visits-le empty row a s = omega arith
visits-le (fork l p h b r) row a s = by (nat_lt b row) refl (nat_lt row p.pair.area.top) refl (visits-le l row a.0 (sorted_front pair_cmp (in_order l) (p.pair ∷ in_order r) s)) (visits-le r row a.1 (sorted_back pair_cmp (in_order l) p.pair (in_order r) s)) where
  by : (w : Bool) → nat_lt b row ≡ w → (v : Bool) → nat_lt row p.pair.area.top ≡ v → visits l row ≤ 2 * ((pairs_at l row + 1) * height_of l) → visits r row ≤ 2 * ((pairs_at r row + 1) * height_of r) → cond w 1 (1 + visits l row + cond v 0 (visits r row)) ≤ 2 * ((pairs_at (fork l p h b r) row + 1) * h)
  by true n v e x y =
      let m = max (height_of l) (height_of r) in
      let g : h ≡ m + 1 = a.2 in
      rw g (let z = one_more (pairs_at (fork l p h b r) row + 1) m in omega arith)
  by false n true e x y =
      let m = max (height_of l) (height_of r) in
      let g : h ≡ m + 1 = a.2 in
      let c = pairs_at-fork l p h b r row in
      let q = products (pairs_at l row + 1) 0 (pairs_at (fork l p h b r) row + 1) (height_of l) 0 m (omega arith) (omega arith) (omega arith) in
      rw g (let z = one_more (pairs_at (fork l p h b r) row + 1) m in omega arith)
  by false n false e x y =
      let m = max (height_of l) (height_of r) in
      let g : h ≡ m + 1 = a.2 in
      let c = pairs_at-fork l p h b r row in
      let u : p.pair.area.top ≤ row = ltb-false row p.pair.area.top e in
      let w = visits_above l row a.0 (all_map _ (λ q. q.area.top ≤ row) (in_order l) (λ q k. let j = tops_rise q p.pair k in omega arith) (front_below pair_cmp (in_order l) p.pair (in_order r) s)) in
      let q = products (pairs_at l row) (pairs_at r row + 1) (pairs_at (fork l p h b r) row + 1) (height_of l) (height_of r) m (omega arith) (omega arith) (omega arith) in
      rw g (let z = one_more (pairs_at (fork l p h b r) row + 1) m in omega arith)

-- squares of two sides, where neither is less than half the other
squares : (x y a c : ℕ) → x ≤ a * a → y ≤ c * c → x ≤ 2 * y → y ≤ 2 * x → (2 * x ≤ (a + c) * (a + c)) × (2 * y ≤ (a + c) * (a + c))
squares x y a c f g u v =
    let s : (a + c) * (a + c) ≡ (a + c) * a + (a + c) * c = mul-add (a + c) a c in
    let s1 : (a + c) * a ≡ a * a + c * a = add-mul a c a in
    let s2 : (a + c) * c ≡ a * c + c * c = add-mul a c c in
    elim (leb_tells a c) as (λ _. (2 * x ≤ (a + c) * (a + c)) × (2 * y ≤ (a + c) * (a + c))) [
      | inl k ↦ let o : a * a ≤ a * c = mul-le-mul_left a k.1 in let o1 : a * a ≤ c * a = mul-le-mul_right a k.1 in (omega arith, omega arith)
      | inr k ↦ let k1 : c ≤ a = (let z = k.1 in omega arith) in let o : c * c ≤ c * a = mul-le-mul_left c k1 in let o1 : c * c ≤ a * c = mul-le-mul_right c k1 in (omega arith, omega arith)
    ]

doubled : (i j : ℕ) → i ≤ j + 1 → 2 ^ i ≤ 2 * 2 ^ j
doubled i j e = let u : 2 ^ i ≤ 2 ^ suc j = pow-le-pow_right (omega arith) (omega arith) in let v : 2 ^ suc j ≡ 2 ^ j * 2 = pow-suc 2 j in omega arith

-- the levels of a tree
pub levels-le : (t : Shape) → IsLevel t → 2 ^ height_of t ≤ (pairs_in t + 1) * (pairs_in t + 1)
levels-le empty a = omega arith
levels-le (fork l p h b r) a =
    let m = max (height_of l) (height_of r) in
    let g : h ≡ m + 1 = a.2 in
    let n : pairs_in (fork l p h b r) + 1 ≡ (pairs_in l + 1) + (pairs_in r + 1) = omega (arith, length-append (in_order l) (p.pair ∷ in_order r)) in
    let s = squares (2 ^ height_of l) (2 ^ height_of r) (pairs_in l + 1) (pairs_in r + 1) (levels-le l a.0) (levels-le r a.1) (doubled (height_of l) (height_of r) a.3) (doubled (height_of r) (height_of l) a.4) in
    rw (n, g) (top s (leb_tells (height_of l) (height_of r))) where
      top : (2 * 2 ^ height_of l ≤ ((pairs_in l + 1) + (pairs_in r + 1)) * ((pairs_in l + 1) + (pairs_in r + 1))) × (2 * 2 ^ height_of r ≤ ((pairs_in l + 1) + (pairs_in r + 1)) * ((pairs_in l + 1) + (pairs_in r + 1))) → ((nat_le (height_of l) (height_of r) ≡ true) × (height_of l ≤ height_of r)) ⊎ ((nat_le (height_of l) (height_of r) ≡ false) × (height_of r < height_of l)) → 2 ^ (max (height_of l) (height_of r) + 1) ≤ ((pairs_in l + 1) + (pairs_in r + 1)) * ((pairs_in l + 1) + (pairs_in r + 1))
      top s (inl k) =
          let e : max (height_of l) (height_of r) + 1 ≡ suc (height_of r) = (let z = k.1 in omega arith) in
          let u : 2 ^ suc (height_of r) ≡ 2 ^ height_of r * 2 = pow-suc 2 (height_of r) in
          rw e (let z = s.1 in omega arith)
      top s (inr k) =
          let e : max (height_of l) (height_of r) + 1 ≡ suc (height_of l) = (let z = k.1 in omega arith) in
          let u : 2 ^ suc (height_of l) ≡ 2 ^ height_of l * 2 = pow-suc 2 (height_of l) in
          rw e (let z = s.0 in omega arith)
