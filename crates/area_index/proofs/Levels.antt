-- Sides whose heights differ by at most one, after a change.
use Rattle.std.proofs.Common.{◌≡◌, ℕ, ◌+◌, ◌-◌, ◌<◌, ◌≤◌, max, Bool, true, false, cond, refl, ap, nat_lt, nat_le, arith}
use Rattle.std.proofs.lemmas.Bool.{lt-ltb, ltb-true, ltb-false, leb-true, leb-false}
use Rattle.std.specs.declared.cmp.Ordering.{Ordering}
use Rattle.std.specs.declared.cmp.Ordering.TheVariants.{Less, Equal, Greater}
use Rattle.std.specs.Ordering.{match_ordering}
use Rattle.area_index.specs.declared.pairs.Pair.{Pair}
use Rattle.area_index.specs.declared.nodes.Entry.{Entry}
use Rattle.area_index.specs.declared.nodes.TheConstants.{LEVELS}
use Rattle.area_index.specs.Pairs.{pair_cmp}
use Rattle.area_index.specs.Shapes.{Shape, empty, fork, height_of, higher, node_of, raised, lean_left, lean_right, balanced, inserted, first_of, rest_of, joined, removed, IsLevel}

-- one level more, where there is room
higher_one : (h : ℕ) → h < LEVELS → higher h ≡ h + 1
unfolding higher
higher_one h p = ap (λ b. cond b (h + 1) h) (lt-ltb h LEVELS p)

height-node_of : (l : Shape) (p : Entry) (r : Shape) → max (height_of l) (height_of r) < LEVELS → height_of (node_of l p r) ≡ max (height_of l) (height_of r) + 1
unfolding node_of
height-node_of l p r room = higher_one (max (height_of l) (height_of r)) room

level-node_of : (l : Shape) (p : Entry) (r : Shape) → IsLevel l → IsLevel r → height_of l ≤ height_of r + 1 → height_of r ≤ height_of l + 1 → max (height_of l) (height_of r) < LEVELS → IsLevel (node_of l p r)
unfolding node_of
level-node_of l p r a b c d room = (a, b, higher_one (max (height_of l) (height_of r)) room, c, d, refl)

-- a tree that is level, whose height lies between two numbers
pub record IsLevelWithin (t : Shape) (low high : ℕ) : Type 0 where
  pub level : IsLevel t
  pub not_lower : low ≤ height_of t
  pub not_higher : height_of t ≤ high

level-raised : (l : Shape) (p : Entry) (m : Shape) (q : Entry) (r : Shape) → IsLevel l → IsLevel m → IsLevel r → height_of l ≡ height_of r → height_of m ≡ height_of l + 1 → height_of l + 2 ≤ LEVELS → IsLevelWithin (raised l p m q r) (height_of l + 2) (height_of l + 2)
unfolding raised
level-raised l p empty q r a b c e f room = absurd (omega arith)
level-raised l p (fork u x h w v) q r a b c e f room =
    let g : h ≡ max (height_of u) (height_of v) + 1 = b.2 in
    let g1 : height_of u ≤ height_of v + 1 = b.3 in
    let g2 : height_of v ≤ height_of u + 1 = b.4 in
    let h1 : height_of (node_of l p u) ≡ max (height_of l) (height_of u) + 1 = height-node_of l p u (omega arith) in
    let h2 : height_of (node_of v q r) ≡ max (height_of v) (height_of r) + 1 = height-node_of v q r (omega arith) in
    let l1 : IsLevel (node_of l p u) = level-node_of l p u a b.0 (omega arith) (omega arith) (omega arith) in
    let l2 : IsLevel (node_of v q r) = level-node_of v q r b.1 c (omega arith) (omega arith) (omega arith) in
    let h3 : height_of (node_of (node_of l p u) x (node_of v q r)) ≡ max (height_of (node_of l p u)) (height_of (node_of v q r)) + 1 = height-node_of (node_of l p u) x (node_of v q r) (omega arith) in
    record {
      level = level-node_of (node_of l p u) x (node_of v q r) l1 l2 (omega arith) (omega arith) (omega arith);
      not_lower = omega arith;
      not_higher = omega arith;
    }

level-lean_left : (l : Shape) (p : Entry) (h b : ℕ) (m : Shape) (q : Entry) (r : Shape) → IsLevel (fork l p h b m) → IsLevel r → h ≡ height_of r + 2 → h < LEVELS → IsLevelWithin (lean_left (fork l p h b m) q r) h (h + 1)
unfolding lean_left
level-lean_left l p h b m q r a c e room = by (nat_le (height_of m) (height_of l)) refl where
  g : h ≡ max (height_of l) (height_of m) + 1
  g = a.2

  g1 : height_of l ≤ height_of m + 1
  g1 = a.3

  g2 : height_of m ≤ height_of l + 1
  g2 = a.4

  by : (w : Bool) → nat_le (height_of m) (height_of l) ≡ w → IsLevelWithin (cond w (node_of l p (node_of m q r)) (raised l p m q r)) h (h + 1)
  by true is =
      let k1 = g in let k2 = g1 in let k3 = g2 in
      let n : height_of m ≤ height_of l = leb-true (height_of m) (height_of l) is in
      let h1 : height_of (node_of m q r) ≡ max (height_of m) (height_of r) + 1 = height-node_of m q r (omega arith) in
      let l1 : IsLevel (node_of m q r) = level-node_of m q r a.1 c (omega arith) (omega arith) (omega arith) in
      let h2 : height_of (node_of l p (node_of m q r)) ≡ max (height_of l) (height_of (node_of m q r)) + 1 = height-node_of l p (node_of m q r) (omega arith) in
      record {
        level = level-node_of l p (node_of m q r) a.0 l1 (omega arith) (omega arith) (omega arith);
        not_lower = omega arith;
        not_higher = omega arith;
      }
  by false is =
      let k1 = g in let k2 = g1 in let k3 = g2 in
      let n : height_of l < height_of m = leb-false (height_of m) (height_of l) is in
      let s : IsLevelWithin (raised l p m q r) (height_of l + 2) (height_of l + 2) = level-raised l p m q r a.0 a.1 c (omega arith) (omega arith) (omega arith) in
      let s1 = s.not_lower in let s2 = s.not_higher in
      record { level = s.level; not_lower = omega arith; not_higher = omega arith }

level-lean_right : (l : Shape) (p : Entry) (m : Shape) (q : Entry) (h b : ℕ) (r : Shape) → IsLevel l → IsLevel (fork m q h b r) → h ≡ height_of l + 2 → h < LEVELS → IsLevelWithin (lean_right l p (fork m q h b r)) h (h + 1)
unfolding lean_right
level-lean_right l p m q h b r c a e room = by (nat_le (height_of m) (height_of r)) refl where
  g : h ≡ max (height_of m) (height_of r) + 1
  g = a.2

  g1 : height_of m ≤ height_of r + 1
  g1 = a.3

  g2 : height_of r ≤ height_of m + 1
  g2 = a.4

  by : (w : Bool) → nat_le (height_of m) (height_of r) ≡ w → IsLevelWithin (cond w (node_of (node_of l p m) q r) (raised l p m q r)) h (h + 1)
  by true is =
      let k1 = g in let k2 = g1 in let k3 = g2 in
      let n : height_of m ≤ height_of r = leb-true (height_of m) (height_of r) is in
      let h1 : height_of (node_of l p m) ≡ max (height_of l) (height_of m) + 1 = height-node_of l p m (omega arith) in
      let l1 : IsLevel (node_of l p m) = level-node_of l p m c a.0 (omega arith) (omega arith) (omega arith) in
      let h2 : height_of (node_of (node_of l p m) q r) ≡ max (height_of (node_of l p m)) (height_of r) + 1 = height-node_of (node_of l p m) q r (omega arith) in
      record {
        level = level-node_of (node_of l p m) q r l1 a.1 (omega arith) (omega arith) (omega arith);
        not_lower = omega arith;
        not_higher = omega arith;
      }
  by false is =
      let k1 = g in let k2 = g1 in let k3 = g2 in
      let n : height_of r < height_of m = leb-false (height_of m) (height_of r) is in
      let s : IsLevelWithin (raised l p m q r) (height_of l + 2) (height_of l + 2) = level-raised l p m q r c a.0 a.1 (omega arith) (omega arith) (omega arith) in
      let s1 = s.not_lower in let s2 = s.not_higher in
      record { level = s.level; not_lower = omega arith; not_higher = omega arith }

-- what a pair between two trees settles to
pub record SettlesTo (t : Shape) (l r : ℕ) : Type 0 where
  pub level : IsLevel t
  pub not_lower : max l r ≤ height_of t
  pub not_higher : height_of t ≤ max l r + 1
  pub kept : max l r + 1 ≤ height_of t + (l - (r + 1)) + (r - (l + 1))

level-left : (l : Shape) (p : Entry) (r : Shape) → IsLevel l → IsLevel r → height_of l ≡ height_of r + 2 → height_of l < LEVELS → IsLevelWithin (lean_left l p r) (height_of l) (height_of l + 1)
level-left empty p r a b e room = absurd (omega arith)
level-left (fork l q h c m) p r a b e room = level-lean_left l q h c m p r a b e room

level-right : (l : Shape) (p : Entry) (r : Shape) → IsLevel l → IsLevel r → height_of r ≡ height_of l + 2 → height_of r < LEVELS → IsLevelWithin (lean_right l p r) (height_of r) (height_of r + 1)
level-right l p empty a b e room = absurd (omega arith)
level-right l p (fork m q h c r) a b e room = level-lean_right l p m q h c r a b e room

pub level-balanced : (l : Shape) (p : Entry) (r : Shape) → IsLevel l → IsLevel r → height_of l ≤ height_of r + 2 → height_of r ≤ height_of l + 2 → height_of l < LEVELS → height_of r < LEVELS → SettlesTo (balanced l p r) (height_of l) (height_of r)
unfolding balanced
level-balanced l p r a b c d room more = by (nat_lt (higher (height_of r)) (height_of l)) refl where
  one : higher (height_of r) ≡ height_of r + 1
  one = higher_one (height_of r) more

  other : higher (height_of l) ≡ height_of l + 1
  other = higher_one (height_of l) room

  by_right : (w : Bool) → nat_lt (higher (height_of l)) (height_of r) ≡ w → height_of l ≤ height_of r + 1 → SettlesTo (cond w (lean_right l p r) (node_of l p r)) (height_of l) (height_of r)
  by_right true is n =
      let u : higher (height_of l) < height_of r = ltb-true (higher (height_of l)) (height_of r) is in
      let k = other in
      let s : IsLevelWithin (lean_right l p r) (height_of r) (height_of r + 1) = level-right l p r a b (omega arith) more in
      let s1 = s.not_lower in let s2 = s.not_higher in
      record { level = s.level; not_lower = omega arith; not_higher = omega arith; kept = omega arith }
  by_right false is n =
      let u : height_of r ≤ higher (height_of l) = ltb-false (higher (height_of l)) (height_of r) is in
      let k = other in
      let e : height_of (node_of l p r) ≡ max (height_of l) (height_of r) + 1 = height-node_of l p r (omega arith) in
      record { level = level-node_of l p r a b n (omega arith) (omega arith); not_lower = omega arith; not_higher = omega arith; kept = omega arith }

  by : (w : Bool) → nat_lt (higher (height_of r)) (height_of l) ≡ w → SettlesTo (cond w (lean_left l p r) (cond (nat_lt (higher (height_of l)) (height_of r)) (lean_right l p r) (node_of l p r))) (height_of l) (height_of r)
  by true is =
      let u : higher (height_of r) < height_of l = ltb-true (higher (height_of r)) (height_of l) is in
      let k = one in
      let s : IsLevelWithin (lean_left l p r) (height_of l) (height_of l + 1) = level-left l p r a b (omega arith) room in
      let s1 = s.not_lower in let s2 = s.not_higher in
      record { level = s.level; not_lower = omega arith; not_higher = omega arith; kept = omega arith }
  by false is =
      let u : height_of l ≤ higher (height_of r) = ltb-false (higher (height_of r)) (height_of l) is in
      let k = one in
      by_right (nat_lt (higher (height_of l)) (height_of r)) refl (omega arith)

-- a pair more makes a tree one level higher at most
pub level-inserted : (t : Shape) (p : Entry) → IsLevel t → height_of t + 1 < LEVELS → IsLevelWithin (inserted t p) (height_of t) (height_of t + 1)
level-inserted empty p a room =
    let e : height_of (node_of empty p empty) ≡ 1 = height-node_of empty p empty (omega arith) in
    record { level = level-node_of empty p empty tt tt (omega arith) (omega arith) (omega arith); not_lower = omega arith; not_higher = omega arith }
level-inserted (fork l q h b r) p a room =
    let g : h ≡ max (height_of l) (height_of r) + 1 = a.2 in
    by (level-inserted l p a.0 (omega arith)) (level-inserted r p a.1 (omega arith)) (pair_cmp p.pair q.pair) where
      by : IsLevelWithin (inserted l p) (height_of l) (height_of l + 1) → IsLevelWithin (inserted r p) (height_of r) (height_of r + 1) → (o : Ordering) → IsLevelWithin (match_ordering o (balanced (inserted l p) q r) (node_of l q r) (balanced l q (inserted r p))) h (h + 1)
      by x y Less =
          let g : h ≡ max (height_of l) (height_of r) + 1 = a.2 in
          let g1 : height_of l ≤ height_of r + 1 = a.3 in
          let g2 : height_of r ≤ height_of l + 1 = a.4 in
          let x1 = x.not_lower in let x2 = x.not_higher in
          let s : SettlesTo (balanced (inserted l p) q r) (height_of (inserted l p)) (height_of r) = level-balanced (inserted l p) q r x.level a.1 (omega arith) (omega arith) (omega arith) (omega arith) in
          let s1 = s.not_lower in let s2 = s.not_higher in let s3 = s.kept in
          record { level = s.level; not_lower = omega arith; not_higher = omega arith }
      by x y Equal =
          let g : h ≡ max (height_of l) (height_of r) + 1 = a.2 in
          let e : height_of (node_of l q r) ≡ max (height_of l) (height_of r) + 1 = height-node_of l q r (omega arith) in
          record { level = level-node_of l q r a.0 a.1 a.3 a.4 (omega arith); not_lower = omega arith; not_higher = omega arith }
      by x y Greater =
          let g : h ≡ max (height_of l) (height_of r) + 1 = a.2 in
          let g1 : height_of l ≤ height_of r + 1 = a.3 in
          let g2 : height_of r ≤ height_of l + 1 = a.4 in
          let y1 = y.not_lower in let y2 = y.not_higher in
          let s : SettlesTo (balanced l q (inserted r p)) (height_of l) (height_of (inserted r p)) = level-balanced l q (inserted r p) a.0 y.level (omega arith) (omega arith) (omega arith) (omega arith) in
          let s1 = s.not_lower in let s2 = s.not_higher in let s3 = s.kept in
          record { level = s.level; not_lower = omega arith; not_higher = omega arith }

-- a tree that is level, whose height is one of two
pub record IsLevelBelow (t : Shape) (h : ℕ) : Type 0 where
  pub level : IsLevel t
  pub not_higher : height_of t ≤ h
  pub not_lower : h ≤ height_of t + 1

level-rest_of : (l : Shape) (p : Entry) (r : Shape) → IsLevel l → IsLevel r → height_of l ≤ height_of r + 1 → height_of r ≤ height_of l + 1 → height_of l < LEVELS → height_of r < LEVELS → IsLevelBelow (rest_of l p r) (max (height_of l) (height_of r) + 1)
level-rest_of empty p r a b c d room more = record { level = b; not_higher = omega arith; not_lower = omega arith }
level-rest_of (fork l q h e m) p r a b c d room more =
    let g : h ≡ max (height_of l) (height_of m) + 1 = a.2 in
    let x = level-rest_of l q m a.0 a.1 a.3 a.4 (omega arith) (omega arith) in
    let x1 = x.not_lower in let x2 = x.not_higher in
    let s : SettlesTo (balanced (rest_of l q m) p r) (height_of (rest_of l q m)) (height_of r) = level-balanced (rest_of l q m) p r x.level b (omega arith) (omega arith) (omega arith) more in
    let s1 = s.not_lower in let s2 = s.not_higher in let s3 = s.kept in
    record { level = s.level; not_higher = omega arith; not_lower = omega arith }

level-joined : (l r : Shape) → IsLevel l → IsLevel r → height_of l ≤ height_of r + 1 → height_of r ≤ height_of l + 1 → height_of l < LEVELS → height_of r < LEVELS → IsLevelBelow (joined l r) (max (height_of l) (height_of r) + 1)
level-joined l empty a b c d room more = record { level = a; not_higher = omega arith; not_lower = omega arith }
level-joined l (fork m q h e r) a b c d room more =
    let g : h ≡ max (height_of m) (height_of r) + 1 = b.2 in
    let x = level-rest_of m q r b.0 b.1 b.3 b.4 (omega arith) (omega arith) in
    let x1 = x.not_lower in let x2 = x.not_higher in
    let s : SettlesTo (balanced l (first_of m q) (rest_of m q r)) (height_of l) (height_of (rest_of m q r)) = level-balanced l (first_of m q) (rest_of m q r) a x.level (omega arith) (omega arith) room (omega arith) in
    let s1 = s.not_lower in let s2 = s.not_higher in let s3 = s.kept in
    record { level = s.level; not_higher = omega arith; not_lower = omega arith }

-- a pair less makes a tree one level lower at most
pub level-removed : (t : Shape) (p : Pair) → IsLevel t → height_of t < LEVELS → IsLevelBelow (removed t p) (height_of t)
level-removed empty p a room = record { level = tt; not_higher = omega arith; not_lower = omega arith }
level-removed (fork l q h b r) p a room =
    let g : h ≡ max (height_of l) (height_of r) + 1 = a.2 in
    by (level-removed l p a.0 (omega arith)) (level-removed r p a.1 (omega arith)) (pair_cmp p q.pair) where
      by : IsLevelBelow (removed l p) (height_of l) → IsLevelBelow (removed r p) (height_of r) → (o : Ordering) → IsLevelBelow (match_ordering o (balanced (removed l p) q r) (joined l r) (balanced l q (removed r p))) h
      by x y Less =
          let g : h ≡ max (height_of l) (height_of r) + 1 = a.2 in
          let g1 : height_of l ≤ height_of r + 1 = a.3 in
          let g2 : height_of r ≤ height_of l + 1 = a.4 in
          let x1 = x.not_lower in let x2 = x.not_higher in
          let s : SettlesTo (balanced (removed l p) q r) (height_of (removed l p)) (height_of r) = level-balanced (removed l p) q r x.level a.1 (omega arith) (omega arith) (omega arith) (omega arith) in
          let s1 = s.not_lower in let s2 = s.not_higher in let s3 = s.kept in
          record { level = s.level; not_lower = omega arith; not_higher = omega arith }
      by x y Equal =
          let g : h ≡ max (height_of l) (height_of r) + 1 = a.2 in
          let s = level-joined l r a.0 a.1 a.3 a.4 (omega arith) (omega arith) in
          let s1 = s.not_lower in let s2 = s.not_higher in
          record { level = s.level; not_lower = omega arith; not_higher = omega arith }
      by x y Greater =
          let g : h ≡ max (height_of l) (height_of r) + 1 = a.2 in
          let g1 : height_of l ≤ height_of r + 1 = a.3 in
          let g2 : height_of r ≤ height_of l + 1 = a.4 in
          let y1 = y.not_lower in let y2 = y.not_higher in
          let s : SettlesTo (balanced l q (removed r p)) (height_of l) (height_of (removed r p)) = level-balanced l q (removed r p) a.0 y.level (omega arith) (omega arith) (omega arith) (omega arith) in
          let s1 = s.not_lower in let s2 = s.not_higher in let s3 = s.kept in
          record { level = s.level; not_lower = omega arith; not_higher = omega arith }
