-- What a linked order shows once an entry was put in, taken out or moved, and entries put into order.
use Rattle.std.proofs.Common.{◌≡◌, ℕ, suc, ◌+◌, ◌<◌, ◌≤◌, Bool, true, false, not, cond, ◌||◌, ◌==◌, List, [], ◌∷◌, ◌++◌, length, get_or, ⊎_elim, refl, ap, sym, subst, ◌∙◌, arith}
use Rattle.std.specs.List.{IsDistinct, filter}
use Rattle.std.specs.List.Sorted.{IsNonDecreasingBy}
use Rattle.std.specs.Prelude.{insert, nat_eq, if◌then◌else◌}
use Rattle.std.proofs.lemmas.Bool.{or_cases, or_left, or_parts}
use Rattle.calc_chain.specs.Chain.{has, place_of, without}
use Rattle.calc_chain.specs.Linking.{Rise, put_behind}
use Rattle.calc_chain.proofs.LabelLaws.{rise-between}
use Rattle.calc_chain.proofs.LinkLaws.{away, here, later, tail_lacks}
use Rattle.calc_chain.proofs.ListLaws.{differs, distinct_head, distinct_tail, filter-alike, flipped, same_number}

or_second : (c e : Bool) → (c || e) ≡ true → c ≡ false → e ≡ true
or_second true e h k = cc
or_second false e h k = h

-- directly behind an entry is at the place behind its own
pub put_is_insert : (xs : List ℕ) (y x : ℕ) → has xs y ≡ true → put_behind xs y x ≡ insert xs (place_of xs y + 1) x
put_is_insert [] y x h = absurd (cc)
put_is_insert (w ∷ ws) y x h = elim (nat_eq w y) as (λ b. nat_eq w y ≡ b → w ∷ (if b then x ∷ ws else put_behind ws y x) ≡ insert (w ∷ ws) (cond (not b) (1 + place_of ws y) 0 + 1) x) [
  | true ↦ λ e. refl
  | false ↦ λ e.
      let rest : has ws y ≡ true = or_second (nat_eq y w) (has ws y) h (flipped y w ∙ e) in
      ap (λ ys. w ∷ ys) (put_is_insert ws y x rest) ∙ step (place_of ws y)
] refl
  where
    step : (i : ℕ) → w ∷ insert ws (i + 1) x ≡ insert (w ∷ ws) ((1 + i) + 1) x
    step i = let same : suc (i + 1) ≡ (1 + i) + 1 = omega arith in ap (λ m. insert (w ∷ ws) m x) same

-- a list without an entry is one shorter
pub without_length : (xs : List ℕ) (x : ℕ) → IsDistinct nat_eq xs → has xs x ≡ true → length (without xs x) + 1 ≡ length xs
without_length [] x d h = absurd (cc)
without_length (w ∷ ws) x d h = elim (w == x) as (λ b. (w == x) ≡ b → length (cond (not b) (w ∷ without ws x) (without ws x)) + 1 ≡ suc (length ws)) [
  | true ↦ λ e.
      let gone : has ws x ≡ false = subst (λ m. has ws m ≡ false) (same_number w x e) (distinct_head w ws d) in
      let same = ap length (none_out ws x gone) in omega (arith, same)
  | false ↦ λ e.
      let i = without_length ws x (distinct_tail w ws d) (or_second (nat_eq x w) (has ws x) h (flipped x w ∙ e)) in omega (arith, i)
] refl
  where
    none_out : (ys : List ℕ) (x : ℕ) → has ys x ≡ false → without ys x ≡ ys
    none_out [] x h = refl
    none_out (y ∷ ys) x h =
        ap (λ b. cond (not b) (y ∷ without ys x) (without ys x)) (flipped y x ∙ (or_parts (nat_eq x y) (has ys x) h).0)
        ∙ ap (λ zs. y ∷ zs) (none_out ys x (tail_lacks y ys x h))

pub without_none : (xs : List ℕ) (x : ℕ) → has xs x ≡ false → without xs x ≡ xs
without_none [] x h = refl
without_none (y ∷ ys) x h =
    ap (λ b. cond (not b) (y ∷ without ys x) (without ys x)) (flipped y x ∙ (or_parts (nat_eq x y) (has ys x) h).0)
    ∙ ap (λ zs. y ∷ zs) (without_none ys x (tail_lacks y ys x h))

pub put_length : (xs : List ℕ) (y x : ℕ) → length (put_behind xs y x) ≡ length xs + 1
put_length [] y x = refl
put_length (w ∷ ws) y x = elim (nat_eq w y) as (λ b. suc (length (if b then x ∷ ws else put_behind ws y x)) ≡ suc (length ws) + 1) [
  | true ↦ omega arith
  | false ↦ let i = put_length ws y x in omega (arith, i)
]

pub push_length : (xs : List ℕ) (x : ℕ) → length (xs ++ x ∷ []) ≡ length xs + 1
push_length [] x = refl
push_length (w ∷ ws) x = let i = push_length ws x in omega (arith, i)

-- ---- put into order

-- labels rise along a list, or stay
abbrev pub Sorted : (ℕ → ℕ) → List ℕ → Type 0
Sorted l [] = Unit {0}
Sorted l (x ∷ xs) = ((q : ℕ) → has xs q ≡ true → l x ≤ l q) × Sorted l xs

index_of : (xs : List ℕ) (q : ℕ) → has xs q ≡ true → (k : ℕ) × (k < length xs) × (get_or xs k 0 ≡ q)
index_of [] q h = absurd (cc)
index_of (x ∷ xs) q h =
    ⊎_elim
    (λ same. (0, omega arith, sym (same_number q x same)))
    (λ rest. let i = index_of xs q rest in let below = i.1 in (suc i.0, omega (arith, below), i.2))
    (or_cases (nat_eq q x) (has xs q) h)

pub sorted_from : (l : ℕ → ℕ) (xs : List ℕ) → IsNonDecreasingBy l xs → Sorted l xs
sorted_from l [] h = tt
sorted_from l (x ∷ xs) h = (
  λ q t. let i = index_of xs q t in let below = i.1 in subst (λ m. l x ≤ l m) i.2 (h 0 (suc i.0) 0 (omega arith) (omega (arith, below))),
  sorted_from l xs (λ i j d le below. h (suc i) (suc j) d (omega (arith, le)) (omega (arith, below))),
)

-- some entries, each once, with labels that don't fall are those entries in their order
pub sorted_among : (l : ℕ → ℕ) (low : ℕ) (xs : List ℕ) (high : ℕ) (ns : List ℕ) → Rise l low xs high → IsDistinct nat_eq xs → Sorted l ns → IsDistinct nat_eq ns → ((q : ℕ) → has ns q ≡ true → has xs q ≡ true) → filter (has ns) xs ≡ ns
sorted_among l low [] high [] h dx s dn inside = refl
sorted_among l low [] high (n ∷ ns) h dx s dn inside = absurd (let e = inside n (here n ns) in cc (e))
sorted_among l low (x ∷ xs) high [] h dx s dn inside = none_passes (x ∷ xs)
  where
    none_passes : (ys : List ℕ) → filter (has []) ys ≡ []
    none_passes [] = refl
    none_passes (y ∷ ys) = none_passes ys
sorted_among l low (x ∷ xs) high (n ∷ ns) h dx s dn inside = elim (nat_eq x n) as (λ b. nat_eq x n ≡ b → filter (has (n ∷ ns)) (x ∷ xs) ≡ n ∷ ns) [
  | true ↦ λ e.
      let is : x ≡ n = same_number x n e in
      let gone : has xs n ≡ false = subst (λ m. has xs m ≡ false) is (distinct_head x xs dx) in
      let rest : (q : ℕ) → has ns q ≡ true → has xs q ≡ true = λ q t.
      or_second (nat_eq q x) (has xs q) (inside q (later n ns q t)) (differs q x (λ same. away ns q n t (distinct_head n ns dn) (same ∙ is)))
      in
      ap (λ b. cond b (x ∷ filter (has (n ∷ ns)) xs) (filter (has (n ∷ ns)) xs)) (or_left (nat_eq x n) (has ns x) e)
      ∙ ap (λ ys. x ∷ ys) (filter-alike (has (n ∷ ns)) (has ns) xs (λ y t. ap (λ b. b || has ns y) (differs y n (away xs y n t gone))) ∙ sorted_among l (l x) xs high ns h.1 (distinct_tail x xs dx) s.1 (distinct_tail n ns dn) rest)
      ∙ ap (λ m. m ∷ ns) is
  | false ↦ λ e.
      let first : has xs n ≡ true = or_second (nat_eq n x) (has xs n) (inside n (here n ns)) (flipped n x ∙ e) in
      let above = (rise-between l (l x) xs high n h.1 first).0 in
      let out : has ns x ≡ false = lacks above (λ t. s.0 x t) in
      let fails : has (n ∷ ns) x ≡ false = ap (λ b. b || has ns x) e ∙ out in
      let rest : (q : ℕ) → has (n ∷ ns) q ≡ true → has xs q ≡ true = λ q t. or_second (nat_eq q x) (has xs q) (inside q t) (differs q x (away (n ∷ ns) q x t fails)) in
      ap (λ b. cond b (x ∷ filter (has (n ∷ ns)) xs) (filter (has (n ∷ ns)) xs)) fails
      ∙ sorted_among l (l x) xs high (n ∷ ns) h.1 (distinct_tail x xs dx) s dn rest
] refl
  where
    lacks : l x < l n → (has ns x ≡ true → l n ≤ l x) → has ns x ≡ false
    lacks above f = elim (has ns x) as (λ b. has ns x ≡ b → b ≡ false) [
      | true ↦ λ t. let i = f t in absurd (omega (arith, above, i))
      | false ↦ λ _. refl
    ] refl
