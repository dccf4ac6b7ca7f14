-- Labels that rise along an order.
use Rattle.std.proofs.Common.{◌≡◌, ◌≢◌, ℕ, suc, ◌+◌, ◌<◌, ◌≤◌, Bool, true, false, not, cond, ◌||◌, ◌==◌, List, [], ◌∷◌, ◌++◌, ⊎_elim, refl, ap, sym, subst, ◌∙◌, arith}
use Rattle.std.specs.List.{IsDistinct, filter}
use Rattle.std.specs.Prelude.{nat_eq, nat_lt, if◌then◌else◌}
use Rattle.std.proofs.lemmas.Bool.{or_cases}
use Rattle.std.proofs.lemmas.Bool.Decides.{nat_tests}
use Rattle.calc_chain.specs.Chain.{has, is_behind, place_of}
use Rattle.calc_chain.specs.Linking.{AreLinked, Rise, put_behind}
use Rattle.calc_chain.proofs.LinkLaws.{away, head_apart, here, later, tail_lacks}
use Rattle.calc_chain.proofs.ListLaws.{differs, distinct_tail, flipped, itself, same_number}

if_no : (b : Bool) (v w : ℕ) → b ≡ false → (if b then v else w) ≡ w
if_no true v w h = cc
if_no false v w h = refl

if_yes : (b : Bool) (v w : ℕ) → b ≡ true → (if b then v else w) ≡ v
if_yes true v w h = refl
if_yes false v w h = cc

pub less_true : (a b : ℕ) → a < b → nat_lt a b ≡ true
less_true a b h = grind (arith, nat_tests, h)

pub less_false : (a b : ℕ) → b ≤ a → nat_lt a b ≡ false
less_false a b h = grind (arith, nat_tests, h)

pub rise-same : (l l' : ℕ → ℕ) (low : ℕ) (xs : List ℕ) (high : ℕ) → ((q : ℕ) → has xs q ≡ true → l' q ≡ l q) → Rise l low xs high → Rise l' low xs high
rise-same l l' low [] high same h = h
rise-same l l' low (x ∷ xs) high same h =
    let e = same x (here x xs) in
    (subst (λ m. low < m) (sym e) h.0, subst (λ m. Rise l' m xs high) (sym e) (rise-same l l' (l x) xs high (λ q t. same q (later x xs q t)) h.1))

pub rise-lower : (l : ℕ → ℕ) (low m : ℕ) (xs : List ℕ) (high : ℕ) → low ≤ m → Rise l m xs high → Rise l low xs high
rise-lower l low m [] high below h = omega (arith, below, h)
rise-lower l low m (x ∷ xs) high below h = (let i = h.0 in omega (arith, below, i), h.1)

-- every label lies between the two numbers
pub rise-between : (l : ℕ → ℕ) (low : ℕ) (xs : List ℕ) (high q : ℕ) → Rise l low xs high → has xs q ≡ true → (low < l q) × (l q < high)
rise-between l low [] high q h t = absurd (cc)
rise-between l low (x ∷ xs) high q h t =
    ⊎_elim
    (λ same. let is = ap l (same_number q x same) in let i = h.0 in let k = rise-ends l (l x) xs high h.1 in (omega (arith, is, i), omega (arith, is, k)))
    (λ rest. let i = h.0 in let k = rise-between l (l x) xs high q h.1 rest in let m = k.0 in (omega (arith, i, m), k.1))
    (or_cases (nat_eq q x) (has xs q) t)
  where
    rise-ends : (l : ℕ → ℕ) (low : ℕ) (xs : List ℕ) (high : ℕ) → Rise l low xs high → low < high
    rise-ends l low [] high h = h
    rise-ends l low (x ∷ xs) high h = let i = h.0 in let k = rise-ends l (l x) xs high h.1 in omega (arith, i, k)

pub rise-filter : (l : ℕ → ℕ) (keeps : ℕ → Bool) (low : ℕ) (xs : List ℕ) (high : ℕ) → Rise l low xs high → Rise l low (filter keeps xs) high
rise-filter l keeps low [] high h = h
rise-filter l keeps low (x ∷ xs) high h =
    let rest = rise-filter l keeps (l x) xs high h.1 in
    let i = h.0 in
    elim (keeps x) as (λ b. Rise l low (cond b (x ∷ filter keeps xs) (filter keeps xs)) high) [
      | true ↦ (h.0, rest)
      | false ↦ rise-lower l low (l x) (filter keeps xs) high (omega (arith, i)) rest
    ]

-- with a new label behind an entry, below that of what stands behind it
pub rise-put : (n p l l' : ℕ → ℕ) (a low : ℕ) (xs : List ℕ) (b high y x v : ℕ) → AreLinked n p a xs b → IsDistinct nat_eq xs → has xs b ≡ false → has xs y ≡ true → has xs x ≡ false
    → ((q : ℕ) → l' q ≡ (if nat_eq q x then v else l q)) → l y < v → (n y ≡ b → v < high) → (n y ≢ b → v < l (n y)) → Rise l low xs high → Rise l' low (put_behind xs y x) high
rise-put n p l l' a low [] b high y x v k d lb t new labels above last next h = absurd (cc)
rise-put n p l l' a low (w ∷ ws) b high y x v k d lb t new labels above last next h =
    let other : (q : ℕ) → has (w ∷ ws) q ≡ true → l' q ≡ l q = λ q u. labels q ∙ if_no (nat_eq q x) v (l q) (differs q x (away (w ∷ ws) q x u new)) in
    let mine : l' w ≡ l w = other w (here w ws) in
    let fresh : l' x ≡ v = labels x ∙ if_yes (nat_eq x x) v (l x) (itself x) in
    let i = h.0 in (
      omega (arith, mine, i),
      elim (nat_eq w y) as (λ c. nat_eq w y ≡ c → Rise l' (l' w) (if c then x ∷ ws else put_behind ws y x) high) [
        | true ↦ λ e.
            let is : w ≡ y = same_number w y e in
            let label = ap l is in
            (omega (arith, mine, label, fresh, above), subst (λ m. Rise l' m ws high) (sym fresh) (behind ws is k.1 h.1 lb other))
        | false ↦ λ e.
            let rest : has ws y ≡ true = or_second (nat_eq y w) (has ws y) t (flipped y w ∙ e) in
            subst (λ m. Rise l' m (put_behind ws y x) high) (sym mine)
            (rise-put n p l l' w (l w) ws b high y x v k.1 (distinct_tail w ws d) (tail_lacks w ws b lb) rest (tail_lacks w ws x new) labels above last next h.1)
      ] refl,
    )
  where
    or_second : (c e : Bool) → (c || e) ≡ true → c ≡ false → e ≡ true
    or_second true e h k = cc
    or_second false e h k = h

    behind : (zs : List ℕ) → w ≡ y → AreLinked n p w zs b → Rise l (l w) zs high → has (w ∷ zs) b ≡ false → ((q : ℕ) → has (w ∷ zs) q ≡ true → l' q ≡ l q) → Rise l' v zs high
    behind [] is k h lb other = last (ap n (sym is) ∙ k.0)
    behind (z ∷ zs) is k h lb other =
        let at : n y ≡ z = ap n (sym is) ∙ k.0.0 in
        let under = next (λ e. head_apart z zs b (tail_lacks w (z ∷ zs) b lb) (sym e ∙ at)) in
        let label = ap l at in
        let same : l' z ≡ l z = other z (later w (z ∷ zs) z (here z zs)) in
        (omega (arith, under, label, same), subst (λ m. Rise l' m zs high) (sym same) (rise-same l l' (l z) zs high (λ q u. other q (later w (z ∷ zs) q (later z zs q u))) h.1))

-- one stands behind another exactly where its label is greater
pub rise-behind : (l : ℕ → ℕ) (low : ℕ) (xs : List ℕ) (high x y : ℕ) → Rise l low xs high → x ≢ y → has xs x ≡ true → has xs y ≡ true → nat_lt (l y) (l x) ≡ is_behind xs x y
rise-behind l low [] high x y h apart hx hy = absurd (cc)
rise-behind l low (w ∷ ws) high x y h apart hx hy = elim (w == y) as (λ c. (w == y) ≡ c → nat_lt (l y) (l x) ≡ nat_lt (cond (not c) (1 + place_of ws y) 0) (cond (not (w == x)) (1 + place_of ws x) 0)) [
  | true ↦ λ e.
      let is : w ≡ y = same_number w y e in
      let off : (w == x) ≡ false = differs w x (λ i. apart (sym i ∙ is)) in
      let rest : has ws x ≡ true = or_second (nat_eq x w) (has ws x) hx (flipped x w ∙ off) in
      let over = (rise-between l (l w) ws high x h.1 rest).0 in
      let label = ap l is in
      less_true (l y) (l x) (omega (arith, over, label))
      ∙ sym (less_true 0 (1 + place_of ws x) (omega arith))
      ∙ sym (ap (λ c. nat_lt 0 (cond (not c) (1 + place_of ws x) 0)) off)
  | false ↦ λ e.
      let rest : has ws y ≡ true = or_second (nat_eq y w) (has ws y) hy (flipped y w ∙ e) in
      elim (w == x) as (λ c. (w == x) ≡ c → nat_lt (l y) (l x) ≡ nat_lt (1 + place_of ws y) (cond (not c) (1 + place_of ws x) 0)) [
        | true ↦ λ e'.
            let label = ap l (same_number w x e') in
            let over = (rise-between l (l w) ws high y h.1 rest).0 in
            less_false (l y) (l x) (omega (arith, over, label)) ∙ sym (less_false (1 + place_of ws y) 0 (omega arith))
        | false ↦ λ e'.
            let rest' : has ws x ≡ true = or_second (nat_eq x w) (has ws x) hx (flipped x w ∙ e') in
            rise-behind l (l w) ws high x y h.1 apart rest' rest ∙ lifted (place_of ws y) (place_of ws x)
      ] refl
] refl
  where
    or_second : (c e : Bool) → (c || e) ≡ true → c ≡ false → e ≡ true
    or_second true e h k = cc
    or_second false e h k = h

    lifted : (i j : ℕ) → nat_lt i j ≡ nat_lt (1 + i) (1 + j)
    lifted i j = grind (arith, nat_tests)
