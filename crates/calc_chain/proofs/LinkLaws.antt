-- Numbers that are linked in an order, one of which is taken out or put in.
use Rattle.std.proofs.Common.{◌≡◌, ◌≢◌, ℕ, zero, suc, Bool, true, false, not, cond, ◌||◌, ◌==◌, List, [], ◌∷◌, ◌++◌, ◌⊎◌, length, ⊎_elim, inl, inr, refl, ap, sym, subst, ◌∙◌}
use Rattle.std.specs.List.{IsDistinct}
use Rattle.std.specs.Prelude.{nat_eq, if◌then◌else◌}
use Rattle.std.proofs.lemmas.Bool.{or_cases, or_left, or_right, or_parts}
use Rattle.calc_chain.specs.Chain.{has, without}
use Rattle.calc_chain.specs.Linking.{AreLinked, put_behind, walk}
use Rattle.calc_chain.proofs.ListLaws.{differs, distinct_head, distinct_tail, flipped, itself, same_number, same_test}

pub here : (x : ℕ) (xs : List ℕ) → has (x ∷ xs) x ≡ true
here x xs = or_left (nat_eq x x) (has xs x) (itself x)

pub later : (x : ℕ) (xs : List ℕ) (q : ℕ) → has xs q ≡ true → has (x ∷ xs) q ≡ true
later x xs q h = or_right (nat_eq q x) (has xs q) h

-- one that is there and one that isn't are two
pub away : (xs : List ℕ) (x y : ℕ) → has xs x ≡ true → has xs y ≡ false → x ≢ y
away xs x y h k is = let e = sym h ∙ ap (has xs) is ∙ k in cc (e)

pub head_apart : (x : ℕ) (xs : List ℕ) (y : ℕ) → has (x ∷ xs) y ≡ false → y ≢ x
head_apart x xs y h is = let parts = or_parts (nat_eq y x) (has xs y) h in let e = sym (same_test y x is) ∙ parts.0 in cc (e)

pub tail_lacks : (x : ℕ) (xs : List ℕ) (y : ℕ) → has (x ∷ xs) y ≡ false → has xs y ≡ false
tail_lacks x xs y h = (or_parts (nat_eq y x) (has xs y) h).1

pub linked-same : (n n' p p' : ℕ → ℕ) (a : ℕ) (xs : List ℕ) (b : ℕ) → n' a ≡ n a → ((q : ℕ) → has xs q ≡ true → n' q ≡ n q) → ((q : ℕ) → has xs q ≡ true → p' q ≡ p q) → p' b ≡ p b
    → AreLinked n p a xs b → AreLinked n' p' a xs b
linked-same n n' p p' a [] b first nexts prevs last h = (first ∙ h.0, last ∙ h.1)
linked-same n n' p p' a (x ∷ xs) b first nexts prevs last h = (
  (first ∙ h.0.0, prevs x (here x xs) ∙ h.0.1),
  linked-same n n' p p' x xs b (nexts x (here x xs)) (λ q t. nexts q (later x xs q t)) (λ q t. prevs q (later x xs q t)) last h.1,
)

pub walk-linked : (n p : ℕ → ℕ) (a : ℕ) (xs : List ℕ) (b : ℕ) → AreLinked n p a xs b → walk n (length xs) (n a) ≡ xs
walk-linked n p a [] b h = refl
walk-linked n p a (x ∷ xs) b h = ap (λ m. m ∷ walk n (length xs) (n m)) h.0.0 ∙ ap (λ ys. x ∷ ys) (walk-linked n p x xs b h.1)

pub next-head : (n p : ℕ → ℕ) (a : ℕ) (xs : List ℕ) (b : ℕ) → AreLinked n p a xs b → (has xs (n a) ≡ true) ⊎ (n a ≡ b)
next-head n p a [] b h = inr h.0
next-head n p a (x ∷ xs) b h = inl (subst (λ m. has (x ∷ xs) m ≡ true) (sym h.0.0) (here x xs))

-- what stands behind an entry is an entry, or the end
pub next-in : (n p : ℕ → ℕ) (a : ℕ) (xs : List ℕ) (b : ℕ) → AreLinked n p a xs b → (q : ℕ) → has xs q ≡ true → (has xs (n q) ≡ true) ⊎ (n q ≡ b)
next-in n p a [] b h q t = absurd (cc)
next-in n p a (x ∷ xs) b h q t =
    ⊎_elim
    (λ same. subst (λ m. (has (x ∷ xs) (n m) ≡ true) ⊎ (n m ≡ b)) (sym (same_number q x same))
    (⊎_elim (λ i. inl (later x xs (n x) i)) (λ e. inr e) (next-head n p x xs b h.1)))
    (λ rest. ⊎_elim (λ i. inl (later x xs (n q) i)) (λ e. inr e) (next-in n p x xs b h.1 q rest))
    (or_cases (nat_eq q x) (has xs q) t)

-- what stands before an entry is an entry, or the beginning
pub prev-in : (n p : ℕ → ℕ) (a : ℕ) (xs : List ℕ) (b : ℕ) → AreLinked n p a xs b → (q : ℕ) → has xs q ≡ true → (has xs (p q) ≡ true) ⊎ (p q ≡ a)
prev-in n p a [] b h q t = absurd (cc)
prev-in n p a (x ∷ xs) b h q t =
    ⊎_elim
    (λ same. inr (ap p (same_number q x same) ∙ h.0.1))
    (λ rest. ⊎_elim (λ i. inl (later x xs (p q) i)) (λ e. inl (subst (λ m. has (x ∷ xs) m ≡ true) (sym e) (here x xs))) (prev-in n p x xs b h.1 q rest))
    (or_cases (nat_eq q x) (has xs q) t)

-- from another beginning, behind which stands what stood behind the old one
pub bypass : (n n' p p' : ℕ → ℕ) (x a : ℕ) (ys : List ℕ) (b : ℕ) → AreLinked n p x ys b → IsDistinct nat_eq ys → has ys b ≡ false → n' a ≡ n x → p' (n x) ≡ a
    → ((q : ℕ) → has ys q ≡ true → n' q ≡ n q) → ((q : ℕ) → has ys q ≡ true → q ≢ n x → p' q ≡ p q) → (b ≢ n x → p' b ≡ p b) → AreLinked n' p' a ys b
bypass n n' p p' x a [] b h d lacks first back nexts prevs last = (first ∙ h.0, ap p' (sym h.0) ∙ back)
bypass n n' p p' x a (z ∷ zs) b h d lacks first back nexts prevs last = (
  (first ∙ h.0.0, ap p' (sym h.0.0) ∙ back),
  linked-same n n' p p' z zs b (nexts z (here z zs)) (λ q t. nexts q (later z zs q t))
      (λ q t. prevs q (later z zs q t) (λ is. away zs q z t (distinct_head z zs d) (is ∙ h.0.0)))
      (last (λ is. head_apart z zs b lacks (is ∙ h.0.0)))
      h.1,
)

without-none : (xs : List ℕ) (x : ℕ) → has xs x ≡ false → without xs x ≡ xs
without-none [] x h = refl
without-none (y ∷ ys) x h =
    ap (λ b. cond (not b) (y ∷ without ys x) (without ys x)) (flipped y x ∙ (or_parts (nat_eq x y) (has ys x) h).0)
    ∙ ap (λ zs. y ∷ zs) (without-none ys x (tail_lacks y ys x h))

if_no : (b : Bool) (v w : ℕ) → b ≡ false → (if b then v else w) ≡ w
if_no true v w h = cc
if_no false v w h = refl

if_yes : (b : Bool) (v w : ℕ) → b ≡ true → (if b then v else w) ≡ v
if_yes true v w h = refl
if_yes false v w h = cc

-- where the neighbors of an entry are linked with one another, it is out
pub unlinked : (n n' p p' : ℕ → ℕ) (a : ℕ) (xs : List ℕ) (b x : ℕ) → IsDistinct nat_eq xs → has xs a ≡ false → has xs b ≡ false → has xs x ≡ true
    → ((q : ℕ) → n' q ≡ (if nat_eq q (p x) then n x else n q)) → ((q : ℕ) → p' q ≡ (if nat_eq q (n x) then p x else p q))
    → AreLinked n p a xs b → AreLinked n' p' a (without xs x) b
unlinked n n' p p' a [] b x d la lb t nexts prevs h = absurd (cc)
unlinked n n' p p' a (y ∷ ys) b x d la lb t nexts prevs h = elim (y == x) as (λ c. (y == x) ≡ c → AreLinked n' p' a (cond (not c) (y ∷ without ys x) (without ys x)) b) [
  | true ↦ λ e.
      let is : y ≡ x = same_number y x e in
      let before : p x ≡ a = ap p (sym is) ∙ h.0.1 in
      let gone : has ys x ≡ false = subst (λ m. has ys m ≡ false) is (distinct_head y ys d) in
      subst (λ zs. AreLinked n' p' a zs b) (sym (without-none ys x gone))
      (bypass n n' p p' x a ys b (subst (λ m. AreLinked n p m ys b) is h.1) (distinct_tail y ys d) (tail_lacks y ys b lb)
      (nexts a ∙ if_yes (nat_eq a (p x)) (n x) (n a) (same_test a (p x) (sym before)))
      (prevs (n x) ∙ if_yes (nat_eq (n x) (n x)) (p x) (p (n x)) (itself (n x)) ∙ before)
      (λ q u. nexts q ∙ if_no (nat_eq q (p x)) (n x) (n q) (differs q (p x) (λ same. away ys q a u (tail_lacks y ys a la) (same ∙ before))))
      (λ q u apart. prevs q ∙ if_no (nat_eq q (n x)) (p x) (p q) (differs q (n x) apart))
      (λ apart. prevs b ∙ if_no (nat_eq b (n x)) (p x) (p b) (differs b (n x) apart)))
  | false ↦ λ e.
      let rest : has ys x ≡ true = or_second (nat_eq x y) (has ys x) t (flipped x y ∙ e) in
      let start : a ≢ p x = λ same. ⊎_elim (λ i. away ys (p x) a i (tail_lacks y ys a la) (sym same)) (λ i. head_apart y ys a la (same ∙ i)) (prev-in n p y ys b h.1 x rest) in
      let stop : y ≢ n x = λ same. ⊎_elim (λ i. away ys (n x) y i (distinct_head y ys d) (sym same)) (λ i. head_apart y ys b lb (sym (same ∙ i))) (next-in n p y ys b h.1 x rest) in (
        (nexts a ∙ if_no (nat_eq a (p x)) (n x) (n a) (differs a (p x) start) ∙ h.0.0, prevs y ∙ if_no (nat_eq y (n x)) (p x) (p y) (differs y (n x) stop) ∙ h.0.1),
        unlinked n n' p p' y ys b x (distinct_tail y ys d) (distinct_head y ys d) (tail_lacks y ys b lb) rest nexts prevs h.1,
      )
] refl
  where
    or_second : (c e : Bool) → (c || e) ≡ true → c ≡ false → e ≡ true
    or_second true e h k = cc
    or_second false e h k = h

-- where a new one is linked between an entry and what stands behind that, it is in
pub put-linked : (n n' p p' : ℕ → ℕ) (a : ℕ) (xs : List ℕ) (b y x : ℕ) → IsDistinct nat_eq xs → has xs a ≡ false → has xs b ≡ false → has xs y ≡ true → has xs x ≡ false → x ≢ a → x ≢ b
    → ((q : ℕ) → n' q ≡ (if nat_eq q x then n y else if nat_eq q y then x else n q)) → ((q : ℕ) → p' q ≡ (if nat_eq q (n y) then x else if nat_eq q x then y else p q))
    → AreLinked n p a xs b → AreLinked n' p' a (put_behind xs y x) b
put-linked n n' p p' a [] b y x d la lb t new xa xb nexts prevs h = absurd (cc)
put-linked n n' p p' a (w ∷ ws) b y x d la lb t new xa xb nexts prevs h =
    let there : (has ws (n y) ≡ true) ⊎ (n y ≡ b) = ⊎_elim
    (λ same. subst (λ m. (has ws (n m) ≡ true) ⊎ (n m ≡ b)) (sym (same_number y w same)) (next-head n p w ws b h.1))
    (λ rest. next-in n p w ws b h.1 y rest)
    (or_cases (nat_eq y w) (has ws y) t)
    in
    let wz : w ≢ n y = λ same. ⊎_elim (λ i. away ws (n y) w i (distinct_head w ws d) (sym same)) (λ i. head_apart w ws b lb (sym (same ∙ i))) there in
    let xw : x ≢ w = head_apart w ws x new in
    let first : n' a ≡ w = nexts a ∙ if_no (nat_eq a x) _ _ (differs a x (λ i. xa (sym i))) ∙ if_no (nat_eq a y) _ _ (differs a y (λ i. away (w ∷ ws) y a t la (sym i))) ∙ h.0.0 in
    let back : p' w ≡ a = prevs w ∙ if_no (nat_eq w (n y)) _ _ (differs w (n y) wz) ∙ if_no (nat_eq w x) _ _ (differs w x (λ i. xw (sym i))) ∙ h.0.1 in (
      (first, back),
      elim (nat_eq w y) as (λ c. nat_eq w y ≡ c → AreLinked n' p' w (if c then x ∷ ws else put_behind ws y x) b) [
        | true ↦ λ e.
            let is : w ≡ y = same_number w y e in
            let xz : x ≢ n y = λ same. ⊎_elim (λ i. away ws (n y) x i (tail_lacks w ws x new) (sym same)) (λ i. xb (same ∙ i)) there in
            let link : n' x ≡ n w = nexts x ∙ if_yes (nat_eq x x) _ _ (itself x) ∙ ap n (sym is) in
            let mine : p' (n w) ≡ x = ap (λ m. p' (n m)) is ∙ prevs (n y) ∙ if_yes (nat_eq (n y) (n y)) _ _ (itself (n y)) in (
              (nexts w ∙ if_no (nat_eq w x) _ _ (differs w x (λ i. xw (sym i))) ∙ if_yes (nat_eq w y) _ _ e, prevs x ∙ if_no (nat_eq x (n y)) _ _ (differs x (n y) xz) ∙ if_yes (nat_eq x x) _ _ (itself x) ∙ sym is),
              bypass n n' p p' w x ws b h.1 (distinct_tail w ws d) (tail_lacks w ws b lb) link mine
                  (λ q u. nexts q ∙ if_no (nat_eq q x) _ _ (differs q x (away ws q x u (tail_lacks w ws x new))) ∙ if_no (nat_eq q y) _ _ (differs q y (λ i. away ws q w u (distinct_head w ws d) (i ∙ sym is))))
                  (λ q u apart. prevs q ∙ if_no (nat_eq q (n y)) _ _ (differs q (n y) (λ i. apart (i ∙ ap n (sym is)))) ∙ if_no (nat_eq q x) _ _ (differs q x (away ws q x u (tail_lacks w ws x new))))
                  (λ apart. prevs b ∙ if_no (nat_eq b (n y)) _ _ (differs b (n y) (λ i. apart (i ∙ ap n (sym is)))) ∙ if_no (nat_eq b x) _ _ (differs b x (λ i. xb (sym i)))),
            )
        | false ↦ λ e.
            let rest : has ws y ≡ true = or_second (nat_eq y w) (has ws y) t (flipped y w ∙ e) in
            put-linked n n' p p' w ws b y x (distinct_tail w ws d) (distinct_head w ws d) (tail_lacks w ws b lb) rest (tail_lacks w ws x new) xw xb nexts prevs h.1
      ] refl,
    )
  where
    or_second : (c e : Bool) → (c || e) ≡ true → c ≡ false → e ≡ true
    or_second true e h k = cc
    or_second false e h k = h

-- the last entry is one, and what stands behind it is the end
pub last-in : (n p : ℕ → ℕ) (a w : ℕ) (ws : List ℕ) (b : ℕ) → AreLinked n p a (w ∷ ws) b → (has (w ∷ ws) (p b) ≡ true) × (n (p b) ≡ b)
last-in n p a w [] b h = (subst (λ m. has (w ∷ []) m ≡ true) (sym h.1.1) (here w []), ap n h.1.1 ∙ h.1.0)
last-in n p a w (v ∷ vs) b h = let i = last-in n p w v vs b h.1 in (later w (v ∷ vs) (p b) i.0, i.1)

-- directly behind the last one is at the end
pub put-last : (n p : ℕ → ℕ) (a w : ℕ) (ws : List ℕ) (b x : ℕ) → AreLinked n p a (w ∷ ws) b → IsDistinct nat_eq (w ∷ ws) → put_behind (w ∷ ws) (p b) x ≡ (w ∷ ws) ++ x ∷ []
put-last n p a w [] b x h d = ap (λ c. w ∷ (if c then x ∷ [] else x ∷ [])) (same_test w (p b) (sym h.1.1))
put-last n p a w (v ∷ vs) b x h d =
    let i = last-in n p w v vs b h.1 in
    let apart : nat_eq w (p b) ≡ false = differs w (p b) (λ same. away (v ∷ vs) (p b) w i.0 (distinct_head w (v ∷ vs) d) (sym same)) in
    ap (λ c. w ∷ (if c then x ∷ v ∷ vs else put_behind (v ∷ vs) (p b) x)) apart ∙ ap (λ zs. w ∷ zs) (put-last n p w v vs b x h.1 (distinct_tail w (v ∷ vs) d))

-- from one number to another there is one list
pub linked-one : (n p : ℕ → ℕ) (a : ℕ) (xs ys : List ℕ) (b : ℕ) → AreLinked n p a xs b → AreLinked n p a ys b → has xs b ≡ false → has ys b ≡ false → xs ≡ ys
linked-one n p a [] [] b h k lx ly = refl
linked-one n p a [] (y ∷ ys) b h k lx ly = absurd (head_apart y ys b ly (sym h.0 ∙ k.0.0))
linked-one n p a (x ∷ xs) [] b h k lx ly = absurd (head_apart x xs b lx (sym k.0 ∙ h.0.0))
linked-one n p a (x ∷ xs) (y ∷ ys) b h k lx ly =
    let same : x ≡ y = sym h.0.0 ∙ k.0.0 in
    ap (λ m. m ∷ xs) same ∙ ap (λ zs. y ∷ zs) (linked-one n p y xs ys b (subst (λ m. AreLinked n p m xs b) same h.1) k.1 (tail_lacks x xs b lx) (tail_lacks y ys b ly))

pub length-walk : (n : ℕ → ℕ) (k x : ℕ) → length (walk n k x) ≡ k
length-walk n zero x = refl
length-walk n (suc k) x = ap suc (length-walk n k (n x))
