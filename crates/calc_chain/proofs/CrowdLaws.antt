-- Entries behind another that get new labels.
use Rattle.std.proofs.Common.{◌≡◌, ◌≢◌, ℕ, zero, suc, ◌+◌, ◌*◌, ◌<◌, ◌≤◌, Bool, true, false, ◌||◌, List, [], ◌∷◌, ◌++◌, ◌⊎◌, length, ⊎_elim, inl, inr, refl, ap, sym, subst, ◌∙◌, arith}
use Rattle.std.specs.List.{IsDistinct}
use Rattle.std.specs.Prelude.{nat_eq}
use Rattle.std.proofs.lemmas.Bool.{or_cases, or_left, or_right, or_parts}
use Rattle.calc_chain.specs.Chain.{has}
use Rattle.calc_chain.specs.Linking.{AreLinked, Rise, nth, walk}
use Rattle.calc_chain.proofs.LabelLaws.{rise-same}
use Rattle.calc_chain.proofs.LinkLaws.{away, head_apart, here, later, next-head, tail_lacks}
use Rattle.calc_chain.proofs.ListLaws.{differs, distinct_head, distinct_more, distinct_none, distinct_tail, same_number, same_test}

-- ---- numbers from one on

pub nth-next : (n : ℕ → ℕ) (k x : ℕ) → nth n (suc k) x ≡ n (nth n k x)
nth-next n zero x = refl
nth-next n (suc k) x = nth-next n k (n x)

pub walk-more : (n : ℕ → ℕ) (k x : ℕ) → walk n (suc k) x ≡ walk n k x ++ nth n k x ∷ []
walk-more n zero x = refl
walk-more n (suc k) x = ap (λ ys. x ∷ ys) (walk-more n k (n x))

pub has-walk : (n : ℕ → ℕ) (c k x : ℕ) → k < c → has (walk n c x) (nth n k x) ≡ true
has-walk n zero k x h = absurd (omega (arith, h))
has-walk n (suc c) zero x h = here x (walk n c (n x))
has-walk n (suc c) (suc k) x h = later x (walk n c (n x)) (nth n k (n x)) (has-walk n c k (n x) (omega (arith, h)))

pub walk-index : (n : ℕ → ℕ) (c x q : ℕ) → has (walk n c x) q ≡ true → (k : ℕ) × (k < c) × (q ≡ nth n k x)
walk-index n zero x q h = absurd (cc)
walk-index n (suc c) x q h =
    ⊎_elim
    (λ same. (0, omega arith, same_number q x same))
    (λ rest. let i = walk-index n c (n x) q rest in let below = i.1 in (suc i.0, omega (arith, below), i.2))
    (or_cases (nat_eq q x) (has (walk n c (n x)) q) h)

pub nth-apart : (n : ℕ → ℕ) (c k x : ℕ) → k < c → IsDistinct nat_eq (walk n c x) → has (walk n k x) (nth n k x) ≡ false
nth-apart n zero k x h d = absurd (omega (arith, h))
nth-apart n (suc c) zero x h d = refl
nth-apart n (suc c) (suc k) x h d =
    let below : k < c = omega (arith, h) in
    let off : nat_eq (nth n k (n x)) x ≡ false = differs (nth n k (n x)) x (λ is. away (walk n c (n x)) (nth n k (n x)) x (has-walk n c k (n x) below) (distinct_head x (walk n c (n x)) d) is) in
    ap (λ b. b || has (walk n k (n x)) (nth n k (n x))) off ∙ nth-apart n c k (n x) below (distinct_tail x (walk n c (n x)) d)

-- a number that is there earlier is there
pub walk-longer : (n : ℕ → ℕ) (k x q : ℕ) → has (walk n k x) q ≡ true → has (walk n (suc k) x) q ≡ true
walk-longer n zero x q h = absurd (cc)
walk-longer n (suc k) x q h =
    ⊎_elim
    (λ same. or_left (nat_eq q x) _ same)
    (λ rest. or_right (nat_eq q x) _ (walk-longer n k (n x) q rest))
    (or_cases (nat_eq q x) (has (walk n k (n x)) q) h)

-- ---- behind an entry

pub meets : (n : ℕ → ℕ) (c x b : ℕ) → n x ≡ b → has (walk n (suc c) (n x)) b ≡ false → ⊥
meets n c x b is off = let e = sym (same_test b (n x) (sym is)) ∙ (or_parts (nat_eq b (n x)) (has (walk n c (n (n x))) b) off).0 in cc (e)

off_tail : (n : ℕ → ℕ) (c x b z : ℕ) → n x ≡ z → has (walk n (suc c) (n x)) b ≡ false → has (walk n c (n z)) b ≡ false
off_tail n c x b z at off = ap (λ m. has (walk n c (n m)) b) (sym at) ∙ (or_parts (nat_eq b (n x)) (has (walk n c (n (n x))) b) off).1

pub crowd-in : (n p : ℕ → ℕ) (c x : ℕ) (ws : List ℕ) (b q : ℕ) → AreLinked n p x ws b → has (walk n c (n x)) b ≡ false → has (walk n c (n x)) q ≡ true → has ws q ≡ true
crowd-in n p zero x ws b q k off h = absurd (cc)
crowd-in n p (suc c) x [] b q k off h = absurd (meets n c x b k.0 off)
crowd-in n p (suc c) x (z ∷ zs) b q k off h =
    ⊎_elim
    (λ same. or_left (nat_eq q z) _ (ap (nat_eq q) (sym k.0.0) ∙ same))
    (λ rest. later z zs q (crowd-in n p c z zs b q k.1 (off_tail n c x b z k.0.0 off) (ap (λ m. has (walk n c (n m)) q) (sym k.0.0) ∙ rest)))
    (or_cases (nat_eq q (n x)) (has (walk n c (n (n x))) q) h)

pub crowd-distinct : (n p : ℕ → ℕ) (c x : ℕ) (ws : List ℕ) (b : ℕ) → AreLinked n p x ws b → IsDistinct nat_eq ws → has (walk n c (n x)) b ≡ false → IsDistinct nat_eq (walk n c (n x))
crowd-distinct n p zero x ws b k d off = distinct_none
crowd-distinct n p (suc c) x [] b k d off = absurd (meets n c x b k.0 off)
crowd-distinct n p (suc c) x (z ∷ zs) b k d off =
    let rest : has (walk n c (n z)) b ≡ false = off_tail n c x b z k.0.0 off in
    let fresh : has (walk n c (n z)) z ≡ false = not_among (has (walk n c (n z)) z) (crowd-in n p c z zs b z k.1 rest) (distinct_head z zs d) in
    subst (λ m. IsDistinct nat_eq (m ∷ walk n c (n m))) (sym k.0.0) (distinct_more z (walk n c (n z)) fresh (crowd-distinct n p c z zs b k.1 (distinct_tail z zs d) rest))
  where
    not_among : (a : Bool) → (a ≡ true → has zs z ≡ true) → has zs z ≡ false → a ≡ false
    not_among true f g = sym (f refl) ∙ g
    not_among false f g = refl

pub crowd-few : (n p : ℕ → ℕ) (c x : ℕ) (ws : List ℕ) (b : ℕ) → AreLinked n p x ws b → has (walk n c (n x)) b ≡ false → c ≤ length ws
crowd-few n p zero x ws b k off = omega arith
crowd-few n p (suc c) x [] b k off = absurd (meets n c x b k.0 off)
crowd-few n p (suc c) x (z ∷ zs) b k off = let i = crowd-few n p c z zs b k.1 (off_tail n c x b z k.0.0 off) in omega (arith, i)

pub crowd-next : (n p : ℕ → ℕ) (c x : ℕ) (ws : List ℕ) (b : ℕ) → AreLinked n p x ws b → has (walk n c (n x)) b ≡ false → (has ws (nth n c (n x)) ≡ true) ⊎ (nth n c (n x) ≡ b)
crowd-next n p zero x ws b k off = next-head n p x ws b k
crowd-next n p (suc c) x [] b k off = absurd (meets n c x b k.0 off)
crowd-next n p (suc c) x (z ∷ zs) b k off =
    subst (λ m. (has (z ∷ zs) (nth n c (n m)) ≡ true) ⊎ (nth n c (n m) ≡ b)) (sym k.0.0)
    (⊎_elim (λ i. inl (later z zs (nth n c (n z)) i)) (λ e. inr e) (crowd-next n p c z zs b k.1 (off_tail n c x b z k.0.0 off)))

-- all that stands behind the beginning is the whole list, and then comes the end
pub nth-end : (n p : ℕ → ℕ) (x : ℕ) (ws : List ℕ) (b : ℕ) → AreLinked n p x ws b → nth n (length ws) (n x) ≡ b
nth-end n p x [] b k = k.0
nth-end n p x (z ∷ zs) b k = ap (λ m. nth n (length zs) (n m)) k.0.0 ∙ nth-end n p z zs b k.1

-- what stands behind an entry of an order
pub record Behind (n p l : ℕ → ℕ) (xs : List ℕ) (b high y : ℕ) (ws : List ℕ) : Type 0 where
  pub linked : AreLinked n p y ws b
  pub rising : Rise l (l y) ws high
  pub once : IsDistinct nat_eq ws
  pub lacks : has ws b ≡ false
  pub alone : has ws y ≡ false
  pub shorter : length ws < length xs
  pub among : (q : ℕ) → has ws q ≡ true → has xs q ≡ true

pub behind-entry : (n p l : ℕ → ℕ) (a low : ℕ) (xs : List ℕ) (b high y : ℕ) → AreLinked n p a xs b → Rise l low xs high → IsDistinct nat_eq xs → has xs b ≡ false → has xs y ≡ true
    → (ws : List ℕ) × Behind n p l xs b high y ws
behind-entry n p l a low [] b high y k h d lb t = absurd (cc)
behind-entry n p l a low (w ∷ ws) b high y k h d lb t =
    ⊎_elim
    (λ same. let is : w ≡ y = sym (same_number y w same) in (
      ws,
      record {
        linked = subst (λ m. AreLinked n p m ws b) is k.1;
        rising = subst (λ m. Rise l (l m) ws high) is h.1;
        once = distinct_tail w ws d;
        lacks = tail_lacks w ws b lb;
        alone = subst (λ m. has ws m ≡ false) is (distinct_head w ws d);
        shorter = omega arith;
        among = λ q u. later w ws q u;
      },
    ))
    (λ rest. let i = behind-entry n p l w (l w) ws b high y k.1 h.1 (distinct_tail w ws d) (tail_lacks w ws b lb) rest in
    let less = i.1.shorter in (
      i.0,
      record {
        linked = i.1.linked;
        rising = i.1.rising;
        once = i.1.once;
        lacks = i.1.lacks;
        alone = i.1.alone;
        shorter = omega (arith, less);
        among = λ q u. later w ws q (i.1.among q u);
      },
    ))
    (or_cases (nat_eq y w) (has ws y) t)

-- ---- new labels

pub rise-crowd : (n p l l' : ℕ → ℕ) (c x low step m : ℕ) (ws : List ℕ) (b high : ℕ) → AreLinked n p x ws b → IsDistinct nat_eq ws → has ws b ≡ false → has (walk n c (n x)) b ≡ false → 1 ≤ step
    → ((k : ℕ) → k < c → l' (nth n k (n x)) ≡ low + (k + 1) * step) → (nth n c (n x) ≡ b → low + (c + 1) * step < high) → (nth n c (n x) ≢ b → low + (c + 1) * step ≤ l (nth n c (n x)))
    → ((q : ℕ) → has ws q ≡ true → has (walk n c (n x)) q ≡ false → l' q ≡ l q) → Rise l m ws high → Rise l' low ws high
rise-crowd n p l l' zero x low step m [] b high k d lb off pos new last next others h = let i = last k.0 in omega (arith, i, pos)
rise-crowd n p l l' zero x low step m (z ∷ zs) b high k d lb off pos new last next others h =
    let same : l' z ≡ l z = others z (here z zs) refl in
    let under = next (λ is. head_apart z zs b lb (sym is ∙ k.0.0)) in
    let at = ap l k.0.0 in
    (omega (arith, same, under, at, pos), subst (λ i. Rise l' i zs high) (sym same) (rise-same l l' (l z) zs high (λ q t. others q (later z zs q t) refl) h.1))
rise-crowd n p l l' (suc c) x low step m [] b high k d lb off pos new last next others h = absurd (meets n c x b k.0 off)
rise-crowd n p l l' (suc c) x low step m (z ∷ zs) b high k d lb off pos new last next others h =
    let at : n x ≡ z = k.0.0 in
    let mine = new 0 (omega arith) in
    let first : l' z ≡ low + step = ap l' (sym at) ∙ mine ∙ one low step in (
      omega (arith, first, pos),
      subst (λ i. Rise l' i zs high) (sym first)
          (rise-crowd n p l l' c z (low + step) step (l z) zs b high k.1 (distinct_tail z zs d) (tail_lacks z zs b lb) (off_tail n c x b z at off) pos
          (λ j below. ap (λ i. l' (nth n j (n i))) (sym at) ∙ new (suc j) (omega (arith, below)) ∙ more low step j)
          (λ is. subst (λ i. i < high) (more low step c) (last (ap (λ i. nth n c (n i)) at ∙ is)))
          (λ apart. subst (λ i. i ≤ l (nth n c (n z))) (more low step c) (subst (λ i. low + (suc c + 1) * step ≤ l (nth n c (n i))) at (next (λ is. apart (ap (λ i. nth n c (n i)) (sym at) ∙ is)))))
          (λ q t outside. others q (later z zs q t) (ap (λ i. nat_eq q i || has (walk n c (n i)) q) at ∙ ap (λ e. e || has (walk n c (n z)) q) (differs q z (away zs q z t (distinct_head z zs d))) ∙ outside))
          h.1),
    )
  where
    one : (a s : ℕ) → a + (0 + 1) * s ≡ a + s
    one a s = omega arith

    more : (a s j : ℕ) → a + (suc j + 1) * s ≡ (a + s) + (j + 1) * s
    more a s j = omega arith

-- a number before the crowd isn't in it
pub crowd-among : (n p : ℕ → ℕ) (c a : ℕ) (xs : List ℕ) (b y q : ℕ) → AreLinked n p a xs b → has xs y ≡ true → has (walk n c (n y)) b ≡ false → has (walk n c (n y)) q ≡ true → has xs q ≡ true
crowd-among n p c a [] b y q k t off h = absurd (cc)
crowd-among n p c a (w ∷ ws) b y q k t off h =
    ⊎_elim
    (λ same. later w ws q (crowd-in n p c y ws b q (subst (λ m. AreLinked n p m ws b) (sym (same_number y w same)) k.1) off h))
    (λ rest. later w ws q (crowd-among n p c w ws b y q k.1 rest off h))
    (or_cases (nat_eq y w) (has ws y) t)

pub not_among : (a : Bool) (b : Bool) → (a ≡ true → b ≡ true) → b ≡ false → a ≡ false
not_among true b f g = sym (f refl) ∙ g
not_among false b f g = refl

pub rise-relabel : (n p l l' : ℕ → ℕ) (a low : ℕ) (xs : List ℕ) (b high y c step : ℕ) → AreLinked n p a xs b → IsDistinct nat_eq xs → has xs b ≡ false → has xs y ≡ true → has (walk n c (n y)) b ≡ false → 1 ≤ step
    → ((k : ℕ) → k < c → l' (nth n k (n y)) ≡ l y + (k + 1) * step) → (nth n c (n y) ≡ b → l y + (c + 1) * step < high) → (nth n c (n y) ≢ b → l y + (c + 1) * step ≤ l (nth n c (n y)))
    → ((q : ℕ) → has (walk n c (n y)) q ≡ false → l' q ≡ l q) → Rise l low xs high → Rise l' low xs high
rise-relabel n p l l' a low [] b high y c step k d lb t off pos new last next others h = absurd (cc)
rise-relabel n p l l' a low (w ∷ ws) b high y c step k d lb t off pos new last next others h =
    ⊎_elim
    (λ same.
    let is : y ≡ w = same_number y w same in
    let link : AreLinked n p y ws b = subst (λ m. AreLinked n p m ws b) (sym is) k.1 in
    let kept : l' w ≡ l w = others w (not_among _ (has ws w) (crowd-in n p c y ws b w link off) (distinct_head w ws d)) in
    let i = h.0 in
    let tail : Rise l' (l y) ws high = rise-crowd n p l l' c y (l y) step (l w) ws b high link (distinct_tail w ws d) (tail_lacks w ws b lb) off pos new last next (λ q u outside. others q outside) h.1 in
    (omega (arith, i, kept), subst (λ m. Rise l' m ws high) (ap l is ∙ sym kept) tail))
    (λ rest.
    let kept : l' w ≡ l w = others w (not_among _ (has ws w) (crowd-among n p c w ws b y w k.1 rest off) (distinct_head w ws d)) in
    let i = h.0 in
    (omega (arith, i, kept), subst (λ m. Rise l' m ws high) (sym kept) (rise-relabel n p l l' w (l w) ws b high y c step k.1 (distinct_tail w ws d) (tail_lacks w ws b lb) rest off pos new last next others h.1)))
    (or_cases (nat_eq y w) (has ws y) t)

-- one more number is passed
pub walk-lacks : (n : ℕ → ℕ) (c x b : ℕ) → has (walk n c x) b ≡ false → nth n c x ≢ b → has (walk n (suc c) x) b ≡ false
walk-lacks n zero x b off apart = ap (λ e. e || false) (differs b x (λ is. apart (sym is)))
walk-lacks n (suc c) x b off apart =
    let parts = or_parts (nat_eq b x) (has (walk n c (n x)) b) off in
    ap (λ e. e || has (walk n (suc c) (n x)) b) parts.0 ∙ walk-lacks n c (n x) b parts.1 apart
