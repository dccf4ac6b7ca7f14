-- Lists in strict order: a key put at its place, and keys left out.
use Rattle.std.proofs.Common.{◌≡◌, Bool, true, false, cond, ◌||◌, List, [], ◌∷◌, ◌++◌, refl, ap, ◌∙◌}
use Rattle.std.specs.Prelude.{not}
use Rattle.std.specs.declared.cmp.Ordering.{Ordering}
use Rattle.std.specs.declared.cmp.Ordering.TheVariants.{Less, Equal, Greater}
use Rattle.std.specs.Ordering.{match_ordering, ordering_reverse, is_eq}
use Rattle.std.specs.Cmp.{IsTotalOrder, alike_right}
use Rattle.std.specs.List.{AllByRecursion, filter, list_any}
use Rattle.std.specs.List.Sorted.{IsStrictlySortedBy}
use Rattle.std.specs.BTreeSet.{insert_key}
use Rattle.std.proofs.lemmas.List.Elements.{filter-append}

pub all_map : {K : Type 0} (P Q : K → Type 0) (xs : List K) → ((y : K) → P y → Q y) → AllByRecursion P xs → AllByRecursion Q xs
all_map P Q [] f a = tt
all_map P Q (x ∷ xs) f a = (f x a.0, all_map P Q xs f a.1)

pub all_front : {K : Type 0} (P : K → Type 0) (l m : List K) → AllByRecursion P (l ++ m) → AllByRecursion P l
all_front P [] m a = tt
all_front P (x ∷ l) m a = (a.0, all_front P l m a.1)

pub all_join : {K : Type 0} (P : K → Type 0) (l m : List K) → AllByRecursion P l → AllByRecursion P m → AllByRecursion P (l ++ m)
all_join P [] m a b = b
all_join P (x ∷ l) m a b = (a.0, all_join P l m a.1 b)

pub all_middle : {K : Type 0} (P : K → Type 0) (l : List K) (x : K) (r : List K) → AllByRecursion P (l ++ x ∷ r) → P x
all_middle P [] x r a = a.0
all_middle P (y ∷ l) x r a = all_middle P l x r a.1

pub all_behind : {K : Type 0} (P : K → Type 0) (l : List K) (x : K) (r : List K) → AllByRecursion P (l ++ x ∷ r) → AllByRecursion P r
all_behind P [] x r a = a.1
all_behind P (y ∷ l) x r a = all_behind P l x r a.1

pub sorted_front : {K : Type 0} (R : K → K → Ordering) (l m : List K) → IsStrictlySortedBy R (l ++ m) → IsStrictlySortedBy R l
unfolding IsStrictlySortedBy
sorted_front R [] m s = tt
sorted_front R (x ∷ l) m s = (all_front (λ y. R x y ≡ Less) l m s.0, sorted_front R l m s.1)

pub sorted_back : {K : Type 0} (R : K → K → Ordering) (l : List K) (x : K) (r : List K) → IsStrictlySortedBy R (l ++ x ∷ r) → IsStrictlySortedBy R r
unfolding IsStrictlySortedBy
sorted_back R [] x r s = s.1
sorted_back R (y ∷ l) x r s = sorted_back R l x r s.1

-- what stands in front is below
pub front_below : {K : Type 0} (R : K → K → Ordering) (l : List K) (x : K) (r : List K) → IsStrictlySortedBy R (l ++ x ∷ r) → AllByRecursion (λ y. R y x ≡ Less) l
unfolding IsStrictlySortedBy
front_below R [] x r s = tt
front_below R (y ∷ l) x r s = (all_middle (λ z. R y z ≡ Less) l x r s.0, front_below R l x r s.1)

-- what stands behind is above
pub back_above : {K : Type 0} (R : K → K → Ordering) (l : List K) (x : K) (r : List K) → IsStrictlySortedBy R (l ++ x ∷ r) → AllByRecursion (λ y. R x y ≡ Less) r
unfolding IsStrictlySortedBy
back_above R [] x r s = s.0
back_above R (y ∷ l) x r s = back_above R l x r s.1

-- a key below another goes in front of it
pub insert_left : {K : Type 0} (R : K → K → Ordering) (k : K) (l : List K) (x : K) (r : List K) → R k x ≡ Less → insert_key R (l ++ x ∷ r) k ≡ insert_key R l k ++ x ∷ r
insert_left R k [] x r h = rw h refl
insert_left R k (y ∷ l) x r h =
    elim (R k y) as (λ o. match_ordering o (k ∷ y ∷ (l ++ x ∷ r)) (y ∷ (l ++ x ∷ r)) (y ∷ insert_key R (l ++ x ∷ r) k) ≡ match_ordering o (k ∷ y ∷ l) (y ∷ l) (y ∷ insert_key R l k) ++ x ∷ r) [
      | Less ↦ refl
      | Equal ↦ refl
      | Greater ↦ ap (λ z. y ∷ z) (insert_left R k l x r h)
    ]

insert_right_by : {K : Type 0} (R : K → K → Ordering) (k : K) (l : List K) (x : K) (r : List K) → R k x ≡ Greater → AllByRecursion (λ y. R k y ≡ Greater) l → insert_key R (l ++ x ∷ r) k ≡ l ++ x ∷ insert_key R r k
insert_right_by R k [] x r h a = rw h refl
insert_right_by R k (y ∷ l) x r h a = let e : R k y ≡ Greater = a.0 in rw e (ap (λ z. y ∷ z) (insert_right_by R k l x r h a.1))

insert_here_by : {K : Type 0} (R : K → K → Ordering) (k : K) (l : List K) (x : K) (r : List K) → R k x ≡ Equal → AllByRecursion (λ y. R k y ≡ Greater) l → insert_key R (l ++ x ∷ r) k ≡ l ++ x ∷ r
insert_here_by R k [] x r h a = rw h refl
insert_here_by R k (y ∷ l) x r h a = let e : R k y ≡ Greater = a.0 in rw e (ap (λ z. y ∷ z) (insert_here_by R k l x r h a.1))

-- a test that keeps each key keeps the list
keeps : {K : Type 0} (p : K → Bool) (xs : List K) → AllByRecursion (λ y. p y ≡ true) xs → filter p xs ≡ xs
keeps p [] a = refl
keeps p (x ∷ xs) a = let e : p x ≡ true = a.0 in rw e (ap (λ z. x ∷ z) (keeps p xs a.1))

-- a test that keeps no key leaves nothing
pub drops : {K : Type 0} (p : K → Bool) (xs : List K) → AllByRecursion (λ y. p y ≡ false) xs → filter p xs ≡ []
drops p [] a = refl
drops p (x ∷ xs) a = let e : p x ≡ false = a.0 in rw e (drops p xs a.1)

-- what holds of all keys holds of those that are kept
pub all_leave : {K : Type 0} (P : K → Type 0) (p : K → Bool) (xs : List K) → AllByRecursion P xs → AllByRecursion P (filter p xs)
all_leave P p [] a = tt
all_leave P p (x ∷ xs) a = elim (p x) as (λ w. AllByRecursion P (cond w (x ∷ filter p xs) (filter p xs))) [ true ↦ (a.0, all_leave P p xs a.1) | false ↦ all_leave P p xs a.1 ]

-- whether a key is another one than k
abbrev pub differs : {K : Type 0} → (K → K → Ordering) → K → K → Bool
differs R k y = not (is_eq (R k y))

module _ {K : Type 0} {R : K → K → Ordering} (o : IsTotalOrder R) where
  turn : (x y : K) (r : Ordering) → R x y ≡ r → R y x ≡ ordering_reverse r
  turn x y r e = o.antisymm y x ∙ ap ordering_reverse e

  behind : (k x y : K) → R k x ≡ Greater → R y x ≡ Less → R k y ≡ Greater
  behind k x y h g = turn y k Less (o.trans y x k g (turn k x Greater h))

  behind_same : (k x y : K) → R k x ≡ Equal → R y x ≡ Less → R k y ≡ Greater
  behind_same k x y h g = o.congr k x y h ∙ turn y x Less g

  before_same : (k x y : K) → R k x ≡ Equal → R x y ≡ Less → R k y ≡ Less
  before_same k x y h g = o.congr k x y h ∙ g

  -- a key above another goes behind it
  pub insert_right : (k : K) (l : List K) (x : K) (r : List K) → IsStrictlySortedBy R (l ++ x ∷ r) → R k x ≡ Greater → insert_key R (l ++ x ∷ r) k ≡ l ++ x ∷ insert_key R r k
  insert_right k l x r s h = insert_right_by R k l x r h (all_map _ (λ y. R k y ≡ Greater) l (λ y. behind k x y h) (front_below R l x r s))

  -- a key that stands there stays
  pub insert_here : (k : K) (l : List K) (x : K) (r : List K) → IsStrictlySortedBy R (l ++ x ∷ r) → R k x ≡ Equal → insert_key R (l ++ x ∷ r) k ≡ l ++ x ∷ r
  insert_here k l x r s h = insert_here_by R k l x r h (all_map _ (λ y. R k y ≡ Greater) l (λ y. behind_same k x y h) (front_below R l x r s))

  differs_greater : (k y : K) → R k y ≡ Greater → differs R k y ≡ true
  differs_greater k y e = ap (λ r. not (is_eq r)) e

  differs_less : (k y : K) → R k y ≡ Less → differs R k y ≡ true
  differs_less k y e = ap (λ r. not (is_eq r)) e

  -- leaving out a key below another touches what is in front
  pub leave_left : (k : K) (l : List K) (x : K) (r : List K) → IsStrictlySortedBy R (l ++ x ∷ r) → R k x ≡ Less → filter (differs R k) (l ++ x ∷ r) ≡ filter (differs R k) l ++ x ∷ r
  leave_left k l x r s h =
      filter-append (differs R k) l (x ∷ r)
      ∙ ap (λ z. filter (differs R k) l ++ z) (keeps (differs R k) (x ∷ r) (differs_less k x h, all_map _ (λ y. differs R k y ≡ true) r (λ y g. differs_less k y (o.trans k x y h g)) (back_above R l x r s)))

  -- leaving out a key above another touches what is behind
  pub leave_right : (k : K) (l : List K) (x : K) (r : List K) → IsStrictlySortedBy R (l ++ x ∷ r) → R k x ≡ Greater → filter (differs R k) (l ++ x ∷ r) ≡ l ++ x ∷ filter (differs R k) r
  leave_right k l x r s h =
      filter-append (differs R k) l (x ∷ r)
      ∙ ap (λ z. z ++ filter (differs R k) (x ∷ r)) (keeps (differs R k) l (all_map _ (λ y. differs R k y ≡ true) l (λ y g. differs_greater k y (behind k x y h g)) (front_below R l x r s)))
      ∙ ap (λ b. l ++ cond b (x ∷ filter (differs R k) r) (filter (differs R k) r)) (differs_greater k x h)

  -- leaving out the key that stands there
  pub leave_here : (k : K) (l : List K) (x : K) (r : List K) → IsStrictlySortedBy R (l ++ x ∷ r) → R k x ≡ Equal → filter (differs R k) (l ++ x ∷ r) ≡ l ++ r
  leave_here k l x r s h =
      filter-append (differs R k) l (x ∷ r)
      ∙ ap (λ z. z ++ filter (differs R k) (x ∷ r)) (keeps (differs R k) l (all_map _ (λ y. differs R k y ≡ true) l (λ y g. differs_greater k y (behind_same k x y h g)) (front_below R l x r s)))
      ∙ ap (λ b. l ++ cond b (x ∷ filter (differs R k) r) (filter (differs R k) r)) (ap (λ q. not (is_eq q)) h)
      ∙ ap (λ z. l ++ z) (keeps (differs R k) r (all_map _ (λ y. differs R k y ≡ true) r (λ y g. differs_less k y (before_same k x y h g)) (back_above R l x r s)))

  pub all_insert : (P : K → Type 0) (xs : List K) (k : K) → AllByRecursion P xs → P k → AllByRecursion P (insert_key R xs k)
  all_insert P [] k a p = (p, tt)
  all_insert P (x ∷ xs) k a p =
      elim (R k x) as (λ q. AllByRecursion P (match_ordering q (k ∷ x ∷ xs) (x ∷ xs) (x ∷ insert_key R xs k))) [
        | Less ↦ (p, a)
        | Equal ↦ a
        | Greater ↦ (a.0, all_insert P xs k a.1 p)
      ]

  -- a key put at its place keeps the order
  pub sorted_insert : (xs : List K) (k : K) → IsStrictlySortedBy R xs → IsStrictlySortedBy R (insert_key R xs k)
  unfolding IsStrictlySortedBy
  sorted_insert [] k s = (tt, tt)
  sorted_insert (x ∷ xs) k s = by (sorted_insert xs k s.1) (R k x) refl where
    by : IsStrictlySortedBy R (insert_key R xs k) → (q : Ordering) → R k x ≡ q → IsStrictlySortedBy R (match_ordering q (k ∷ x ∷ xs) (x ∷ xs) (x ∷ insert_key R xs k))
    by ih Less e = ((e, all_map _ (λ y. R k y ≡ Less) xs (λ y g. o.trans k x y e g) s.0), s)
    by ih Equal e = s
    by ih Greater e = (all_insert (λ y. R x y ≡ Less) xs k s.0 (turn k x Greater e), ih)

  or_swap : (a b c : Bool) → (b || (a || c)) ≡ (a || (b || c))
  or_swap true true c = refl
  or_swap true false c = refl
  or_swap false b c = refl

  or_twice : (a c : Bool) → (a || c) ≡ (a || (a || c))
  or_twice true c = refl
  or_twice false c = refl

  -- a test that equal keys pass alike passes on the new key and on the others
  pub any_insert : (q : K) (xs : List K) (k : K) → list_any (λ y. is_eq (R q y)) (insert_key R xs k) ≡ (is_eq (R q k) || list_any (λ y. is_eq (R q y)) xs)
  any_insert q [] k = refl
  any_insert q (x ∷ xs) k = by (any_insert q xs k) (R k x) refl where
    by : list_any (λ y. is_eq (R q y)) (insert_key R xs k) ≡ (is_eq (R q k) || list_any (λ y. is_eq (R q y)) xs) → (w : Ordering) → R k x ≡ w → list_any (λ y. is_eq (R q y)) (match_ordering w (k ∷ x ∷ xs) (x ∷ xs) (x ∷ insert_key R xs k)) ≡ (is_eq (R q k) || list_any (λ y. is_eq (R q y)) (x ∷ xs))
    by ih Less e = refl
    by ih Equal e = let same : R q k ≡ R q x = alike_right o k x q e in rw same (or_twice (is_eq (R q x)) (list_any (λ y. is_eq (R q y)) xs))
    by ih Greater e = ap (λ z. is_eq (R q x) || z) ih ∙ or_swap (is_eq (R q k)) (is_eq (R q x)) (list_any (λ y. is_eq (R q y)) xs)
