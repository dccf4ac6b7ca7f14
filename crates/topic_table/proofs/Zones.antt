-- Lists whose items change places, cut in front and behind.
use Rattle.std.proofs.Common.{◌≡◌, ℕ, zero, suc, ◌+◌, ◌-◌, ◌<◌, ◌≤◌, Bool, true, false, not, ◌&&◌, ◌||◌, List, [], ◌∷◌, ◌++◌, length, take, drop, get_or, set, refl, ap, sym, subst, ◌∙◌, true≢false, arith}
use Rattle.std.specs.List.{AllByRecursion, IsDistinct, list_any, swap, swap_remove}
use Rattle.std.specs.Cmp.{IsEquivalence}
use Rattle.std.proofs.lemmas.List.{drop_all, take-append-drop, get_or-take, get_or-drop, take-set-le, drop-set-lt, drop-set-add, take-set, drop-set, drop-take, length-take, length-drop}
use Rattle.std.proofs.lemmas.List.Edits.{swap_is}
use Rattle.std.proofs.lemmas.List.Folds.{list_any-append, list_any_at}
use Rattle.std.proofs.lemmas.List.Sorted.{IsPermutation-swap, IsPermutation-swap_remove, list_any-IsPermutation}
use Rattle.std.proofs.lemmas.Map.Keys.{IsDistinct-head, IsDistinct-tail}

-- what holds where the other does is in both
pub in_either : (s t : Bool) → (s ≡ true → t ≡ true) → t ≡ (s || t)
in_either true t h = h refl
in_either false t h = refl

-- what doesn't hold where the other does is unchanged without it
pub without_other : (s t : Bool) → (s ≡ true → t ≡ false) → t ≡ (t && not s)
without_other true true h = absurd (true≢false (h refl))
without_other true false h = refl
without_other false true h = refl
without_other false false h = refl

-- one of two that exclude each other is both without the other
pub other_of : (a s t : Bool) → a ≡ (s || t) → (s ≡ true → t ≡ false) → t ≡ (a && not s)
other_of a true true e h = absurd (true≢false (h refl))
other_of true true false e h = refl
other_of false true false e h = refl
other_of a false true e h = sym (ap (λ b. b && true) e)
other_of a false false e h = sym (ap (λ b. b && true) e)

or_comm : (a b : Bool) → (a || b) ≡ (b || a)
or_comm true true = refl
or_comm true false = refl
or_comm false true = refl
or_comm false false = refl

second_of_none : (a b : Bool) → (a || b) ≡ false → b ≡ false
second_of_none true b h = absurd (true≢false h)
second_of_none false b h = h

module _ {X : Type 0} where
  -- a write within the front, or behind it
  pub take-set_any : (n : ℕ) (xs : List X) (i : ℕ) (y : X) → take n (set xs i y) ≡ set (take n xs) i y
  take-set_any zero [] i y = refl
  take-set_any zero (x ∷ xs) zero y = refl
  take-set_any zero (x ∷ xs) (suc i) y = refl
  take-set_any (suc n) [] i y = refl
  take-set_any (suc n) (x ∷ xs) zero y = refl
  take-set_any (suc n) (x ∷ xs) (suc i) y = ap {B = List X} (λ r. x ∷ r) (take-set_any n xs i y)

  -- the front of a list where two items of the front have changed places
  pub take-swap : (n : ℕ) (xs : List X) (i j : ℕ) → i < n → j < n → n ≤ length xs → take n (swap xs i j) ≡ swap (take n xs) i j
  take-swap n [] i j first second within = absurd (omega arith)
  take-swap n (x ∷ xs) i j first second within =
      let front : length (take n (x ∷ xs)) ≡ n = length-take n (x ∷ xs) ∙ omega arith in
      let first_there : i < length (take n (x ∷ xs)) = subst (λ k. i < k) (sym front) first in
      let second_there : j < length (take n (x ∷ xs)) = subst (λ k. j < k) (sym front) second in
      take-set_any n (set (x ∷ xs) i (get_or (x ∷ xs) j x)) j (get_or (x ∷ xs) i x)
      ∙ ap (λ l. set l j (get_or (x ∷ xs) i x)) (take-set_any n (x ∷ xs) i (get_or (x ∷ xs) j x))
      ∙ ap (λ y. set (set (take n (x ∷ xs)) i y) j (get_or (x ∷ xs) i x)) (sym (get_or-take n (x ∷ xs) j x second))
      ∙ ap (λ y. set (set (take n (x ∷ xs)) i (get_or (take n (x ∷ xs)) j x)) j y) (sym (get_or-take n (x ∷ xs) i x first))
      ∙ swap_is (take n (x ∷ xs)) i j x first_there second_there

  -- the rest of a list where two items of the rest have changed places
  pub drop-swap : (n : ℕ) (xs : List X) (i j : ℕ) → n + i < length xs → n + j < length xs → drop n (swap xs (n + i) (n + j)) ≡ swap (drop n xs) i j
  drop-swap n [] i j first second = absurd (omega arith)
  drop-swap n (x ∷ xs) i j first second =
      let rest : length (drop n (x ∷ xs)) ≡ length (x ∷ xs) - n = length-drop n (x ∷ xs) in
      let first_there : i < length (drop n (x ∷ xs)) = subst (λ k. i < k) (sym rest) (omega arith) in
      let second_there : j < length (drop n (x ∷ xs)) = subst (λ k. j < k) (sym rest) (omega arith) in
      drop-set-add n (set (x ∷ xs) (n + i) (get_or (x ∷ xs) (n + j) x)) j (get_or (x ∷ xs) (n + i) x)
      ∙ ap (λ l. set l j (get_or (x ∷ xs) (n + i) x)) (drop-set-add n (x ∷ xs) i (get_or (x ∷ xs) (n + j) x))
      ∙ ap (λ y. set (set (drop n (x ∷ xs)) i y) j (get_or (x ∷ xs) (n + i) x)) (sym (get_or-drop n (x ∷ xs) j x))
      ∙ ap (λ y. set (set (drop n (x ∷ xs)) i (get_or (drop n (x ∷ xs)) j x)) j y) (sym (get_or-drop n (x ∷ xs) i x))
      ∙ swap_is (drop n (x ∷ xs)) i j x first_there second_there

  -- the rest of a list from the place on to which an item came from before
  pub drop-swap_first : (xs : List X) (i j : ℕ) (d : X) → i ≤ j → j < length xs → drop j (swap xs i j) ≡ get_or xs i d ∷ drop (j + 1) xs
  drop-swap_first xs i j d order within =
      ap (drop j) (sym (swap_is xs i j d (omega arith) within))
      ∙ drop-set (set xs i (get_or xs j d)) j (get_or xs i d) (subst (λ k. j < k) (sym (length-set_is xs i (get_or xs j d))) within)
      ∙ ap (λ l. get_or xs i d ∷ l) (drop-set-lt (j + 1) xs i (get_or xs j d) (omega arith))
    where
      length-set_is : (l : List X) (k : ℕ) (y : X) → length (set l k y) ≡ length l
      length-set_is [] k y = refl
      length-set_is (a ∷ l) zero y = refl
      length-set_is (a ∷ l) (suc k) y = ap suc (length-set_is l k y)

  -- an item that changed places with a later one, and the items from its place on
  pub drop-swap_at : (xs : List X) (i j : ℕ) (d : X) → j ≤ i → i < length xs → drop j (swap xs i j) ≡ get_or xs i d ∷ drop (j + 1) (swap xs i j)
  drop-swap_at xs i j d order within =
      let there : j < length (set xs i (get_or xs j d)) = subst (λ k. j < k) (sym (length-set_is xs i (get_or xs j d))) (omega arith) in
      let is : set (set xs i (get_or xs j d)) j (get_or xs i d) ≡ swap xs i j = swap_is xs i j d within (omega arith) in
      ap (drop j) (sym is)
      ∙ drop-set (set xs i (get_or xs j d)) j (get_or xs i d) there
      ∙ ap (λ l. get_or xs i d ∷ l) (sym (drop-set-lt (j + 1) (set xs i (get_or xs j d)) j (get_or xs i d) (omega arith)))
      ∙ ap (λ l. get_or xs i d ∷ drop (j + 1) l) is
    where
      length-set_is : (l : List X) (k : ℕ) (y : X) → length (set l k y) ≡ length l
      length-set_is [] k y = refl
      length-set_is (a ∷ l) zero y = refl
      length-set_is (a ∷ l) (suc k) y = ap suc (length-set_is l k y)

  -- a test passes somewhere in a list where it does with two items in each other's place
  pub any-swap : (p : X → Bool) (xs : List X) (i j : ℕ) → i < length xs → j < length xs → list_any p (swap xs i j) ≡ list_any p xs
  any-swap p xs i j first second = sym (list_any-IsPermutation p xs (swap xs i j) (IsPermutation-swap xs (swap xs i j) i j first second refl))

  -- and so in the front
  pub any-take-swap : (p : X → Bool) (n : ℕ) (xs : List X) (i j : ℕ) → i < n → j < n → n ≤ length xs → list_any p (take n (swap xs i j)) ≡ list_any p (take n xs)
  any-take-swap p n xs i j first second within =
      let front : length (take n xs) ≡ n = length-take n xs ∙ omega arith in
      ap (list_any p) (take-swap n xs i j first second within)
      ∙ any-swap p (take n xs) i j (subst (λ k. i < k) (sym front) first) (subst (λ k. j < k) (sym front) second)

  -- and in the rest
  pub any-drop-swap : (p : X → Bool) (n : ℕ) (xs : List X) (i j : ℕ) → n ≤ i → n ≤ j → i < length xs → j < length xs → list_any p (drop n (swap xs i j)) ≡ list_any p (drop n xs)
  any-drop-swap p n xs i j first second within_first within_second =
      let rest : length (drop n xs) ≡ length xs - n = length-drop n xs in
      let at_first : n + (i - n) ≡ i = omega arith in
      let at_second : n + (j - n) ≡ j = omega arith in
      let moved : drop n (swap xs i j) ≡ swap (drop n xs) (i - n) (j - n)
      = subst (λ k. drop n (swap xs k j) ≡ swap (drop n xs) (i - n) (j - n)) at_first
      (subst (λ k. drop n (swap xs (n + (i - n)) k) ≡ swap (drop n xs) (i - n) (j - n)) at_second
      (drop-swap n xs (i - n) (j - n) (omega arith) (omega arith))) in
      ap (list_any p) moved
      ∙ any-swap p (drop n xs) (i - n) (j - n) (subst (λ k. i - n < k) (sym rest) (omega arith)) (subst (λ k. j - n < k) (sym rest) (omega arith))

  -- a list without an item, whose place the last one takes: in front of the place nothing changes
  pub take-swap_remove : (n : ℕ) (xs : List X) (i : ℕ) (d : X) → n ≤ i → i < length xs → take n (swap_remove xs i d) ≡ take n xs
  take-swap_remove n xs i d before within =
      take-take_less n (length xs - 1) (set xs i (get_or xs (length xs - 1) d)) (omega arith)
      ∙ take-set-le n xs i (get_or xs (length xs - 1) d) before
    where
      take-take_less : (m k : ℕ) (l : List X) → m ≤ k → take m (take k l) ≡ take m l
      take-take_less zero k l h = refl
      take-take_less (suc m) zero l h = absurd (omega arith)
      take-take_less (suc m) (suc k) [] h = refl
      take-take_less (suc m) (suc k) (y ∷ l) h = ap {B = List X} (λ r. y ∷ r) (take-take_less m k l (omega arith))

  -- and from before the place on the rest is one without the item too
  pub drop-swap_remove : (n : ℕ) (xs : List X) (i : ℕ) (d : X) → n + i < length xs → drop n (swap_remove xs (n + i) d) ≡ swap_remove (drop n xs) i d
  drop-swap_remove n xs i d within =
      let rest : length (drop n xs) ≡ length xs - n = length-drop n xs in
      let cut : n + (length xs - 1 - n) ≡ length xs - 1 = omega arith in
      let count : length xs - 1 - n ≡ length (drop n xs) - 1 = subst (λ k. length xs - 1 - n ≡ k - 1) (sym rest) (omega arith) in
      ap (λ k. drop n (take k (set xs (n + i) (get_or xs (length xs - 1) d)))) (sym cut)
      ∙ drop-take n (length xs - 1 - n) (set xs (n + i) (get_or xs (length xs - 1) d))
      ∙ ap (take (length xs - 1 - n)) (drop-set-add n xs i (get_or xs (length xs - 1) d))
      ∙ ap (λ k. take (length xs - 1 - n) (set (drop n xs) i (get_or xs k d))) (sym cut)
      ∙ ap (λ y. take (length xs - 1 - n) (set (drop n xs) i y)) (sym (get_or-drop n xs (length xs - 1 - n) d))
      ∙ ap (λ k. take k (set (drop n xs) i (get_or (drop n xs) k d))) count

  -- the rest of a list with an item, and without it
  pub any-drop-swap_remove : (p : X → Bool) (n : ℕ) (xs : List X) (i : ℕ) (x : X) → n ≤ i → i < length xs → x ≡ get_or xs i x
      → list_any p (drop n xs) ≡ (p x || list_any p (drop n (swap_remove xs i x)))
  any-drop-swap_remove p n xs i x before within is =
      let rest : length (drop n xs) ≡ length xs - n = length-drop n xs in
      let at : n + (i - n) ≡ i = omega arith in
      let there : i - n < length (drop n xs) = subst (λ k. i - n < k) (sym rest) (omega arith) in
      let is_rest : x ≡ get_or (drop n xs) (i - n) x = is ∙ ap (λ k. get_or xs k x) (sym at) ∙ sym (get_or-drop n xs (i - n) x) in
      let moved : drop n (swap_remove xs i x) ≡ swap_remove (drop n xs) (i - n) x
      = subst (λ k. drop n (swap_remove xs k x) ≡ swap_remove (drop n xs) (i - n) x) at (drop-swap_remove n xs (i - n) x (omega arith)) in
      list_any-IsPermutation p (drop n xs) (x ∷ swap_remove (drop n xs) (i - n) x) (IsPermutation-swap_remove (drop n xs) (i - n) x there is_rest)
      ∙ ap (λ l. p x || list_any p l) (sym moved)

  -- a list is its front and its last item
  split_last : (x : X) (xs : List X) (d : X) → take (length xs) (x ∷ xs) ++ get_or (x ∷ xs) (length xs) d ∷ [] ≡ x ∷ xs
  split_last x [] d = refl
  split_last x (y ∷ ys) d = ap {B = List X} (λ r. x ∷ r) (split_last y ys d)

  -- a list without its first item, whose place the last one takes
  pub any-swap_remove_first : (p : X → Bool) (xs : List X) (x d : X) → list_any p (swap_remove (x ∷ xs) 0 d) ≡ list_any p xs
  any-swap_remove_first p [] x d = refl
  any-swap_remove_first p (y ∷ ys) x d =
      let last = get_or (y ∷ ys) (length ys) d in
      let cut : suc (suc (length ys)) - 1 ≡ suc (length ys) = omega arith in
      ap (λ k. list_any p (take k (get_or (x ∷ y ∷ ys) k d ∷ y ∷ ys))) cut
      ∙ or_last (p last) (list_any p (take (length ys) (y ∷ ys))) false
      ∙ sym (list_any-append p (take (length ys) (y ∷ ys)) (last ∷ []))
      ∙ ap (list_any p) (split_last y ys d)
    where
      or_last : (a b c : Bool) → (a || b) ≡ (b || (a || false))
      or_last true true c = refl
      or_last true false c = refl
      or_last false true c = refl
      or_last false false c = refl

  -- the rest of a list without its first item
  pub any-drop-swap_remove_first : (p : X → Bool) (n : ℕ) (xs : List X) (d : X) → n < length xs → list_any p (drop n (swap_remove xs n d)) ≡ list_any p (drop (n + 1) xs)
  any-drop-swap_remove_first p n xs d within =
      let at : n + 0 ≡ n = omega arith in
      ap (list_any p) (subst (λ k. drop n (swap_remove xs k d) ≡ swap_remove (drop n xs) 0 d) at (drop-swap_remove n xs 0 d (omega arith)))
      ∙ ap (λ l. list_any p (swap_remove l 0 d)) (first n xs within)
      ∙ any-swap_remove_first p (drop (n + 1) xs) (get_or xs n d) d
    where
      first : (m : ℕ) (l : List X) → m < length l → drop m l ≡ get_or l m d ∷ drop (m + 1) l
      first m [] h = absurd (omega arith)
      first zero (y ∷ l) h = refl
      first (suc m) (y ∷ l) h =
          let more : suc m + 1 ≡ suc (m + 1) = omega arith in
          first m l (omega arith) ∙ ap (λ k. get_or l m d ∷ drop k (y ∷ l)) (sym more)

  -- what stands nowhere doesn't stand in the rest
  pub none-drop : (p : X → Bool) (n : ℕ) (xs : List X) → list_any p xs ≡ false → list_any p (drop n xs) ≡ false
  none-drop p zero xs none = none
  none-drop p (suc n) [] none = none
  none-drop p (suc n) (x ∷ xs) none = none-drop p n xs (second_of_none (p x) (list_any p xs) none)

  -- what stands somewhere behind stands in the rest
  pub any-drop_at : (p : X → Bool) (n : ℕ) (xs : List X) (i : ℕ) (d : X) → n ≤ i → i < length xs → p (get_or xs i d) ≡ true → list_any p (drop n xs) ≡ true
  any-drop_at p n xs i d before within passes =
      let rest : length (drop n xs) ≡ length xs - n = length-drop n xs in
      let at : n + (i - n) ≡ i = omega arith in
      list_any_at p (drop n xs) (i - n) d (subst (λ k. i - n < k) (sym rest) (omega arith))
      (ap p (get_or-drop n xs (i - n) d ∙ ap (λ k. get_or xs k d) at) ∙ passes)

-- none of some keys apart from a key is found by it
pub none_apart : {K : Type 0} (eq : K → K → Bool) (q : K) (ks : List K) → AllByRecursion (λ k. eq q k ≡ false) ks → list_any (eq q) ks ≡ false
none_apart eq q [] all = refl
none_apart eq q (k ∷ ks) all = ap (λ b. b || list_any (eq q) ks) all.0 ∙ none_apart eq q ks all.1

-- what holds of each item holds of the last
all_last : {X : Type 0} (P : X → Type 0) (zs : List X) (x : X) → AllByRecursion P (zs ++ x ∷ []) → P x
all_last P [] x all = all.0
all_last P (z ∷ zs) x all = all_last P zs x all.1

-- of distinct keys none in front is the last
apart_last : {K : Type 0} {eq : K → K → Bool} (laws : IsEquivalence eq) (zs : List K) (x : K) → IsDistinct eq (zs ++ x ∷ []) → list_any (eq x) zs ≡ false
apart_last laws [] x distinct = refl
apart_last {K} {eq} laws (z ∷ zs) x distinct =
    ap (λ b. b || list_any (eq x) zs) (laws.symm x z ∙ all_last (λ y. eq z y ≡ false) zs x (IsDistinct-head eq z (zs ++ x ∷ []) distinct))
    ∙ apart_last laws zs x (IsDistinct-tail eq z (zs ++ x ∷ []) distinct)

module _ {X : Type 0} where
  -- a list whose last item took the place of another, which is cut off behind
  pub take-swap_last : (xs : List X) (i : ℕ) (d : X) → i < length xs → take (length xs - 1) (swap xs i (length xs - 1)) ≡ swap_remove xs i d
  take-swap_last xs i d within =
      ap (take (length xs - 1)) (sym (swap_is xs i (length xs - 1) d within (omega arith)))
      ∙ take-set (set xs i (get_or xs (length xs - 1) d)) (length xs - 1) (get_or xs i d)

  swap-split : (xs : List X) (i : ℕ) (d : X) → i < length xs → take (length xs - 1) (swap xs i (length xs - 1)) ++ get_or xs i d ∷ [] ≡ swap xs i (length xs - 1)
  swap-split xs i d within =
      let last = length xs - 1 in
      let none : drop (last + 1) xs ≡ [] = drop_all (last + 1) xs (omega arith) in
      ap (λ l. take last (swap xs i last) ++ l) (sym (drop-swap_first xs i last d (omega arith) (omega arith) ∙ ap (λ l. get_or xs i d ∷ l) none))
      ∙ take-append-drop last (swap xs i last)

-- a key that left a list of distinct keys isn't there
pub gone-swap_last : {K : Type 0} {eq : K → K → Bool} (laws : IsEquivalence eq) (xs : List K) (i : ℕ) (d : K) → i < length xs
    → IsDistinct eq (swap xs i (length xs - 1)) → list_any (eq (get_or xs i d)) (take (length xs - 1) (swap xs i (length xs - 1))) ≡ false
gone-swap_last {K} {eq} laws xs i d within distinct =
    apart_last laws (take (length xs - 1) (swap xs i (length xs - 1))) (get_or xs i d)
    (subst (IsDistinct eq) (sym (swap-split xs i d within)) distinct)

module _ {K : Type 0} (eq : K → K → Bool) where
  -- of distinct keys none behind a key is it
  pub apart-drop : (xs : List K) (q : K) (i n : ℕ) (d : K) → IsDistinct eq xs → ((k : K) → eq q k ≡ true → q ≡ k) → i < length xs → eq q (get_or xs i d) ≡ true → i < n → list_any (eq q) (drop n xs) ≡ false
  apart-drop [] q i n d distinct same within at before = absurd (omega arith)
  apart-drop (x ∷ xs) q i zero d distinct same within at before = absurd (omega arith)
  apart-drop (x ∷ xs) q zero (suc n) d distinct same within at before =
      none-drop (eq q) n xs (none_apart eq q xs (subst (λ k. AllByRecursion (λ y. eq k y ≡ false) xs) (sym (same x at)) (IsDistinct-head eq x xs distinct)))
  apart-drop (x ∷ xs) q (suc i) (suc n) d distinct same within at before =
      apart-drop xs q i n d (IsDistinct-tail eq x xs distinct) same (omega arith) at (omega arith)

-- a test and the front of a list
module _ {X : Type 0} (p : X → Bool) where
  pub none-take : (n : ℕ) (xs : List X) (d : X) → ((j : ℕ) → j < n → p (get_or xs j d) ≡ false) → list_any p (take n xs) ≡ false
  none-take zero xs d fails = refl
  none-take (suc n) [] d fails = refl
  none-take (suc n) (x ∷ xs) d fails =
      ap (λ b. b || list_any p (take n xs)) (fails zero (omega arith))
      ∙ none-take n xs d (λ j below. fails (suc j) (omega arith))

  pub any-take_at : (n : ℕ) (xs : List X) (i : ℕ) (d : X) → i < n → i < length xs → p (get_or xs i d) ≡ true → list_any p (take n xs) ≡ true
  any-take_at n [] i d before within passes = absurd (omega arith)
  any-take_at zero (x ∷ xs) i d before within passes = absurd (omega arith)
  any-take_at (suc n) (x ∷ xs) zero d before within passes = ap (λ b. b || list_any p (take n xs)) passes
  any-take_at (suc n) (x ∷ xs) (suc i) d before within passes =
      ap (λ b. p x || b) (any-take_at n xs i d (omega arith) (omega arith) passes) ∙ or_comm (p x) true
