-- The readers of a topic in one list: those forgotten in the running round, those that are kept and have read, and those
-- that have read and aren't kept.
use Rattle.std.proofs.Common.{◌≡◌, ℕ, zero, suc, ◌+◌, ◌-◌, ◌<◌, ◌≤◌, Bool, true, false, not, ◌&&◌, ◌||◌, List, [], ◌∷◌, Some, length, take, drop, get_or, refl, ap, sym, subst, ◌∙◌, true≢false, arith}
use Rattle.std.specs.Prelude.{nat_le, nat_lt}
use Rattle.std.specs.List.{AllByRecursion, IsDistinct, position, swap, swap_remove}
use Rattle.std.proofs.lemmas.Bool.Decides.{nat_tests}
use Rattle.std.proofs.lemmas.List.Quantifiers.{position-Some}
use Rattle.std.proofs.lemmas.Map.Keys.{IsDistinct-head, IsDistinct-tail}
use Rattle.cell_refs.specs.declared.grid.Cell.{Cell}
use Rattle.cell_refs.specs.Cell.{is_among, same_cell}
use Rattle.cell_refs.proofs.PublicLaws.{same_cell_is}
use Rattle.topic_table.proofs.Zones.{any-drop-swap, any-drop-swap_remove, any-drop_at, any-take-swap, any-take_at, apart-drop, drop-swap_at, drop-swap_first, in_either, none-drop, none-take, none_apart, other_of, without_other}

module _ {K : Type 0} (eq : K → K → Bool) where
  all-take : (P : K → Type 0) (n : ℕ) (ks : List K) → AllByRecursion P ks → AllByRecursion P (take n ks)
  all-take P zero ks all = tt
  all-take P (suc n) [] all = tt
  all-take P (suc n) (k ∷ ks) all = (all.0, all-take P n ks all.1)

  -- the first of distinct keys are distinct
  pub IsDistinct-take : (n : ℕ) (ks : List K) → IsDistinct eq ks → IsDistinct eq (take n ks)
  unfolding IsDistinct
  IsDistinct-take zero ks distinct = tt
  IsDistinct-take (suc n) [] distinct = tt
  IsDistinct-take (suc n) (k ∷ ks) distinct = (all-take (λ y. eq k y ≡ false) n ks distinct.0, IsDistinct-take n ks distinct.1)

  -- and so are the others
  IsDistinct-drop : (n : ℕ) (ks : List K) → IsDistinct eq ks → IsDistinct eq (drop n ks)
  IsDistinct-drop zero ks distinct = distinct
  IsDistinct-drop (suc n) [] distinct = distinct
  IsDistinct-drop (suc n) (k ∷ ks) distinct = IsDistinct-drop n ks (IsDistinct-tail eq k ks distinct)

module _ (xs : List Cell) (cell : Cell) (p : ℕ) (at : Some p ≡ position (same_cell cell) xs) where
  -- the place is within the cells
  pub there : p < length xs
  there = (position-Some (same_cell cell) xs p cell (sym at)).0

  -- and the cell stands there
  passes_at : (d : Cell) → same_cell cell (get_or xs p d) ≡ true
  passes_at d = (position-Some (same_cell cell) xs p d (sym at)).1

  pub stands_at : (d : Cell) → get_or xs p d ≡ cell
  stands_at d = sym (same_cell_is cell (get_or xs p d) (passes_at d))

  -- a cell stands in the rest where it stands behind
  stands_behind : (f : ℕ) → f ≤ p → is_among (drop f xs) cell ≡ true
  stands_behind f before = any-drop_at (same_cell cell) f xs p cell before there (passes_at cell)

  -- and nowhere else
  stands_before : IsDistinct same_cell xs → (f : ℕ) → p < f → is_among (drop f xs) cell ≡ false
  stands_before once f before = apart-drop same_cell xs cell p f cell once (same_cell_is cell) there (passes_at cell) before

  pub stands-drop : IsDistinct same_cell xs → (f : ℕ) → nat_le f p ≡ is_among (drop f xs) cell
  stands-drop once f = by (nat_le f p) refl
    where
      by : (b : Bool) → nat_le f p ≡ b → b ≡ is_among (drop f xs) cell
      by true e = sym (stands_behind f (grind (arith, nat_tests, e)))
      by false e = sym (stands_before once f (grind (arith, nat_tests, e)))

  pub stands-take : (k : ℕ) → nat_lt p k ≡ is_among (take k xs) cell
  stands-take k = by (nat_lt p k) refl
    where
      by : (b : Bool) → nat_lt p k ≡ b → b ≡ is_among (take k xs) cell
      by true e = sym (any-take_at (same_cell cell) k xs p cell (grind (arith, nat_tests, e)) there (passes_at cell))
      by false e =
          let behind : k ≤ p = grind (arith, nat_tests, e) in
          sym (none-take (same_cell cell) k xs cell (λ j below. (position-Some (same_cell cell) xs p cell (sym at)).2 j (omega (arith, behind, below))))

  -- a forgotten cell that reads again goes to those that have read
  pub reread-running : (f k : ℕ) → p < f → f ≤ k → k ≤ length xs → (q : Cell) → is_among (drop (f - 1) (swap xs p (f - 1))) q ≡ (same_cell q cell || is_among (drop f xs) q)
  reread-running f k before forgotten kept q =
      let one : f - 1 + 1 ≡ f = omega arith in
      ap (λ l. is_among l q) (drop-swap_first xs p (f - 1) cell (omega arith) (omega arith))
      ∙ ap (λ x. same_cell q x || is_among (drop (f - 1 + 1) xs) q) (stands_at cell)
      ∙ ap (λ n. same_cell q cell || is_among (drop n xs) q) one

  pub reread-kept : (f k : ℕ) → p < f → f ≤ k → k ≤ length xs → (q : Cell) → is_among (take k (swap xs p (f - 1))) q ≡ is_among (take k xs) q
  reread-kept f k before forgotten kept q = any-take-swap (same_cell q) k xs p (f - 1) (omega arith) (omega arith) kept

  -- a cell that has read and reads again changes nothing
  pub reread-again : (f : ℕ) → f ≤ p → (q : Cell) → is_among (drop f xs) q ≡ (same_cell q cell || is_among (drop f xs) q)
  reread-again f behind q =
      in_either (same_cell q cell) (is_among (drop f xs) q)
      (λ same. ap (is_among (drop f xs)) (same_cell_is q cell same) ∙ stands_behind f behind)

  -- a cell that isn't kept and is forgotten leaves
  pub forget-running : (f : ℕ) (x : Cell) → x ≡ get_or xs p x → is_among (swap_remove xs p x) x ≡ false → f ≤ p → (q : Cell)
      → is_among (drop f (swap_remove xs p x)) q ≡ (is_among (drop f xs) q && not (same_cell q cell))
  forget-running f x is gone behind q =
      other_of (is_among (drop f xs) q) (same_cell q x) (is_among (drop f (swap_remove xs p x)) q)
      (any-drop-swap_remove (same_cell q) f xs p x behind there is)
      (λ same. ap (is_among (drop f (swap_remove xs p x))) (same_cell_is q x same) ∙ none-drop (same_cell x) f (swap_remove xs p x) gone)
      ∙ ap (λ y. is_among (drop f xs) q && not (same_cell q y)) (is ∙ stands_at x)

  -- a kept cell that is forgotten goes to the forgotten ones
  pub forget_kept-running : (f : ℕ) → IsDistinct same_cell (swap xs p f) → f ≤ p → (q : Cell)
      → is_among (drop (f + 1) (swap xs p f)) q ≡ (is_among (drop f xs) q && not (same_cell q cell))
  forget_kept-running f once behind q =
      let first : drop f (swap xs p f) ≡ cell ∷ drop (f + 1) (swap xs p f)
      = drop-swap_at xs p f cell behind there ∙ ap (λ x. x ∷ drop (f + 1) (swap xs p f)) (stands_at cell) in
      let apart : is_among (drop (f + 1) (swap xs p f)) cell ≡ false
      = none_apart same_cell cell (drop (f + 1) (swap xs p f))
      (IsDistinct-head same_cell cell (drop (f + 1) (swap xs p f)) (subst (IsDistinct same_cell) first (IsDistinct-drop same_cell f (swap xs p f) once))) in
      let within : f < length xs = omega (arith, there) in
      other_of (is_among (drop f xs) q) (same_cell q cell) (is_among (drop (f + 1) (swap xs p f)) q)
      (sym (any-drop-swap (same_cell q) f xs p f behind (omega arith) there within) ∙ ap (λ l. is_among l q) first)
      (λ same. ap (is_among (drop (f + 1) (swap xs p f))) (same_cell_is q cell same) ∙ apart)

  pub forget_kept-kept : (f k : ℕ) → f ≤ p → p < k → k ≤ length xs → (q : Cell) → is_among (take k (swap xs p f)) q ≡ is_among (take k xs) q
  forget_kept-kept f k behind before kept q = any-take-swap (same_cell q) k xs p f before (omega arith) kept

  -- a cell that is forgotten already changes nothing
  pub forget_again-running : IsDistinct same_cell xs → (f : ℕ) → p < f → (q : Cell) → is_among (drop f xs) q ≡ (is_among (drop f xs) q && not (same_cell q cell))
  forget_again-running once f before q =
      without_other (same_cell q cell) (is_among (drop f xs) q)
      (λ same. ap (is_among (drop f xs)) (same_cell_is q cell same) ∙ stands_before once f before)

-- a cell that isn't there is forgotten already
pub forget_absent-running : (xs : List Cell) (cell : Cell) → is_among xs cell ≡ false → (f : ℕ) (q : Cell) → is_among (drop f xs) q ≡ (is_among (drop f xs) q && not (same_cell q cell))
forget_absent-running xs cell absent f q =
    without_other (same_cell q cell) (is_among (drop f xs) q)
    (λ same. ap (is_among (drop f xs)) (same_cell_is q cell same) ∙ none-drop (same_cell cell) f xs absent)

-- a cell that isn't there isn't in front
pub absent-take : (xs : List Cell) (cell : Cell) → is_among xs cell ≡ false → (k : ℕ) → is_among (take k xs) cell ≡ false
absent-take [] cell absent zero = refl
absent-take [] cell absent (suc k) = refl
absent-take (x ∷ xs) cell absent zero = refl
absent-take (x ∷ xs) cell absent (suc k) = by (same_cell cell x) absent (λ rest. absent-take xs cell rest k)
  where
    by : (b : Bool) → (b || is_among xs cell) ≡ false → (is_among xs cell ≡ false → is_among (take k xs) cell ≡ false) → (b || is_among (take k xs) cell) ≡ false
    by true h rest = absurd (true≢false h)
    by false h rest = rest h
