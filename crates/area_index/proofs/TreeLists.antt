-- Lists of trees: what is done to one of them, and to their numbers, places and sizes.
use Rattle.std.proofs.Common.{◌≡◌, ◌≢◌, ℕ, zero, suc, ◌+◌, ◌<◌, ◌≤◌, List, [], ◌∷◌, ◌++◌, length, refl, ap, arith}
use Rattle.std.specs.Prelude.{map, slice_index_or, slice_set}
use Rattle.std.specs.List.{AllByRecursion}
use Rattle.area_index.specs.declared.nodes.Node.{Node}
use Rattle.area_index.specs.declared.nodes.TheConstants.{NONE}
use Rattle.area_index.specs.Shapes.{Shape, empty}
use Rattle.area_index.specs.Standing.{number_of, IsStanding, IsPartStanding, count_in, size_of, count_in_all, size_of_all}
use Rattle.area_index.specs.Forests.{rooted_all}

-- ---- the trees of a list

-- the tree at a place; the empty one behind the end
abbrev pub shape_at : List Shape → ℕ → Shape
shape_at shapes i = slice_index_or shapes i empty

pub number-at : (shapes : List Shape) (i : ℕ) → slice_index_or (map number_of shapes) i NONE ≡ number_of (shape_at shapes i)
number-at [] i = refl
number-at (t ∷ shapes) zero = refl
number-at (t ∷ shapes) (suc i) = number-at shapes i

pub numbers-set : (shapes : List Shape) (i : ℕ) (t : Shape) → map number_of (slice_set shapes i t) ≡ slice_set (map number_of shapes) i (number_of t)
numbers-set [] i t = refl
numbers-set (s ∷ shapes) zero t = refl
numbers-set (s ∷ shapes) (suc i) t = ap (λ ns. number_of s ∷ ns) (numbers-set shapes i t)

pub many-numbers : (shapes : List Shape) → length (map number_of shapes) ≡ length shapes
many-numbers [] = refl
many-numbers (t ∷ shapes) = ap suc (many-numbers shapes)

pub many-set : {A : Type 0} (xs : List A) (i : ℕ) (x : A) → length (slice_set xs i x) ≡ length xs
many-set [] i x = refl
many-set (y ∷ xs) zero x = refl
many-set (y ∷ xs) (suc i) x = ap suc (many-set xs i x)

pub at-set : (shapes : List Shape) (i : ℕ) (t : Shape) → i < length shapes → shape_at (slice_set shapes i t) i ≡ t
at-set [] i t h = absurd (omega arith)
at-set (s ∷ shapes) zero t h = refl
at-set (s ∷ shapes) (suc i) t h = at-set shapes i t (omega arith)

pub at-set_other : (shapes : List Shape) (i k : ℕ) (t : Shape) → k ≢ i → shape_at (slice_set shapes i t) k ≡ shape_at shapes k
at-set_other [] i k t a = refl
at-set_other (s ∷ shapes) zero zero t a = absurd (a refl)
at-set_other (s ∷ shapes) zero (suc k) t a = refl
at-set_other (s ∷ shapes) (suc i) zero t a = refl
at-set_other (s ∷ shapes) (suc i) (suc k) t a = at-set_other shapes i k t (λ e. a (ap suc e))

pub standing-at : (nodes : List Node) (shapes : List Shape) (i : ℕ) → AllByRecursion (IsPartStanding nodes) (rooted_all shapes) → IsStanding nodes (shape_at shapes i)
standing-at nodes [] i a = tt
standing-at nodes (t ∷ shapes) zero a = a.0.1
standing-at nodes (t ∷ shapes) (suc i) a = standing-at nodes shapes i a.1

pub standing-set : (nodes : List Node) (shapes : List Shape) (i : ℕ) (t : Shape) → IsStanding nodes t → AllByRecursion (IsPartStanding nodes) (rooted_all shapes) → AllByRecursion (IsPartStanding nodes) (rooted_all (slice_set shapes i t))
standing-set nodes [] i t s a = tt
standing-set nodes (x ∷ shapes) zero t s a = ((refl, s), a.1)
standing-set nodes (x ∷ shapes) (suc i) t s a = (a.0, standing-set nodes shapes i t s a.1)

pub standing-back : (nodes : List Node) (shapes : List Shape) (i : ℕ) (t : Shape) → IsStanding nodes t → AllByRecursion (IsPartStanding nodes) (rooted_all (slice_set shapes i empty)) → AllByRecursion (IsPartStanding nodes) (rooted_all (slice_set shapes i t))
standing-back nodes [] i t s a = tt
standing-back nodes (x ∷ shapes) zero t s a = ((refl, s), a.1)
standing-back nodes (x ∷ shapes) (suc i) t s a = (a.0, standing-back nodes shapes i t s a.1)

pub count-set : (k : ℕ) (shapes : List Shape) (i : ℕ) (t : Shape) → i < length shapes → count_in_all k (rooted_all (slice_set shapes i t)) + count_in k (shape_at shapes i) ≡ count_in_all k (rooted_all shapes) + count_in k t
count-set k [] i t h = absurd (omega arith)
count-set k (x ∷ shapes) zero t h = omega arith
count-set k (x ∷ shapes) (suc i) t h = let e = count-set k shapes i t (omega arith) in omega arith

pub size-set : (shapes : List Shape) (i : ℕ) (t : Shape) → i < length shapes → size_of_all (rooted_all (slice_set shapes i t)) + size_of (shape_at shapes i) ≡ size_of_all (rooted_all shapes) + size_of t
size-set [] i t h = absurd (omega arith)
size-set (x ∷ shapes) zero t h = omega arith
size-set (x ∷ shapes) (suc i) t h = let e = size-set shapes i t (omega arith) in omega arith

pub size-at : (shapes : List Shape) (i : ℕ) → size_of (shape_at shapes i) ≤ size_of_all (rooted_all shapes)
size-at [] i = omega arith
size-at (t ∷ shapes) zero = omega arith
size-at (t ∷ shapes) (suc i) = let e = size-at shapes i in omega arith

pub any_default : (xs : List ℕ) (i d e : ℕ) → i < length xs → slice_index_or xs i d ≡ slice_index_or xs i e
any_default [] i d e h = absurd (omega arith)
any_default (x ∷ xs) zero d e h = refl
any_default (x ∷ xs) (suc i) d e h = any_default xs i d e (omega arith)

pub shape-past : (shapes : List Shape) (i : ℕ) → length shapes ≤ i → shape_at shapes i ≡ empty
shape-past [] i h = refl
shape-past (t ∷ shapes) zero h = absurd (omega arith)
shape-past (t ∷ shapes) (suc i) h = shape-past shapes i (omega arith)

-- ---- one tree more at the end, which is empty

pub numbers-more : (shapes : List Shape) → map number_of (shapes ++ empty ∷ []) ≡ map number_of shapes ++ NONE ∷ []
numbers-more [] = refl
numbers-more (t ∷ shapes) = ap (λ ns. number_of t ∷ ns) (numbers-more shapes)

pub standing-more : (nodes : List Node) (shapes : List Shape) → AllByRecursion (IsPartStanding nodes) (rooted_all shapes) → AllByRecursion (IsPartStanding nodes) (rooted_all (shapes ++ empty ∷ []))
standing-more nodes [] a = ((refl, tt), tt)
standing-more nodes (t ∷ shapes) a = (a.0, standing-more nodes shapes a.1)

pub count-more : (k : ℕ) (shapes : List Shape) → count_in_all k (rooted_all (shapes ++ empty ∷ [])) ≡ count_in_all k (rooted_all shapes)
count-more k [] = refl
count-more k (t ∷ shapes) = ap (λ n. count_in k t + n) (count-more k shapes)

pub size-more : (shapes : List Shape) → size_of_all (rooted_all (shapes ++ empty ∷ [])) ≡ size_of_all (rooted_all shapes)
size-more [] = refl
size-more (t ∷ shapes) = ap (λ n. size_of t + n) (size-more shapes)

pub root-more : (roots : List ℕ) (i : ℕ) → slice_index_or (roots ++ NONE ∷ []) i NONE ≡ slice_index_or roots i NONE
root-more [] zero = refl
root-more [] (suc i) = refl
root-more (r ∷ roots) zero = refl
root-more (r ∷ roots) (suc i) = root-more roots i
