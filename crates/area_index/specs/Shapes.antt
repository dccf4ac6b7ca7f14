-- Trees of pairs, each at the number of its node, and what is done to them.
use Rattle.std.specs.Prelude.{◌≡◌, ℕ, ◌+◌, ◌≤◌, max, nat_lt, nat_le, if◌then◌else◌, List, [], ◌∷◌, ◌++◌}
use Rattle.std.specs.Ordering.{match_ordering}
use Rattle.std.specs.List.Sorted.{IsStrictlySortedBy}
use Rattle.area_index.specs.declared.pairs.Pair.{Pair}
use Rattle.area_index.specs.declared.nodes.Entry.{Entry}
use Rattle.area_index.specs.declared.nodes.TheConstants.{LEVELS}
use Rattle.area_index.specs.Pairs.{pair_cmp}

-- a tree: the pairs left of a pair, the pair, the height and greatest bottom row that stand with it, the pairs right of it
pub data Shape : Type 0 where
  empty : Shape
  fork : Shape → Entry → ℕ → ℕ → Shape → Shape

-- the number of steps from the root to the deepest leaf
abbrev pub depth_of : Shape → ℕ
depth_of empty = 0
depth_of (fork l p h b r) = max (depth_of l) (depth_of r) + 1

-- the height that stands at the root
abbrev pub height_of : Shape → ℕ
height_of empty = 0
height_of (fork l p h b r) = h

-- the bottom row that stands at the root
abbrev pub bottom_of : Shape → ℕ
bottom_of empty = 0
bottom_of (fork l p h b r) = b

-- the pairs from left to right
abbrev pub in_order : Shape → List Pair
in_order empty = []
in_order (fork l p h b r) = in_order l ++ p.pair ∷ in_order r

-- one level more, up to the greatest height
unfoldable pub higher : ℕ → ℕ
higher h = if nat_lt h LEVELS then h + 1 else h

-- a pair between two trees
unfoldable pub node_of : Shape → Entry → Shape → Shape
node_of l p r =
    fork l p (higher (max (height_of l) (height_of r)))
    (max p.pair.area.bottom (max (bottom_of l) (bottom_of r))) r

-- the pairs p and q, with a tree between them, that one's root raised above both
unfoldable pub raised : Shape → Entry → Shape → Entry → Shape → Shape
raised l p empty q r = node_of (node_of l p empty) q r
raised l p (fork a x h b c) q r = node_of (node_of l p a) x (node_of c q r)

-- a pair between two trees, of which the left one is too high
unfoldable pub lean_left : Shape → Entry → Shape → Shape
lean_left empty q r = node_of empty q r
lean_left (fork l p h b m) q r =
    if nat_le (height_of m) (height_of l) then node_of l p (node_of m q r) else raised l p m q r

-- a pair between two trees, of which the right one is too high
unfoldable pub lean_right : Shape → Entry → Shape → Shape
lean_right l p empty = node_of l p empty
lean_right l p (fork m q h b r) =
    if nat_le (height_of m) (height_of r) then node_of (node_of l p m) q r else raised l p m q r

-- a pair between two trees, whose heights differ by at most two
unfoldable pub balanced : Shape → Entry → Shape → Shape
balanced l p r =
    if nat_lt (higher (height_of r)) (height_of l) then lean_left l p r
    else (if nat_lt (higher (height_of l)) (height_of r) then lean_right l p r else node_of l p r)

-- with a pair that stands in its place, once
abbrev pub inserted : Shape → Entry → Shape
inserted empty p = node_of empty p empty
inserted (fork l q h b r) p =
    match_ordering (pair_cmp p.pair q.pair)
    (balanced (inserted l p) q r) (node_of l q r) (balanced l q (inserted r p))

-- the first pair of a tree and a pair behind it
abbrev pub first_of : Shape → Entry → Entry
first_of empty p = p
first_of (fork l q h b r) p = first_of l q

-- what is left behind the first pair of a tree, a pair and a tree
abbrev pub rest_of : Shape → Entry → Shape → Shape
rest_of empty p r = r
rest_of (fork l q h b m) p r = balanced (rest_of l q m) p r

-- two trees as one
abbrev pub joined : Shape → Shape → Shape
joined l empty = l
joined l (fork m p h b r) = balanced l (first_of m p) (rest_of m p r)

-- without a pair
abbrev pub removed : Shape → Pair → Shape
removed empty p = empty
removed (fork l q h b r) p =
    match_ordering (pair_cmp p q.pair)
    (balanced (removed l p) q r) (joined l r) (balanced l q (removed r p))

-- the sides' heights differ by at most one at each pair, and the height and the bottom row that stand there are right
abbrev pub IsLevel : Shape → Type 0
IsLevel empty = Unit {0}
IsLevel (fork l p h b r) =
    IsLevel l × IsLevel r
    × (h ≡ max (height_of l) (height_of r) + 1)
    × (height_of l ≤ height_of r + 1) × (height_of r ≤ height_of l + 1)
    × (b ≡ max p.pair.area.bottom (max (bottom_of l) (bottom_of r)))

-- the pairs rise
abbrev pub IsOrdered : Shape → Type 0
IsOrdered t = IsStrictlySortedBy pair_cmp (in_order t)
