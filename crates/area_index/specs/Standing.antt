-- Trees that stand in one list of nodes, each node in one of them.
use Rattle.std.specs.Prelude.{◌≡◌, ℕ, ◌+◌, ◌<◌, ◌≤◌, zero, suc, if◌then◌else◌, nat_eq, Bool, true, false, List, [], ◌∷◌, ◌++◌, Option, None, Some, length, slice_get}
use Rattle.std.specs.List.{AllByRecursion}
use Rattle.area_index.specs.declared.nodes.Entry.{Entry}
use Rattle.area_index.specs.declared.nodes.Node.{Node}
use Rattle.area_index.specs.declared.nodes.TheConstants.{NONE}
use Rattle.area_index.specs.Shapes.{Shape, empty, fork, node_of}

-- the number of a tree's root
abbrev pub number_of : Shape → ℕ
number_of empty = NONE
number_of (fork l e h b r) = e.at

-- each node of the tree stands at its number, and names its two sides
abbrev pub IsStanding : List Node → Shape → Type 0
IsStanding nodes empty = Unit {0}
IsStanding nodes (fork l e h b r) =
    (slice_get nodes e.at ≡ Some (record { pair = e.pair; height = h; bottom = b; left = number_of l; right = number_of r }))
    × IsStanding nodes l × IsStanding nodes r

-- a node that stands alone, or a tree by the number of its root
pub data Part : Type 0 where
  alone : ℕ → Part
  rooted : ℕ → Shape → Part

abbrev pub IsPartStanding : List Node → Part → Type 0
IsPartStanding nodes (alone n) = n < length nodes
IsPartStanding nodes (rooted n t) = (n ≡ number_of t) × IsStanding nodes t

-- 1 where two numbers are one
abbrev pub one : ℕ → ℕ → ℕ
one k n = if nat_eq k n then 1 else 0

-- how often a number stands in a tree
abbrev pub count_in : ℕ → Shape → ℕ
count_in k empty = 0
count_in k (fork l e h b r) = count_in k l + one k e.at + count_in k r

-- how many nodes a tree has
abbrev pub size_of : Shape → ℕ
size_of empty = 0
size_of (fork l e h b r) = size_of l + 1 + size_of r

abbrev pub count_in_part : ℕ → Part → ℕ
count_in_part k (alone n) = one k n
count_in_part k (rooted n t) = count_in k t

abbrev pub size_of_part : Part → ℕ
size_of_part (alone n) = 1
size_of_part (rooted n t) = size_of t

abbrev pub count_in_all : ℕ → List Part → ℕ
count_in_all k [] = 0
count_in_all k (part ∷ parts) = count_in_part k part + count_in_all k parts

abbrev pub size_of_all : List Part → ℕ
size_of_all [] = 0
size_of_all (part ∷ parts) = size_of_part part + size_of_all parts

-- the parts stand in the nodes, no number is in two of them, and they have all nodes
pub record AreParts (nodes : List Node) (parts : List Part) : Type 0 where
  pub each : AllByRecursion (IsPartStanding nodes) parts
  pub apart : (k : ℕ) → count_in_all k parts ≤ 1
  pub all : size_of_all parts ≡ length nodes
  pub few : length nodes ≤ NONE

-- whatever stands beside them, these parts became those
abbrev pub Turns : List Node → List Node → List Part → List Part → Type 0
Turns old new from to = (rest : List Part) → AreParts old (from ++ rest) → AreParts new (to ++ rest)

-- the node that was left over, where it wasn't used
abbrev pub left_over : Bool → ℕ → List Part
left_over true n = []
left_over false n = alone n ∷ []

-- the node that was taken out, where there was one
abbrev pub taken_out : Option ℕ → List Part
taken_out None = []
taken_out (Some n) = alone n ∷ []

-- the entry of a node at a number
abbrev pub entry_at : ℕ → Node → Entry
entry_at n node = record { at = n; pair = node.pair }

abbrev tree_from : Option Node → ℕ → (ℕ → Shape) → Shape
tree_from None n side = empty
tree_from (Some node) n side =
    fork (side node.left) (record { at = n; pair = node.pair }) node.height node.bottom (side node.right)

-- the tree at a number, down to so many levels
abbrev pub tree_at : ℕ → List Node → ℕ → Shape
tree_at zero nodes n = empty
tree_at (suc levels) nodes n = tree_from (slice_get nodes n) n (tree_at levels nodes)

-- nodes in a row, each left of the next
abbrev pub row_of : List Entry → Shape
row_of [] = empty
row_of (e ∷ es) = node_of (row_of es) e empty
