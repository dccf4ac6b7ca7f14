-- The trees of the sheets.
use Rattle.std.specs.Prelude.{◌≡◌, ◌≢◌, ◌+◌, ◌*◌, ◌^◌, count_by, ◌<◌, ◌≤◌, ℕ, Bool, true, false, not, ◌||◌, ◌&&◌, List, [], ◌∷◌, map, length, slice_index_or}
use Rattle.std.specs.List.{AllByRecursion, list_any}
use Rattle.std.specs.List.Sorted.{IsStrictlySortedBy}
use Rattle.cell_refs.specs.declared.areas.Area.{Area}
use Rattle.cell_refs.specs.declared.grid.Cell.{Cell}
use Rattle.cell_refs.specs.Area.{area_has}
use Rattle.cell_refs.specs.Cell.{cell_cmp, is_among}
use Rattle.area_index.specs.declared.pairs.Pair.{Pair}
use Rattle.area_index.specs.declared.nodes.Entry.{Entry}
use Rattle.area_index.specs.declared.nodes.Node.{Node}
use Rattle.area_index.specs.declared.nodes.TheConstants.{LEVELS, NONE}
use Rattle.area_index.specs.declared.stores.Store.{Store}
use Rattle.area_index.specs.Pairs.{pair_cmp, same_pair}
use Rattle.area_index.specs.Shapes.{Shape, in_order, height_of, IsLevel, IsOrdered}
use Rattle.area_index.specs.Slots.{height_at}
use Rattle.area_index.specs.Standing.{AreParts, Part, number_of, rooted, row_of, tree_at}
use Rattle.area_index.specs.Walk.{rows_have}

-- the nodes, the number of the first free one, the numbers of the trees' roots by their sheets, and how often a pair was
-- put in
pub record Forest : Type 0 where
  pub nodes : List Node
  pub free : ℕ
  pub trees : List ℕ
  pub links : ℕ

-- the tree of a sheet; the empty one where none stands there
abbrev pub tree_in : Forest → ℕ → Shape
tree_in forest sheet =
    tree_at (length forest.nodes) forest.nodes (slice_index_or forest.trees sheet NONE)

-- the number of free nodes: the height that stands at the first of them
abbrev pub free_in : Forest → ℕ
free_in forest = height_at forest.nodes forest.free

-- the pairs of a sheet
abbrev pub pairs_on : Forest → ℕ → List Pair
pairs_on forest sheet = in_order (tree_in forest sheet)

-- the levels of a sheet's tree
abbrev pub levels_on : Forest → ℕ → ℕ
levels_on forest sheet = height_of (tree_in forest sheet)

abbrev pub pairs_below : List Node → List ℕ → ℕ
pairs_below nodes [] = 0
pairs_below nodes (root ∷ roots) =
    length (in_order (tree_at (length nodes) nodes root)) + pairs_below nodes roots

-- the number of pairs on all sheets
abbrev pub pair_count : Forest → ℕ
pair_count forest = pairs_below forest.nodes forest.trees

-- the pairs of nodes
abbrev pub pairs_of : List Node → List Pair
pairs_of nodes = map (λ node. node.pair) nodes

-- whether a pair is in the index
unfoldable pub has_pair : Forest → Pair → Bool
has_pair forest p = list_any (same_pair p) (pairs_on forest p.area.sheet)

-- the pair of a reader and an area
abbrev pub pair_at : Cell → Area → Pair
pair_at reader area = record { area = area; reader = reader }

-- whether a pair is that of the reader and one of the areas
abbrev pub names : Cell → List Area → Pair → Bool
names reader areas p = list_any (λ area. same_pair p (pair_at reader area)) areas

-- what holds of the tree of a sheet
pub record IsSheetTree (sheet links : ℕ) (t : Shape) : Type 0 where
  pub level : IsLevel t
  pub ordered : IsOrdered t
  pub own : AllByRecursion (λ p. p.area.sheet ≡ sheet) (in_order t)
  pub within : height_of t ≤ links

-- the trees, each by its root's number
abbrev pub rooted_all : List Shape → List Part
rooted_all shapes = map (λ t. rooted (number_of t) t) shapes

-- the trees and the free nodes stand in the nodes, each node in one of them
pub record IsKept (forest : Forest) : Type 0 where
  pub shapes : List Shape
  pub frees : List Entry
  pub roots : forest.trees ≡ map number_of shapes
  pub parts : AreParts forest.nodes (rooted forest.free (row_of frees) ∷ rooted_all shapes)

-- what holds of the trees
pub record IsForest (forest : Forest) : Type 0 where
  pub room : forest.links < LEVELS
  pub kept : IsKept forest
  pub trees : (sheet : ℕ) → IsSheetTree sheet forest.links (tree_in forest sheet)

-- the tree of one sheet became that one, and the others stay
pub record ChangesAt (old new : Forest) (sheet : ℕ) (t : Shape) : Type 0 where
  pub kept : IsKept new
  pub here : tree_in new sheet ≡ t
  pub others : (other : ℕ) → other ≢ sheet → tree_in new other ≡ tree_in old other
  pub as_many : length new.trees ≡ length old.trees
  pub as_large : length new.nodes ≡ length old.nodes

-- the same trees stand there, and what was kept is
pub record HasSameTrees (old new : Forest) : Type 0 where
  pub kept : IsKept old → IsKept new
  pub trees : IsKept old → (sheet : ℕ) → tree_in new sheet ≡ tree_in old sheet

-- as many nodes aren't free
abbrev pub HasAsManyUsed : Forest → Forest → Type 0
HasAsManyUsed old new = length new.nodes + free_in old ≡ length old.nodes + free_in new

-- what a store keeps, where so many pairs were put in
abbrev pub forest_with : Store → ℕ → Forest
forest_with store links = record {
  nodes = store.nodes.items.items;
  free = store.free;
  trees = store.trees.items;
  links = links;
}

-- what a store keeps
abbrev pub forest_of : Store → Forest
forest_of store = forest_with store 0

-- there is a tree for each sheet, room for as many pairs and a free node for each
pub record IsReady (forest : Forest) (count : ℕ) : Type 0 where
  pub sheets : 256 ≤ length forest.trees
  pub room : forest.links + count < LEVELS
  pub free : count ≤ free_in forest

-- these are the readers of the pairs whose area has the cell, in cell order, each once
pub record AreReadersAt (forest : Forest) (cell : Cell) (readers : List Cell) : Type 0 where
  pub sorted : IsStrictlySortedBy cell_cmp readers
  pub each : (reader : Cell) → is_among readers reader ≡ true
      → (area : Area) × (has_pair forest (pair_at reader area) ≡ true) × (area_has area cell ≡ true)
  pub all : (reader : Cell) (area : Area) → has_pair forest (pair_at reader area) ≡ true
      → area_has area cell ≡ true → is_among readers reader ≡ true

-- no pair is in the index
abbrev pub HasNone : Forest → Type 0
HasNone forest = (p : Pair) → has_pair forest p ≡ false

-- the index has the same pairs as before
abbrev pub SamePairs : Forest → Forest → Type 0
SamePairs old new = (p : Pair) → has_pair new p ≡ has_pair old p

-- the index has one pair more, where it wasn't there
abbrev pub HasAlso : Forest → Forest → Pair → Type 0
HasAlso old new pair = (p : Pair) → has_pair new p ≡ (same_pair p pair || has_pair old p)

-- the index has those pairs too
abbrev pub HasAlsoAll : Forest → Forest → List Pair → Type 0
HasAlsoAll old new pairs = (p : Pair)
    → has_pair new p ≡ (list_any (same_pair p) pairs || has_pair old p)

-- the index has all but the pairs of a reader and these areas
abbrev pub HasNoMore : Forest → Forest → Cell → List Area → Type 0
HasNoMore old new reader areas = (p : Pair)
    → has_pair new p ≡ (not (names reader areas p) && has_pair old p)

-- the index has all but one pair
abbrev pub HasLess : Forest → Forest → Pair → Type 0
HasLess old new pair = (p : Pair)
    → has_pair new p ≡ (not (same_pair p pair) && has_pair old p)

-- the steps of a walk to a cell, from the count before to the count after: at most twice the levels of the sheet's
-- tree for each of its pairs whose rows have the cell's, and twice the levels; what the levels are at most; and that the
-- sheet's pairs are apart, and are those of the index
pub record IsBoundedWalk (forest : Forest) (cell : Cell) (before after : ℕ) : Type 0 where
  pub steps : after ≤ before + 2 * ((count_by (rows_have cell.row) (pairs_on forest cell.sheet) + 1)
      * levels_on forest cell.sheet)
  pub levels : 2 ^ levels_on forest cell.sheet
      ≤ (length (pairs_on forest cell.sheet) + 1) * (length (pairs_on forest cell.sheet) + 1)
  pub ordered : IsStrictlySortedBy pair_cmp (pairs_on forest cell.sheet)
  pub own : (p : Pair) → list_any (same_pair p) (pairs_on forest cell.sheet) ≡ true
      → (has_pair forest p ≡ true) × (p.area.sheet ≡ cell.sheet)

-- the index has a reader's new pairs in place of its old ones
abbrev pub HasInstead : Forest → Forest → Cell → List Area → List Pair → Type 0
HasInstead old new reader areas pairs = (p : Pair) → has_pair new p
    ≡ (list_any (same_pair p) pairs || (not (names reader areas p) && has_pair old p))
