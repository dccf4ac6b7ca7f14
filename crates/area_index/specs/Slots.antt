-- Nodes by their numbers.
use Rattle.std.specs.Prelude.{ℕ, max, List, Option, None, Some, slice_get}
use Rattle.area_index.specs.declared.pairs.Pair.{Pair}
use Rattle.area_index.specs.declared.nodes.Node.{Node}
use Rattle.area_index.specs.Shapes.{higher}

abbrev height_in : Option Node → ℕ
height_in None = 0
height_in (Some node) = node.height

abbrev bottom_in : Option Node → ℕ
bottom_in None = 0
bottom_in (Some node) = node.bottom

-- the height at a number, 0 where no node stands
abbrev pub height_at : List Node → ℕ → ℕ
height_at nodes number = height_in (slice_get nodes number)

-- the greatest bottom row at a number, 0 where no node stands
abbrev pub bottom_at : List Node → ℕ → ℕ
bottom_at nodes number = bottom_in (slice_get nodes number)

-- the node of a pair between two sides
abbrev pub node_between : List Node → Pair → ℕ → ℕ → Node
node_between nodes p left right = record {
  pair = p;
  height = higher (max (height_at nodes left) (height_at nodes right));
  bottom = max p.area.bottom (max (bottom_at nodes left) (bottom_at nodes right));
  left = left;
  right = right;
}
