use Rattle.std.proofs.Common.{◌≡◌, ◌≤◌, max, min, length}
use Rattle.area_index.specs.Forests.{HasAsManyUsed, HasSameTrees, IsKept, forest_of, free_in}
use Rattle.area_index.proofs.indexes.make_free.Given as goal

-- the trees are those that were there, and there are as many free nodes as were gone through
abbrev pub invariant-loop-node : goal.invariant-loop-node
invariant-loop-node l =
    HasSameTrees (forest_of l.fn.store) (forest_of l.store)
    × (l.store.trees.items ≡ l.fn.store.trees.items)
    × (IsKept (forest_of l.fn.store) → (min l.node-index (length l.nodes) ≤ free_in (forest_of l.store))
    × (free_in (forest_of l.store) ≤ max (free_in (forest_of l.fn.store)) (length l.nodes))
    × HasAsManyUsed (forest_of l.fn.store) (forest_of l.store))
