use Rattle.std.proofs.Common.{◌≡◌, ◌-◌, length}
use Rattle.area_index.specs.Forests.{HasSameTrees, forest_of}
use Rattle.area_index.proofs.indexes.open_sheets.Given as goal

-- the trees and nodes are those that were there
abbrev pub invariant-loop-store : goal.invariant-loop-store
invariant-loop-store l = HasSameTrees (forest_of l.fn.store) (forest_of l.store)
    × (l.store.nodes ≡ l.fn.store.nodes) × (l.store.free ≡ l.fn.store.free)

abbrev pub decreases-loop-store : goal.decreases-loop-store
decreases-loop-store l = 256 - length l.store.trees.items
