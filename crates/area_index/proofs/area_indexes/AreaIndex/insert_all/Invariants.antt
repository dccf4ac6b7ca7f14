use Rattle.std.proofs.Common.{◌≡◌, ◌||◌, length}
use Rattle.std.specs.List.{list_any}
use Rattle.area_index.specs.declared.pairs.Pair.{Pair}
use Rattle.area_index.specs.Pairs.{same_pair}
use Rattle.area_index.specs.Forests.{IsReady, has_pair, pairs_of}
use Rattle.area_index.proofs.area_indexes.AreaIndex.insert_all.Given as goal

-- the pairs that are in and those still to come are as many, and there is room
abbrev pub invariant-loop-node : goal.invariant-loop-node
invariant-loop-node l = ((p : Pair) → (list_any (same_pair p) (pairs_of l.nodes.items) || has_pair l.self p) ≡ (list_any (same_pair p) (pairs_of l.fn.nodes.items) || has_pair l.fn.self p)) × IsReady l.self (length l.nodes.items) × (length l.self.nodes ≡ length l.fn.self.nodes)

abbrev pub decreases-loop-node : goal.decreases-loop-node
decreases-loop-node l = length l.nodes.items
