use Rattle.std.proofs.Common.{◌≡◌, take}
use Rattle.std.specs.Prelude.{map}
use Rattle.area_index.specs.Forests.{pair_at, pairs_of}
use Rattle.area_index.proofs.indexes.new_nodes.Given as goal

-- there is a node for each area so far
abbrev pub invariant-loop-area : goal.invariant-loop-area
invariant-loop-area l = pairs_of l.nodes.items ≡ map (pair_at l.reader) (take l.area-index l.areas)
