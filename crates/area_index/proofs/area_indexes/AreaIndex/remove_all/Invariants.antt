use Rattle.std.proofs.Common.{◌≡◌, ◌≤◌, length, take}
use Rattle.area_index.specs.Forests.{HasNoMore, free_in}
use Rattle.area_index.proofs.area_indexes.AreaIndex.remove_all.Given as goal

-- the pairs of the areas so far are gone
abbrev pub invariant-loop-area : goal.invariant-loop-area
invariant-loop-area l = HasNoMore l.fn.self l.self l.reader (take l.area-index l.areas) × (l.self.links ≡ l.fn.self.links) × (length l.self.trees ≡ length l.fn.self.trees) × (free_in l.fn.self ≤ free_in l.self) × (length l.self.nodes ≡ length l.fn.self.nodes)
