use Rattle.area_index.proofs.trees.+visit.Given as goal

-- the levels get fewer
abbrev pub decreases-visit : goal.decreases-visit
decreases-visit g l = l.levels
