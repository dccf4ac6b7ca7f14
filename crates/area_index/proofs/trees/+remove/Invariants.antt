use Rattle.area_index.proofs.trees.+remove.Given as goal

-- the levels get fewer
abbrev pub decreases-remove : goal.decreases-remove
decreases-remove l = l.levels
