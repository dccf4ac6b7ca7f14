use Rattle.area_index.proofs.trees.+insert.Given as goal

-- the levels get fewer
abbrev pub decreases-insert : goal.decreases-insert
decreases-insert l = l.levels
