use Rattle.area_index.proofs.trees.+take_first.Given as goal

-- the levels get fewer
abbrev pub decreases-take_first : goal.decreases-take_first
decreases-take_first l = l.levels
