use Rattle.std.proofs.Common.{◌≡◌, ◌++◌, map, drop}
use Rattle.formula_parse.specs.Tree.{areas_named, concat}
use Rattle.formula_parse.proofs.naming.+push_areas.Given as goal

abbrev pub invariant-push_all_areas-loop-node : goal.invariant-push_all_areas-loop-node
invariant-push_all_areas-loop-node l =
    l.areas.items ++ concat (map (λ node. areas_named node l.home) (drop l.node-index l.nodes)) ≡ l.fn.areas.items ++ concat (map (λ node. areas_named node l.home) l.nodes)
