use Rattle.std.proofs.Common.{◌≡◌, ◌++◌, map, drop}
use Rattle.formula_parse.specs.Tree.{concat, sites_named}
use Rattle.formula_parse.proofs.naming.+push_names.Given as goal

abbrev pub invariant-push_all_names-loop-node : goal.invariant-push_all_names-loop-node
invariant-push_all_names-loop-node l =
    l.called.items ++ concat (map sites_named (drop l.node-index l.nodes)) ≡ l.fn.called.items ++ concat (map sites_named l.nodes)
