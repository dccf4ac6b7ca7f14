use Rattle.std.proofs.Common.{◌≡◌, map, drop}
use Rattle.std.specs.List.{list_any}
use Rattle.formula_parse.specs.Tree.{calls_of, concat}
use Rattle.formula_parse.proofs.naming.+calls_any.Given as goal

abbrev pub invariant-all_calls_any-loop-node : goal.invariant-all_calls_any-loop-node
invariant-all_calls_any-loop-node g l =
    list_any (g.T.CallTest.passes l.test) (concat (map calls_of (drop l.node-index l.nodes))) ≡ list_any (g.T.CallTest.passes l.test) (concat (map calls_of l.nodes))
