use Rattle.std.proofs.Common.{◌≡◌, ◌+◌, ◌≤◌, min, map, length, drop}
use Rattle.formula_parse.specs.Tree.{sites_named, concat}
use Rattle.formula_parse.proofs.naming.+count_sites.Given as goal

abbrev pub invariant-count_all_sites-loop-node : goal.invariant-count_all_sites-loop-node
invariant-count_all_sites-loop-node l = record {
  same : min (l.count + length (concat (map sites_named (drop l.node-index l.nodes)))) 65535 ≡ min (length (concat (map sites_named l.nodes))) 65535;
  small : l.count ≤ 65535;
}
