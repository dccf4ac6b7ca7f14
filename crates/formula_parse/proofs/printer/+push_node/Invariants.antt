use Rattle.std.proofs.Common.{◌≡◌, ◌++◌, map, take, drop, vec_len}
use Rattle.std.specs.List.{flat_map}
use Rattle.formula_parse.specs.Printing.{token_text, tokens_of, argument_tokens, chain_tokens}
use Rattle.formula_parse.proofs.PrintFacts.Printing.{behind_commas}
use Rattle.formula_parse.proofs.printer.+push_node.Given as goal

abbrev pub invariant-push_arguments-loop-node : goal.invariant-push_arguments-loop-node
invariant-push_arguments-loop-node l = record {
  whole : l.out.items ++ flat_map token_text (behind_commas (map tokens_of (drop l.node-index l.rest))) ≡ l.fn.out.items ++ flat_map token_text (argument_tokens (map tokens_of l.nodes));
  kept : take (vec_len l.fn.out) l.out.items ≡ l.fn.out.items;
}

abbrev pub invariant-push_chain-loop-i : goal.invariant-push_chain-loop-i
invariant-push_chain-loop-i l = record {
  whole : l.out.items ++ flat_map token_text (chain_tokens (map tokens_of (drop l.i l.nodes)) (drop l.i l.operators)) ≡ l.fn.out.items ++ flat_map token_text (chain_tokens (map tokens_of l.nodes) l.operators);
  kept : take (vec_len l.fn.out) l.out.items ≡ l.fn.out.items;
}
