use Rattle.std.proofs.Common.{◌≡◌, ◌++◌, ◌∷◌, [], map, length, take, drop, ◌-◌, OnOk, ap, ◌∙◌, subst}
use Rattle.std.specs.List.{flat_map}
use Rattle.formula_parse.specs.Printing.{token_text, tokens_of}
use Rattle.formula_parse.proofs.PrintFacts.Printing.{behind_commas, arguments_begin, negation_text, kept_on}
use Rattle.formula_parse.proofs.printer.+push_node.Goals as goal

pub push_arguments-loop-node-init : goal.push_arguments-loop-node-init
push_arguments-loop-node-init t c =
    let nodes = c.args.nodes.now in
    let whole = arguments_begin c.args.out.now.items nodes c.first-item.result c.in-len1-up.len_at_least c.first-item.is in
    record {
      whole = ap (λ bytes. bytes ++ flat_map token_text (behind_commas (map tokens_of (take (length nodes - 1) (drop 1 nodes))))) c.in_ok-push_node.ensures.ok ∙ whole;
      kept = c.push_node.ensures.kept;
    }

pub push_arguments-returns-in_err-push_node-2-clause-kept : goal.push_arguments-returns-in_err-push_node-2-clause-kept
push_arguments-returns-in_err-push_node-2-clause-kept t c =
    let sent = c.in_ok-push_bytes.ensures.ok in
    kept_on _ _ c.args.out.now.items c.loop-node.out.items (44 ∷ []) c.push_node-in-loop-node.new.out.items c.args.out.now.ok.0 (c.push_bytes.new.out.ok.0 ∙ ap length sent) c.loop-node.invariant.kept (c.push_node-in-loop-node.ensures.kept ∙ sent)

pub push_node-returns-in_ok-push_minuses-in-Negation-clause-ok : goal.push_node-returns-in_ok-push_minuses-in-Negation-clause-ok
push_node-returns-in_ok-push_minuses-in-Negation-clause-ok t c =
    let whole = ap (λ x. c.push_minuses.new.out.items ++ flat_map token_text (tokens_of x)) c.get-in-Negation.ensures
    ∙ ap (λ bytes. bytes ++ flat_map token_text (tokens_of c.in-Negation.operand)) c.in_ok-push_minuses-in-Negation.ensures.ok
    ∙ negation_text c.args.out.now.items c.in-Negation.count c.in-Negation.operand c.args.node.now c.in-Negation.is in
    subst (λ bytes. OnOk c.push_node-in-Negation.result (c.push_node-in-Negation.new.out.items ≡ bytes)) whole c.push_node-in-Negation.ensures.ok
