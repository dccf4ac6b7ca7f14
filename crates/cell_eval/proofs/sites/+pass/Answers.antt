use Rattle.std.proofs.Common.{◌≡◌, ◌+◌, ◌<◌, get_or, drop, arith, ap, sym, subst, ◌∙◌}
use Rattle.std.proofs.lemmas.List.{drop_more}
use Rattle.formula_parse.specs.declared.nodes.Node.{Node}
use Rattle.formula_parse.specs.Tree.{site_count}
use Rattle.workbook.specs.Evaluation.{own_site}
use Rattle.cell_eval.specs.Steps.{sites_among}
use Rattle.cell_eval.proofs.SiteLaws.{sites_call, sites_chain, sites_parentheses, sites_negation}
use Rattle.cell_eval.proofs.Weights.{weight, weights, weight_call, weight_chain, weight_parentheses, weight_negation, weight_at}
use Rattle.cell_eval.proofs.sites.+pass.Goals as goal

pub pass-pass_all-requires : goal.pass-pass_all-requires
pass-pass_all-requires t c =
    let whole : site_count c.args.node.now ≡ own_site c.in-Call.callee + sites_among c.in-Call.arguments = ap site_count c.in-Call.is ∙ sites_call c.in-Call.callee c.in-Call.arguments in
    let same : sites_among c.as_slice.result.now ≡ sites_among c.in-Call.arguments = ap sites_among (c.as_slice.ensures ∙ c.get.ensures) in
    let lighter = weight_call c.args.node.now c.in-Call.callee c.in-Call.arguments c.in-Call.is in
    let alike : weights c.as_slice.result.now ≡ weights c.in-Call.arguments = ap weights (c.as_slice.ensures ∙ c.get.ensures) in
    (omega arith, omega arith)

pub pass-returns-in-Call : goal.pass-returns-in-Call
pass-returns-in-Call t c =
    let whole : site_count c.args.node.now ≡ own_site c.in-Call.callee + sites_among c.in-Call.arguments = ap site_count c.in-Call.is ∙ sites_call c.in-Call.callee c.in-Call.arguments in
    let same : sites_among c.as_slice.result.now ≡ sites_among c.in-Call.arguments = ap sites_among (c.as_slice.ensures ∙ c.get.ensures) in
    omega arith

pub pass-overflow_add-sites : goal.pass-overflow_add-sites
pass-overflow_add-sites t c =
    let whole : site_count c.args.node.now ≡ own_site c.in-Call.callee + sites_among c.in-Call.arguments = ap site_count c.in-Call.is ∙ sites_call c.in-Call.callee c.in-Call.arguments in
    omega arith

pub pass-pass_all-requires-in-Chain : goal.pass-pass_all-requires-in-Chain
pass-pass_all-requires-in-Chain t c =
    let whole : site_count c.args.node.now ≡ sites_among c.in-Chain.operands = ap site_count c.in-Chain.is ∙ sites_chain c.in-Chain.operands c.in-Chain.operators in
    let same : sites_among c.as_slice-in-Chain.result.now ≡ sites_among c.in-Chain.operands = ap sites_among (c.as_slice-in-Chain.ensures ∙ c.get-in-Chain.ensures) in
    let lighter = weight_chain c.args.node.now c.in-Chain.operands c.in-Chain.operators c.in-Chain.is in
    let alike : weights c.as_slice-in-Chain.result.now ≡ weights c.in-Chain.operands = ap weights (c.as_slice-in-Chain.ensures ∙ c.get-in-Chain.ensures) in
    (omega arith, omega arith)

pub pass-returns-in-Chain : goal.pass-returns-in-Chain
pass-returns-in-Chain t c =
    let whole : site_count c.args.node.now ≡ sites_among c.in-Chain.operands = ap site_count c.in-Chain.is ∙ sites_chain c.in-Chain.operands c.in-Chain.operators in
    let same : sites_among c.as_slice-in-Chain.result.now ≡ sites_among c.in-Chain.operands = ap sites_among (c.as_slice-in-Chain.ensures ∙ c.get-in-Chain.ensures) in
    omega arith

pub pass-pass-requires : goal.pass-pass-requires
pass-pass-requires t c =
    let whole : site_count c.args.node.now ≡ site_count c.in-Parentheses.inner = ap site_count c.in-Parentheses.is ∙ sites_parentheses c.in-Parentheses.inner in
    let same : site_count c.get-in-Parentheses.result.now ≡ site_count c.in-Parentheses.inner = ap site_count c.get-in-Parentheses.ensures in
    let lighter = weight_parentheses c.args.node.now c.in-Parentheses.inner c.in-Parentheses.is in
    let alike : weight c.get-in-Parentheses.result.now ≡ weight c.in-Parentheses.inner = ap weight c.get-in-Parentheses.ensures in
    (omega arith, omega arith)

pub pass-pass-requires-in-Negation : goal.pass-pass-requires-in-Negation
pass-pass-requires-in-Negation t c =
    let whole : site_count c.args.node.now ≡ site_count c.in-Negation.operand = ap site_count c.in-Negation.is ∙ sites_negation c.in-Negation.count c.in-Negation.operand in
    let same : site_count c.get-in-Negation.result.now ≡ site_count c.in-Negation.operand = ap site_count c.get-in-Negation.ensures in
    let lighter = weight_negation c.args.node.now c.in-Negation.count c.in-Negation.operand c.in-Negation.is in
    let alike : weight c.get-in-Negation.result.now ≡ weight c.in-Negation.operand = ap weight c.get-in-Negation.ensures in
    (omega arith, omega arith)

pub pass_all-pass-requires : goal.pass_all-pass-requires
pass_all-pass-requires t c =
    let ns = c.args.nodes.now in
    let i = c.loop-node.node-index in
    let x = c.node-item.result in
    let is : x ≡ get_or ns i x = c.node-item.is in
    let rest : sites_among (drop i ns) ≡ site_count x + sites_among (drop (i + 1) ns) =
    ap sites_among (drop_more ns i x (omega arith)) ∙ ap (λ (n : Node). site_count n + sites_among (drop (i + 1) ns)) (sym is) in
    let lighter : weight x + 1 < weights ns = subst (λ (n : Node). weight n + 1 < weights ns) (sym is) (weight_at ns i x (omega arith)) in
    (omega arith, omega arith)
