use Rattle.std.proofs.Common.{◌≡◌, ◌++◌, map, ap, sym, ◌∙◌, subst, append_assoc}
use Rattle.std.specs.Prelude.{OnOk, option_to_list}
use Rattle.formula_parse.specs.Callees.{added_name}
use Rattle.formula_parse.specs.Tree.{concat, sites_named}
use Rattle.formula_parse.proofs.SiteLaws.{names_of_call, sites_of_chain}
use Rattle.formula_parse.proofs.naming.+push_names.Goals as goal

pub push_names-returns-in_ok-push_name-in-Call : goal.push_names-returns-in_ok-push_name-in-Call
push_names-returns-in_ok-push_name-in-Call t c =
    let parts = ap (λ nodes. concat (map sites_named nodes)) (c.as_slice.ensures ∙ c.get.ensures) in
    let own = c.in_ok-push_name-in-Call.ensures in
    let all = ap sites_named c.in-Call.is ∙ names_of_call c.in-Call.callee c.in-Call.arguments in
    subst (λ names. OnOk c.push_all_names.result (c.push_all_names.new.called.items ≡ names))
    (ap (λ names. names ++ concat (map sites_named c.as_slice.result.now)) own
    ∙ append_assoc c.args.called.now.items (option_to_list (added_name c.in-Call.callee)) (concat (map sites_named c.as_slice.result.now))
    ∙ ap (λ names. c.args.called.now.items ++ names) (ap (λ names. option_to_list (added_name c.in-Call.callee) ++ names) parts ∙ sym all))
    c.push_all_names.ensures

pub push_names-returns-in-Chain : goal.push_names-returns-in-Chain
push_names-returns-in-Chain t c =
    let parts = ap (λ nodes. concat (map sites_named nodes)) (c.as_slice-in-Chain.ensures ∙ c.get-in-Chain.ensures) in
    subst (λ names. OnOk c.push_all_names-in-Chain.result (c.push_all_names-in-Chain.new.called.items ≡ names))
    (ap (λ names. c.args.called.now.items ++ names) (parts ∙ sym (ap sites_named c.in-Chain.is ∙ sites_of_chain c.in-Chain.operands c.in-Chain.operators)))
    c.push_all_names-in-Chain.ensures
