use Rattle.std.proofs.Common.{◌≡◌, cond, map, length, min, arith, ap, sym, ◌∙◌}
use Rattle.std.specs.Prelude.{is_some}
use Rattle.formula_parse.specs.Callees.{added_name}
use Rattle.formula_parse.specs.Tree.{concat, site_count, sites_named}
use Rattle.formula_parse.proofs.SiteLaws.{byte_is, count_of_call, sites_of_chain}
use Rattle.formula_parse.proofs.naming.+count_sites.Goals as goal

pub count_sites-returns-in-Call : goal.count_sites-returns-in-Call
count_sites-returns-in-Call t c =
    let all : c.count_all_sites.result ≡ min (length (concat (map sites_named c.in-Call.arguments))) 65535 = c.count_all_sites.ensures ∙ ap (λ nodes. min (length (concat (map sites_named nodes))) 65535) (c.as_slice.ensures ∙ c.get.ensures) in
    let own : c.from.result ≡ cond (is_some (added_name c.in-Call.callee)) 1 0 = c.from.ensures ∙ byte_is c.is_added.result ∙ ap (λ b. cond b 1 0) c.is_added.ensures in
    omega (arith, ap site_count c.in-Call.is ∙ count_of_call c.in-Call.callee c.in-Call.arguments, all, own, c.saturating_add.ensures)

pub count_sites-returns-in-Chain : goal.count_sites-returns-in-Chain
count_sites-returns-in-Chain t c =
    c.count_all_sites-in-Chain.ensures
    ∙ ap (λ nodes. min (length (concat (map sites_named nodes))) 65535) (c.as_slice-in-Chain.ensures ∙ c.get-in-Chain.ensures)
    ∙ ap (λ count. min count 65535) (sym (ap site_count c.in-Chain.is ∙ ap length (sites_of_chain c.in-Chain.operands c.in-Chain.operators)))
