use Rattle.std.proofs.Common.{rules, ap, ◌∙◌}
use Rattle.std.specs.Prelude.{filter, nat_eq, not}
use Rattle.std.proofs.lemmas.Fn.{filter_same}
use Rattle.rtd_server.proofs.links.Ids.remove.Goals as goal

pub returns : goal.returns
returns c =
    filter_same _ (λ other. not (nat_eq other c.args.id)) _ (λ x b f' k. search rules) _ _ c.retain.ensures.filtered
    ∙ ap (filter (λ other. not (nat_eq other c.args.id))) c.self.view_is
