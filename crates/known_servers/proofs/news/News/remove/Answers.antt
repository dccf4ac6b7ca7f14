use Rattle.std.proofs.Common.{rules, ap, ◌∙◌, ◌++◌, ℕ, cond, None}
use Rattle.std.specs.Prelude.{nat_eq, not, List}
use Rattle.std.specs.Map.{lookup}
use Rattle.std.proofs.lemmas.Fn.{filter_same}
use Rattle.cell_values.specs.declared.values.Value.{Value}
use Rattle.known_servers.specs.News.{news_at}
use Rattle.known_servers.proofs.Sorting.{removed}
use Rattle.known_servers.proofs.news.News.remove.Goals as goal

pub returns : goal.returns
returns c q =
    ap (λ (g : List (ℕ × Value)). lookup (nat_eq q) (g ++ c.swap_remove.new.self.entries))
    (filter_same _ (λ (pair : ℕ × Value). not (nat_eq pair.0 c.args.id)) _ (λ x b f' k. search rules) _ _ c.retain.ensures.filtered)
    ∙ removed c.self.inside.given.items c.self.inside.sorted.entries c.swap_remove.new.self.entries c.args.id c.swap_remove.ensures.updates.0 q
    ∙ ap (λ n. cond (nat_eq c.args.id q) None (news_at n q)) c.self.view_is
