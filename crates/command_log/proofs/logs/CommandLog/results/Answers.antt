use Rattle.std.proofs.Common.{ℕ, ◌++◌, ◌∷◌, [], ap, sym, subst, ◌∙◌, append_assoc}
use Rattle.std.specs.Prelude.{if◌then◌else◌, is_ok}
use Rattle.cell_values.specs.declared.values.Value.{Value}
use Rattle.command_log.specs.Log.{IsBehindReturn, results_from}
use Rattle.command_log.proofs.Walking.{behind_link, first_and_rest}
use Rattle.command_log.proofs.logs.CommandLog.results.Goals as goal

pub links-preserved : goal.links-preserved
links-preserved c =
    let es = c.args.self.now.entries in
    let ls = c.args.self.now.links in
    let linked = c.links.invariant.linked in
    let r : ℕ × Value = (c.in-Some.site, c.in-Some.value.now) in
    let walked = first_and_rest es ls linked.back c.links.place r c.in-Some.ensures in
    let pushed = c.push.ensures.items ∙ ap (λ done. if is_ok done then c.links.results.items ++ (c.in-Some.site, c.in_ok-copy.field-0) ∷ [] else c.links.results.items) c.in_ok-push.was
    ∙ ap (λ v. c.links.results.items ++ (c.in-Some.site, v) ∷ []) c.in_ok-copy.ensures in
    record {
      linked = linked;
      behind = subst (IsBehindReturn es) (sym c.link_before-place.ensures) (behind_link es ls linked.returns c.links.place);
      values =
          ap (λ items. items ++ results_from es ls c.link_before-place.result c.link_before-place.result) pushed
          ∙ append_assoc c.links.results.items (r ∷ []) (results_from es ls c.link_before-place.result c.link_before-place.result)
          ∙ ap (λ rest. c.links.results.items ++ rest) (ap (λ n. r ∷ results_from es ls n n) c.link_before-place.ensures ∙ sym walked)
          ∙ c.links.invariant.values;
    }
