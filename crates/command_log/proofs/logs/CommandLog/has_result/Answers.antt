use Rattle.std.proofs.Common.{ℕ, ap, sym, subst, ◌∙◌}
use Rattle.cell_values.specs.declared.values.Value.{Value}
use Rattle.command_log.specs.Log.{IsBehindReturn, has_site, results_from}
use Rattle.command_log.proofs.Walking.{behind_link, first_and_rest, other_site}
use Rattle.command_log.proofs.logs.CommandLog.has_result.Goals as goal

pub links-preserved : goal.links-preserved
links-preserved c =
    let es = c.args.self.now.entries in
    let ls = c.args.self.now.links in
    let linked = c.links.invariant.linked in
    let r : ℕ × Value = (c.in-Some.other, c.in-Some.field-0-1.now) in
    let walked = first_and_rest es ls linked.back c.links.place r c.in-Some.ensures in
    record {
      linked = linked;
      behind = subst (IsBehindReturn es) (sym c.link_before-place.ensures) (behind_link es ls linked.returns c.links.place);
      values =
          ap (λ n. has_site (results_from es ls n n) c.args.site) c.link_before-place.ensures
          ∙ sym (ap (λ rs. has_site rs c.args.site) walked ∙ other_site r _ c.args.site c.if-other-site.false)
          ∙ c.links.invariant.values;
    }
