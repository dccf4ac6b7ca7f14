use Rattle.std.proofs.Common.{◌≡◌, [], ap, sym, subst, ◌∙◌}
use Rattle.std.specs.Option.{unwrap_or}
use Rattle.area_index.specs.Forests.{HasNoMore}
use Rattle.dep_table.specs.Table.{areas_at}
use Rattle.dep_table.proofs.Indexing.{indexed-removed}
use Rattle.dep_table.proofs.tables.DepTable.remove.Goals as goal

pub invariant_of-self : goal.invariant_of-self
invariant_of-self c =
    let old : c.as_slice.result.now ≡ areas_at c.self.inside.entries.entries c.args.reader = c.as_slice.ensures ∙ ap (λ o. unwrap_or o []) (sym c.in-Some.is ∙ c.remove.ensures.value) in
    indexed-removed c.self.inside.index c.remove_all.new.self c.self.inside.entries.entries c.remove.new.self.entries c.args.reader c.self.invariant
    (subst (λ areas. HasNoMore c.self.inside.index c.remove_all.new.self c.args.reader areas) old c.remove_all.ensures.pairs) c.remove.ensures.entries c.remove.ensures.ordered
