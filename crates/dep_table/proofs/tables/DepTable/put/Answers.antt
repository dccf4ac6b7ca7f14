use Rattle.std.proofs.Common.{◌≡◌, ap, ◌∙◌}
use Rattle.std.specs.Prelude.{map}
use Rattle.area_index.specs.Forests.{pair_at}
use Rattle.dep_table.proofs.Indexing.{indexed-after}
use Rattle.dep_table.proofs.tables.DepTable.put.Goals as goal

pub invariant_of-self : goal.invariant_of-self
invariant_of-self c =
    let p = c.put_in.ensures in
    indexed-after (λ back. back.items ≡ c.args.areas.items) c.put_in.result c.self.inside.index c.prepare.new.self c.put_in.new.index c.self.inside.entries.entries c.put_in.new.entries.entries c.args.reader c.args.areas.items _ c.self.invariant c.prepare.ensures.pairs p.entries p.index
    (c.in-Ok.ensures.nodes ∙ ap (map (pair_at c.args.reader)) c.as_slice.ensures.value) p.refused p.ordered.1
