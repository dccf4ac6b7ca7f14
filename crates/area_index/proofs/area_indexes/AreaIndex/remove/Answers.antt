use Rattle.area_index.proofs.Forests.{forest-removed, has-removed, kept_as}
use Rattle.area_index.proofs.area_indexes.AreaIndex.remove.Goals as goal

pub invariant_of-self : goal.invariant_of-self
invariant_of-self c =
    let old = c.self.inside.store in
    let r = c.remove_from.ensures (kept_as old c.self.inside.links 0 c.self.invariant.kept) in
    forest-removed old c.remove_from.new.store c.self.inside.links c.args.pair c.self.invariant r.0

pub returns-clause-pairs : goal.returns-clause-pairs
returns-clause-pairs c p =
    let old = c.self.inside.store in
    let r = c.remove_from.ensures (kept_as old c.self.inside.links 0 c.self.invariant.kept) in
    rw (← c.self.view_is) (has-removed old c.remove_from.new.store c.self.inside.links c.args.pair c.self.invariant r.0 p)
