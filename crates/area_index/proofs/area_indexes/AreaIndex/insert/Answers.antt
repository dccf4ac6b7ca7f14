use Rattle.std.proofs.Common.{◌+◌, ◌<◌, subst, sym}
use Rattle.area_index.specs.declared.nodes.TheConstants.{LEVELS}
use Rattle.area_index.specs.Forests.{free_in}
use Rattle.area_index.proofs.Forests.{forest-inserted, has-inserted, kept_as}
use Rattle.area_index.proofs.Kept.{entry_with}
use Rattle.area_index.proofs.area_indexes.AreaIndex.insert.Goals as goal

pub invariant_of-self : goal.invariant_of-self
invariant_of-self c =
    let old = c.self.inside.store in
    let kept = kept_as old c.self.inside.links 0 c.self.invariant.kept in
    let i = c.insert_into.ensures kept (subst (λ f. 0 < free_in f) (sym c.self.view_is) c.requires.ready.free) in
    forest-inserted old c.insert_into.new.store c.self.inside.links (entry_with old.free c.args.pair) c.self.invariant i.0 (subst (λ f. f.links + 1 < LEVELS) (sym c.self.view_is) c.requires.ready.room)

pub returns-clause-pairs : goal.returns-clause-pairs
returns-clause-pairs c p =
    let old = c.self.inside.store in
    let kept = kept_as old c.self.inside.links 0 c.self.invariant.kept in
    let i = c.insert_into.ensures kept (subst (λ f. 0 < free_in f) (sym c.self.view_is) c.requires.ready.free) in
    rw (← c.self.view_is) (has-inserted old c.insert_into.new.store c.self.inside.links _ (entry_with old.free c.args.pair) c.self.invariant i.0 p)
