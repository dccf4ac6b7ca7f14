use Rattle.std.proofs.Common.{◌≡◌, subst, arith}
use Rattle.std.specs.Prelude.{IfOk}
use Rattle.area_index.specs.Forests.{forest_with, tree_in}
use Rattle.area_index.proofs.Bounds.{visits-le, levels-le}
use Rattle.area_index.proofs.Forests.{kept_as}
use Rattle.area_index.proofs.Found.{found-is}
use Rattle.area_index.proofs.Readers.{own_pairs}
use Rattle.area_index.proofs.area_indexes.AreaIndex.find.Goals as goal

pub returns-clause-found : goal.returns-clause-found
returns-clause-found g c =
    let old = forest_with c.self.inside.store c.self.inside.links in
    let s = c.self.invariant.trees c.args.cell.sheet in
    let kept = kept_as c.self.inside.store c.self.inside.links 0 c.self.invariant.kept in
    rw (← c.self.view_is) (subst (λ xs. IfOk c.find_in.result (λ readers. readers.items ≡ xs)) (found-is (tree_in old c.args.cell.sheet) c.args.cell s.level s.ordered) (c.find_in.ensures.found kept))

pub returns-clause-steps : goal.returns-clause-steps
returns-clause-steps g c =
    let old = forest_with c.self.inside.store c.self.inside.links in
    let s = c.self.invariant.trees c.args.cell.sheet in
    let kept = kept_as c.self.inside.store c.self.inside.links 0 c.self.invariant.kept in
    let v = visits-le (tree_in old c.args.cell.sheet) c.args.cell.row s.level s.ordered in
    let w = c.find_in.ensures.steps kept in
    rw (← c.self.view_is) (record { steps = omega arith; levels = levels-le (tree_in old c.args.cell.sheet) s.level; ordered = s.ordered; own = own_pairs old c.args.cell.sheet s.own })
