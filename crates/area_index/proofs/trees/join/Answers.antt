use Rattle.std.proofs.Common.{◌∷◌, ◌∙◌, ◌≤◌, ap, sym, subst, arith}
use Rattle.area_index.specs.Shapes.{balanced, depth_of, joined, rest_of}
use Rattle.area_index.specs.Standing.{AreParts, entry_at, rooted}
use Rattle.area_index.proofs.Orders.{to_acb, to_ba}
use Rattle.area_index.proofs.Standing.{opened, sides_levels}
use Rattle.area_index.proofs.Turning.{same_parts}
use Rattle.area_index.proofs.trees.join.Goals as goal

pub returns-in-Some-clause-turns : goal.returns-in-Some-clause-turns
returns-in-Some-clause-turns c l r deep rest parts =
    let top = c.in-Some.top in
    let here = entry_at c.args.right top in
    let o = opened c.args.nodes.now.items.items c.args.right r top _ (sym c.in-Some.ensures.node) (to_ba parts) in
    let levels = sides_levels r o.left here top.height top.bottom o.right c.args.levels o.is deep in
    let few : depth_of o.left ≤ c.args.levels = (let k = levels.0 in omega arith) in
    let p1 = same_parts c.args.nodes.now c.node.new.self _ c.node.ensures.same o.parts in
    let p2 = c.take_first-first.ensures.rest o.left o.right few _ p1 in
    let first = c.take_first-first.ensures.first o.left _ few (to_ba p1) in
    let p3 = c.balance.ensures.turns l (rest_of o.left here o.right) rest (to_acb p2) in
    let e = ap (λ z. joined l z) o.is ∙ ap (λ z. balanced l z (rest_of o.left here o.right)) first in
    subst (λ z. AreParts c.balance.new.nodes.items.items (rooted c.balance.result z ∷ rest)) (sym e) p3
