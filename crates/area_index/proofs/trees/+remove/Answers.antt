use Rattle.std.proofs.Common.{◌∷◌, ◌++◌, ◌∙◌, ap, sym, subst}
use Rattle.area_index.specs.Shapes.{removed}
use Rattle.area_index.specs.Standing.{AreParts, alone, entry_at, rooted, taken_out}
use Rattle.area_index.proofs.Orders.{over_taken, to_ba, to_bca, to_cab, under_taken}
use Rattle.area_index.proofs.Standing.{opened, sides_levels}
use Rattle.area_index.proofs.Turning.{removed-left, removed-right, removed-here, same_parts}
use Rattle.area_index.proofs.trees.+remove.Goals as goal

pub returns-in-Less-clause-turns : goal.returns-in-Less-clause-turns
returns-in-Less-clause-turns u c t deep rest parts =
    let top = c.in-Some.top in
    let here = entry_at c.args.root top in
    let o = opened c.args.nodes.now.items.items c.args.root t top _ (sym c.in-Some.ensures.node) parts in
    let levels = sides_levels t o.left here top.height top.bottom o.right c.args.levels o.is deep in
    let p1 = same_parts c.args.nodes.now c.node.new.self _ c.node.ensures.same o.parts in
    let p2 = c.remove-left.ensures.turns o.left levels.0 _ (to_ba p1) in
    let p3 = c.balance.ensures.turns (removed o.left c.args.pair) o.right _ (over_taken c.remove-left.result.taken rest p2) in
    let e = ap (λ z. removed z c.args.pair) o.is ∙ removed-left o.left here top.height top.bottom o.right c.args.pair (sym c.order.ensures ∙ c.in-Less.is) in
    subst (λ z. AreParts c.balance.new.nodes.items.items (rooted c.balance.result z ∷ (taken_out c.remove-left.result.taken ++ rest))) (sym e) p3

pub returns-in-Equal-clause-turns : goal.returns-in-Equal-clause-turns
returns-in-Equal-clause-turns u c t deep rest parts =
    let top = c.in-Some.top in
    let here = entry_at c.args.root top in
    let o = opened c.args.nodes.now.items.items c.args.root t top _ (sym c.in-Some.ensures.node) parts in
    let levels = sides_levels t o.left here top.height top.bottom o.right c.args.levels o.is deep in
    let p1 = same_parts c.args.nodes.now c.node.new.self _ c.node.ensures.same o.parts in
    let p2 = c.join.ensures.turns o.left o.right levels.1 _ (to_bca p1) in
    let e = ap (λ z. removed z c.args.pair) o.is ∙ removed-here o.left here top.height top.bottom o.right c.args.pair (sym c.order.ensures ∙ c.in-Equal.is) in
    subst (λ z. AreParts c.join.new.nodes.items.items (rooted c.join.result z ∷ alone c.args.root ∷ rest)) (sym e) p2

pub returns-in-Greater-clause-turns : goal.returns-in-Greater-clause-turns
returns-in-Greater-clause-turns u c t deep rest parts =
    let top = c.in-Some.top in
    let here = entry_at c.args.root top in
    let o = opened c.args.nodes.now.items.items c.args.root t top _ (sym c.in-Some.ensures.node) parts in
    let levels = sides_levels t o.left here top.height top.bottom o.right c.args.levels o.is deep in
    let p1 = same_parts c.args.nodes.now c.node.new.self _ c.node.ensures.same o.parts in
    let p2 = c.remove-right.ensures.turns o.right levels.1 _ (to_cab p1) in
    let p3 = c.balance-in-Greater.ensures.turns o.left (removed o.right c.args.pair) _ (under_taken c.remove-right.result.taken rest p2) in
    let e = ap (λ z. removed z c.args.pair) o.is ∙ removed-right o.left here top.height top.bottom o.right c.args.pair (sym c.order.ensures ∙ c.in-Greater.is) in
    subst (λ z. AreParts c.balance-in-Greater.new.nodes.items.items (rooted c.balance-in-Greater.result z ∷ (taken_out c.remove-right.result.taken ++ rest))) (sym e) p3
