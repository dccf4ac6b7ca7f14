use Rattle.std.proofs.Common.{◌∷◌, ◌∙◌, ap, sym, subst, ◌≤◌, ◌<◌}
use Rattle.area_index.specs.Shapes.{height_of, lean_left, node_of}
use Rattle.area_index.specs.Standing.{AreParts, entry_at, rooted}
use Rattle.area_index.proofs.Orders.{to_ba, to_bca, to_dceab}
use Rattle.area_index.proofs.Standing.{closed, height-at, opened}
use Rattle.area_index.proofs.Turning.{left-empty, left-inner, left-outer, same_parts}
use Rattle.area_index.proofs.trees.lean_to_left.Goals as goal

pub returns-in-None-clause-turns : goal.returns-in-None-clause-turns
returns-in-None-clause-turns c l r rest parts =
    let none = closed c.args.nodes.now.items.items c.args.left l _ (sym c.in-None.ensures.node) (to_ba parts) in
    let p1 = same_parts c.args.nodes.now c.node.new.self _ c.node.ensures.same parts in
    let p2 = c.link.ensures.turns l r rest p1 in
    let e = ap (λ z. lean_left z c.args.entry r) none ∙ left-empty c.args.entry r ∙ ap (λ z. node_of z c.args.entry r) (sym none) in
    subst (λ z. AreParts c.link.new.self.items.items (rooted c.link.result z ∷ rest)) (sym e) p2

pub returns-then-height-clause-turns : goal.returns-then-height-clause-turns
returns-then-height-clause-turns c l r rest parts =
    let top = c.in-Some.top in
    let here = entry_at c.args.left top in
    let o = opened c.args.nodes.now.items.items c.args.left l top _ (sym c.in-Some.ensures.node) (to_ba parts) in
    let p1 = same_parts c.args.nodes.now c.node.new.self _ c.node.ensures.same o.parts in
    let p2 = same_parts c.node.new.self c.height.new.self _ c.height.ensures.same p1 in
    let p3 = same_parts c.height.new.self c.height-in-Some.new.self _ c.height-in-Some.ensures.same p2 in
    let inner = c.height.ensures.height ∙ height-at _ top.right o.right p1.few p1.each.1.1.0 in
    let outer = c.height-in-Some.ensures.height ∙ height-at _ top.left o.left p2.few p2.each.1.0 in
    let p4 = c.link-right.ensures.turns o.right r _ (to_dceab p3) in
    let p5 = c.link-then-height.ensures.turns o.left (node_of o.right c.args.entry r) rest (to_bca p4) in
    let low : height_of o.right ≤ height_of o.left = rw (← inner, ← outer) c.if-height.true in
    let e = ap (λ z. lean_left z c.args.entry r) o.is ∙ left-outer o.left here top.height top.bottom o.right c.args.entry r low in
    subst (λ z. AreParts c.link-then-height.new.self.items.items (rooted c.link-then-height.result z ∷ rest)) (sym e) p5

pub returns-else-height-clause-turns : goal.returns-else-height-clause-turns
returns-else-height-clause-turns c l r rest parts =
    let top = c.in-Some.top in
    let here = entry_at c.args.left top in
    let o = opened c.args.nodes.now.items.items c.args.left l top _ (sym c.in-Some.ensures.node) (to_ba parts) in
    let p1 = same_parts c.args.nodes.now c.node.new.self _ c.node.ensures.same o.parts in
    let p2 = same_parts c.node.new.self c.height.new.self _ c.height.ensures.same p1 in
    let p3 = same_parts c.height.new.self c.height-in-Some.new.self _ c.height-in-Some.ensures.same p2 in
    let inner = c.height.ensures.height ∙ height-at _ top.right o.right p1.few p1.each.1.1.0 in
    let outer = c.height-in-Some.ensures.height ∙ height-at _ top.left o.left p2.few p2.each.1.0 in
    let p4 = c.raise.ensures.turns o.left o.right r rest p3 in
    let high : height_of o.left < height_of o.right = rw (← inner, ← outer) c.if-height.false in
    let e = ap (λ z. lean_left z c.args.entry r) o.is ∙ left-inner o.left here top.height top.bottom o.right c.args.entry r high in
    subst (λ z. AreParts c.raise.new.nodes.items.items (rooted c.raise.result z ∷ rest)) (sym e) p4
