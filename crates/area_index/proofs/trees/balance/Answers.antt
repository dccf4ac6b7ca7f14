use Rattle.std.proofs.Common.{◌∷◌, ◌∙◌, ap, sym, subst, ◌≤◌, ◌<◌}
use Rattle.area_index.specs.Shapes.{height_of, higher}
use Rattle.area_index.specs.Standing.{AreParts, rooted}
use Rattle.area_index.proofs.Standing.{height-at}
use Rattle.area_index.proofs.Turning.{balanced-even, balanced-left, balanced-right, same_parts}
use Rattle.area_index.proofs.trees.balance.Goals as goal

pub returns-then-one_higher-left_height-clause-turns : goal.returns-then-one_higher-left_height-clause-turns
returns-then-one_higher-left_height-clause-turns c l r rest parts =
    let p1 = same_parts c.args.nodes.now c.height-left_height.new.self _ c.height-left_height.ensures.same parts in
    let p2 = same_parts c.height-left_height.new.self c.height-right_height.new.self _ c.height-right_height.ensures.same p1 in
    let hl = c.height-left_height.ensures.height ∙ height-at _ c.args.left l parts.few parts.each.1.0 in
    let hr = c.height-right_height.ensures.height ∙ height-at _ c.args.right r p1.few p1.each.1.1.0 in
    let above_right = c.one_higher.ensures ∙ ap higher hr in
    let left : higher (height_of r) < height_of l = rw (← above_right, ← hl) c.if-one_higher-left_height.true in
    let p3 = c.lean_to_left.ensures.turns l r rest p2 in
    subst (λ z. AreParts c.lean_to_left.new.nodes.items.items (rooted c.lean_to_left.result z ∷ rest)) (sym (balanced-left l c.args.entry r left)) p3

pub returns-then-one_higher-right_height-clause-turns : goal.returns-then-one_higher-right_height-clause-turns
returns-then-one_higher-right_height-clause-turns c l r rest parts =
    let p1 = same_parts c.args.nodes.now c.height-left_height.new.self _ c.height-left_height.ensures.same parts in
    let p2 = same_parts c.height-left_height.new.self c.height-right_height.new.self _ c.height-right_height.ensures.same p1 in
    let hl = c.height-left_height.ensures.height ∙ height-at _ c.args.left l parts.few parts.each.1.0 in
    let hr = c.height-right_height.ensures.height ∙ height-at _ c.args.right r p1.few p1.each.1.1.0 in
    let above_right = c.one_higher.ensures ∙ ap higher hr in
    let above_left = c.one_higher-else-one_higher-left_height.ensures ∙ ap higher hl in
    let left : height_of l ≤ higher (height_of r) = rw (← above_right, ← hl) c.if-one_higher-left_height.false in
    let right : higher (height_of l) < height_of r = rw (← above_left, ← hr) c.if-one_higher-right_height.true in
    let p3 = c.lean_to_right.ensures.turns l r rest p2 in
    subst (λ z. AreParts c.lean_to_right.new.nodes.items.items (rooted c.lean_to_right.result z ∷ rest)) (sym (balanced-right l c.args.entry r left right)) p3

pub returns-else-one_higher-right_height-clause-turns : goal.returns-else-one_higher-right_height-clause-turns
returns-else-one_higher-right_height-clause-turns c l r rest parts =
    let p1 = same_parts c.args.nodes.now c.height-left_height.new.self _ c.height-left_height.ensures.same parts in
    let p2 = same_parts c.height-left_height.new.self c.height-right_height.new.self _ c.height-right_height.ensures.same p1 in
    let hl = c.height-left_height.ensures.height ∙ height-at _ c.args.left l parts.few parts.each.1.0 in
    let hr = c.height-right_height.ensures.height ∙ height-at _ c.args.right r p1.few p1.each.1.1.0 in
    let above_right = c.one_higher.ensures ∙ ap higher hr in
    let above_left = c.one_higher-else-one_higher-left_height.ensures ∙ ap higher hl in
    let left : height_of l ≤ higher (height_of r) = rw (← above_right, ← hl) c.if-one_higher-left_height.false in
    let right : height_of r ≤ higher (height_of l) = rw (← above_left, ← hr) c.if-one_higher-right_height.false in
    let p3 = c.link.ensures.turns l r rest p2 in
    subst (λ z. AreParts c.link.new.self.items.items (rooted c.link.result z ∷ rest)) (sym (balanced-even l c.args.entry r left right)) p3
