use Rattle.std.proofs.Common.{◌≡◌, ◌∷◌, ◌∙◌, ap, sym, subst}
use Rattle.area_index.specs.Shapes.{empty, first_of, rest_of}
use Rattle.area_index.specs.Standing.{AreParts, alone, entry_at, rooted}
use Rattle.area_index.proofs.Orders.{to_ba, to_cbda}
use Rattle.area_index.proofs.Standing.{closed, no_levels, opened, sides_levels, without_left}
use Rattle.area_index.proofs.Turning.{same_parts}
use Rattle.area_index.proofs.trees.+take_first.Goals as goal

pub returns-in-Some-clause-first : goal.returns-in-Some-clause-first
returns-in-Some-clause-first u c l rest deep parts =
    let top = c.in-Some.top in
    let here = entry_at c.args.left top in
    let o = opened c.args.nodes.now.items.items c.args.left l top _ (sym c.in-Some.ensures.node) parts in
    let levels = sides_levels l o.left here top.height top.bottom o.right c.args.levels o.is deep in
    let p1 = same_parts c.args.nodes.now c.node.new.self _ c.node.ensures.same o.parts in
    ap (λ z. first_of z c.args.entry) o.is ∙ c.take_first-first.ensures.first o.left _ levels.0 (to_ba p1)

pub returns-in-Some-clause-rest : goal.returns-in-Some-clause-rest
returns-in-Some-clause-rest u c l r deep rest parts =
    let top = c.in-Some.top in
    let here = entry_at c.args.left top in
    let o = opened c.args.nodes.now.items.items c.args.left l top _ (sym c.in-Some.ensures.node) (to_ba parts) in
    let levels = sides_levels l o.left here top.height top.bottom o.right c.args.levels o.is deep in
    let p1 = same_parts c.args.nodes.now c.node.new.self _ c.node.ensures.same o.parts in
    let p2 = c.take_first-first.ensures.rest o.left o.right levels.0 _ p1 in
    let p3 = c.balance.ensures.turns (rest_of o.left here o.right) r _ (to_cbda p2) in
    let e = ap (λ z. rest_of z c.args.entry r) o.is in
    subst (λ z. AreParts c.balance.new.nodes.items.items (alone c.take_first-first.result.entry.at ∷ rooted c.balance.result z ∷ rest)) (sym e) (to_ba p3)

pub returns-in_default-clause-rest : goal.returns-in_default-clause-rest
returns-in_default-clause-rest u c l r deep rest parts =
    let none : l ≡ empty = no_levels l c.args.levels deep c.if-levels-gt0.false in
    let p1 = same_parts c.args.nodes.now c.node.new.self _ c.node.ensures.same parts in
    without_left c.node.new.self.items.items c.args.entry c.args.left c.args.right l r rest none p1

pub returns-in_default-2-clause-rest : goal.returns-in_default-2-clause-rest
returns-in_default-2-clause-rest u c l r deep rest parts =
    let none : l ≡ empty = closed c.args.nodes.now.items.items c.args.left l _ (sym c.node.ensures.node ∙ c.in_default.is) (to_ba parts) in
    let p1 = same_parts c.args.nodes.now c.node.new.self _ c.node.ensures.same parts in
    without_left c.node.new.self.items.items c.args.entry c.args.left c.args.right l r rest none p1
