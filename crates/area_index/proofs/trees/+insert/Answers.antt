use Rattle.std.proofs.Common.{◌≡◌, ◌∷◌, ◌++◌, ◌∙◌, ap, sym, subst}
use Rattle.area_index.specs.Shapes.{empty, inserted}
use Rattle.area_index.specs.Standing.{AreParts, alone, entry_at, left_over, rooted}
use Rattle.area_index.proofs.Orders.{over_left, to_ba, to_dbac, to_dcab, under_left}
use Rattle.area_index.proofs.Standing.{closed, leaves, no_levels, opened, sides_levels}
use Rattle.area_index.proofs.Turning.{inserted-left, inserted-right, inserted-here, same_parts}
use Rattle.area_index.proofs.trees.+insert.Goals as goal
use Rattle.area_index.proofs.trees.+insert.Goals.{in_default-via-in-Some+else-levels-gt0, in_default-via-in_default}

pub returns-in-Less-clause-turns : goal.returns-in-Less-clause-turns
returns-in-Less-clause-turns u c t deep rest parts =
    let top = c.in-Some.top in
    let here = entry_at c.args.root top in
    let o = opened c.args.nodes.now.items.items c.args.root t top _ (sym c.in-Some.ensures.node) (to_ba parts) in
    let levels = sides_levels t o.left here top.height top.bottom o.right c.args.levels o.is deep in
    let p1 = same_parts c.args.nodes.now c.node.new.self _ c.node.ensures.same o.parts in
    let p2 = c.insert-left.ensures.turns o.left levels.0 _ (to_dbac p1) in
    let p3 = c.balance.ensures.turns (inserted o.left c.args.entry) o.right _ (over_left c.insert-left.result.is_used c.args.entry.at rest p2) in
    let e = ap (λ z. inserted z c.args.entry) o.is ∙ inserted-left o.left here top.height top.bottom o.right c.args.entry (sym c.order.ensures ∙ c.in-Less.is) in
    subst (λ z. AreParts c.balance.new.nodes.items.items (rooted c.balance.result z ∷ (left_over c.insert-left.result.is_used c.args.entry.at ++ rest))) (sym e) p3

pub returns-in-Equal-clause-turns : goal.returns-in-Equal-clause-turns
returns-in-Equal-clause-turns u c t deep rest parts =
    let top = c.in-Some.top in
    let here = entry_at c.args.root top in
    let o = opened c.args.nodes.now.items.items c.args.root t top _ (sym c.in-Some.ensures.node) (to_ba parts) in
    let p1 = same_parts c.args.nodes.now c.node.new.self _ c.node.ensures.same o.parts in
    let p2 = c.link.ensures.turns o.left o.right _ p1 in
    let e = ap (λ z. inserted z c.args.entry) o.is ∙ inserted-here o.left here top.height top.bottom o.right c.args.entry (sym c.order.ensures ∙ c.in-Equal.is) in
    subst (λ z. AreParts c.link.new.self.items.items (rooted c.link.result z ∷ alone c.args.entry.at ∷ rest)) (sym e) p2

pub returns-in-Greater-clause-turns : goal.returns-in-Greater-clause-turns
returns-in-Greater-clause-turns u c t deep rest parts =
    let top = c.in-Some.top in
    let here = entry_at c.args.root top in
    let o = opened c.args.nodes.now.items.items c.args.root t top _ (sym c.in-Some.ensures.node) (to_ba parts) in
    let levels = sides_levels t o.left here top.height top.bottom o.right c.args.levels o.is deep in
    let p1 = same_parts c.args.nodes.now c.node.new.self _ c.node.ensures.same o.parts in
    let p2 = c.insert-right.ensures.turns o.right levels.1 _ (to_dcab p1) in
    let p3 = c.balance-in-Greater.ensures.turns o.left (inserted o.right c.args.entry) _ (under_left c.insert-right.result.is_used c.args.entry.at rest p2) in
    let e = ap (λ z. inserted z c.args.entry) o.is ∙ inserted-right o.left here top.height top.bottom o.right c.args.entry (sym c.order.ensures ∙ c.in-Greater.is) in
    subst (λ z. AreParts c.balance-in-Greater.new.nodes.items.items (rooted c.balance-in-Greater.result z ∷ (left_over c.insert-right.result.is_used c.args.entry.at ++ rest))) (sym e) p3

pub returns-in_default-clause-turns : goal.returns-in_default-clause-turns
returns-in_default-clause-turns u c t deep rest parts =
    let none : t ≡ empty = elim c.in_default.branch [
      | in_default-via-in-Some+else-levels-gt0 w ↦ no_levels t c.args.levels deep w.if-levels-gt0.false
      | in_default-via-in_default w ↦ closed c.args.nodes.now.items.items c.args.root t _ (sym c.node.ensures.node ∙ w.in_default.is) (to_ba parts)
    ] in
    let p1 = same_parts c.args.nodes.now c.node.new.self _ c.node.ensures.same parts in
    let p2 = leaves _ c.args.entry.at c.args.root rest (subst (λ z. AreParts c.node.new.self.items.items (alone c.args.entry.at ∷ rooted c.args.root z ∷ rest)) none p1) in
    let p3 = c.link-in_default.ensures.turns empty empty rest p2 in
    subst (λ z. AreParts c.link-in_default.new.self.items.items (rooted c.link-in_default.result (inserted z c.args.entry) ∷ rest)) (sym none) p3
