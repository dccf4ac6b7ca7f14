use Rattle.std.proofs.Common.{◌∷◌, ◌∙◌, ap, sym, subst}
use Rattle.area_index.specs.Shapes.{node_of, raised}
use Rattle.area_index.specs.Standing.{AreParts, alone, entry_at, rooted}
use Rattle.area_index.proofs.Orders.{to_ba, to_bca, to_cab, to_dceba, to_debac}
use Rattle.area_index.proofs.Standing.{closed, opened}
use Rattle.area_index.proofs.Turning.{raised-empty, raised-fork, same_parts}
use Rattle.area_index.proofs.trees.raise.Goals as goal

pub returns-in-None-clause-turns : goal.returns-in-None-clause-turns
returns-in-None-clause-turns c l m r rest parts =
    let none = closed c.args.nodes.now.items.items c.args.inner m _ (sym c.in-None.ensures.node) (to_cab parts) in
    let p1 = same_parts c.args.nodes.now c.node.new.self _ c.node.ensures.same parts in
    let p2 = c.link-left.ensures.turns l m (alone c.args.high.at ∷ rooted c.args.right r ∷ rest) p1 in
    let p3 = c.link.ensures.turns (node_of l c.args.low m) r rest (to_ba p2) in
    let e = ap (λ z. raised l c.args.low z c.args.high r) none ∙ raised-empty l c.args.low c.args.high r ∙ ap (λ z. node_of (node_of l c.args.low z) c.args.high r) (sym none) in
    subst (λ z. AreParts c.link.new.self.items.items (rooted c.link.result z ∷ rest)) (sym e) p3

pub returns-in-Some-clause-turns : goal.returns-in-Some-clause-turns
returns-in-Some-clause-turns c l m r rest parts =
    let top = c.in-Some.top in
    let here = entry_at c.args.inner top in
    let o = opened c.args.nodes.now.items.items c.args.inner m top _ (sym c.in-Some.ensures.node) (to_cab parts) in
    let p1 = same_parts c.args.nodes.now c.node.new.self _ c.node.ensures.same o.parts in
    let p2 = c.link-left-in-Some.ensures.turns l o.left _ (to_debac p1) in
    let p3 = c.link-right.ensures.turns o.right r _ (to_dceba p2) in
    let p4 = c.link-in-Some.ensures.turns (node_of l c.args.low o.left) (node_of o.right c.args.high r) rest (to_bca p3) in
    let e = ap (λ z. raised l c.args.low z c.args.high r) o.is ∙ raised-fork l c.args.low o.left here top.height top.bottom o.right c.args.high r in
    subst (λ z. AreParts c.link-in-Some.new.self.items.items (rooted c.link-in-Some.result z ∷ rest)) (sym e) p4
