use Rattle.std.proofs.Common.{rules, ◌∷◌, ◌++◌, Some, length, sym, ap, subst, ◌∙◌}
use Rattle.std.specs.Option.{option_map}
use Rattle.async_handles.specs.OpenCalls.{IsInCellOrder}
use Rattle.async_handles.specs.Tree.{IsSplitAt}
use Rattle.async_handles.proofs.OrderLaws.{order_front, order_right, sides_shorter}
use Rattle.async_handles.proofs.SplitLaws.{split_equal, split_greater, split_less}
use Rattle.async_handles.proofs.tree.Tree.+split.Goals as goal

pub split-parts-requires : goal.split-parts-requires
split-parts-requires t c =
    let top = c.in-Some.top in
    let shorter = sides_shorter top.left top.entry top.right in
    let whole = ap length c.in-Some.ensures.some in
    (search rules, order_front _ _ (subst IsInCellOrder c.in-Some.ensures.some c.requires.order))

pub split-parts-requires-in-Greater : goal.split-parts-requires-in-Greater
split-parts-requires-in-Greater t c =
    let top = c.in-Some.top in
    let shorter = sides_shorter top.left top.entry top.right in
    let whole = ap length c.in-Some.ensures.some in
    (search rules, order_right _ _ _ (subst IsInCellOrder c.in-Some.ensures.some c.requires.order))

pub returns-in-Less : goal.returns-in-Less
returns-in-Less t c =
    let top = c.in-Some.top in
    let parts = c.split-parts.result in
    let found = option_map (λ found. found.0) parts.found in
    let order = subst IsInCellOrder c.in-Some.ensures.some c.requires.order in
    let split = split_less c.args.cell top.left top.entry top.right parts.less found parts.greater order (sym c.cmp.ensures ∙ c.in-Less.is) c.split-parts.ensures in
    let whole = subst (λ calls. IsSplitAt c.args.cell calls parts.less found (parts.greater ++ top.entry ∷ top.right)) (sym c.in-Some.ensures.some) split in
    subst (λ greater. IsSplitAt c.args.cell c.args.self parts.less found greater) (sym c.fork.ensures) whole

pub returns-in-Equal : goal.returns-in-Equal
returns-in-Equal t c =
    let top = c.in-Some.top in
    let order = subst IsInCellOrder c.in-Some.ensures.some c.requires.order in
    let split = split_equal c.args.cell top.left top.entry top.right order (sym c.cmp.ensures ∙ c.in-Equal.is) in
    subst (λ calls. IsSplitAt c.args.cell calls top.left (Some top.entry) top.right) (sym c.in-Some.ensures.some) split

pub returns-in-Greater : goal.returns-in-Greater
returns-in-Greater t c =
    let top = c.in-Some.top in
    let parts = c.split-parts-in-Greater.result in
    let found = option_map (λ found. found.0) parts.found in
    let order = subst IsInCellOrder c.in-Some.ensures.some c.requires.order in
    let split = split_greater c.args.cell top.left top.entry top.right parts.less found parts.greater order (sym c.cmp.ensures ∙ c.in-Greater.is) c.split-parts-in-Greater.ensures in
    let whole = subst (λ calls. IsSplitAt c.args.cell calls (top.left ++ top.entry ∷ parts.less) found parts.greater) (sym c.in-Some.ensures.some) split in
    subst (λ less. IsSplitAt c.args.cell c.args.self less found parts.greater) (sym c.fork-in-Greater.ensures) whole
