use Rattle.std.proofs.Common.{rules, length, sym, ap, subst, ◌∙◌}
use Rattle.async_handles.specs.OpenCalls.{IsInCellOrder, call_at}
use Rattle.async_handles.specs.Tree.{calls_of}
use Rattle.async_handles.proofs.OrderLaws.{call_at-equal, call_at-greater, call_at-less, order_front, order_right, sides_shorter}
use Rattle.async_handles.proofs.tree.Tree.+get.Goals as goal

pub get-requires : goal.get-requires
get-requires t c =
    let is = sym c.self.view_is ∙ ap calls_of c.in-Fork.is in
    let order = subst IsInCellOrder is c.requires.order in
    let shorter = sides_shorter c.in-Fork.sides.value.0 c.in-Fork.entry c.in-Fork.sides.value.1 in
    let whole = ap length is in
    let part = ap (λ v. length v.0) c.deref.ensures in
    (search rules, subst (λ v. IsInCellOrder v.0) (sym c.deref.ensures) (order_front _ _ order))

pub get-requires-in-Greater : goal.get-requires-in-Greater
get-requires-in-Greater t c =
    let is = sym c.self.view_is ∙ ap calls_of c.in-Fork.is in
    let order = subst IsInCellOrder is c.requires.order in
    let shorter = sides_shorter c.in-Fork.sides.value.0 c.in-Fork.entry c.in-Fork.sides.value.1 in
    let whole = ap length is in
    let part = ap (λ v. length v.1) c.deref-in-Greater.ensures in
    (search rules, subst (λ v. IsInCellOrder v.1) (sym c.deref-in-Greater.ensures) (order_right _ _ _ order))

pub returns-in-Less : goal.returns-in-Less
returns-in-Less t c =
    let is = sym c.self.view_is ∙ ap calls_of c.in-Fork.is in
    let order = subst IsInCellOrder is c.requires.order in
    c.get.ensures
    ∙ ap (λ v. call_at v.0 c.args.cell) c.deref.ensures
    ∙ sym (ap (λ v. call_at v c.args.cell) is ∙ call_at-less _ _ _ _ order (sym c.cmp.ensures ∙ c.in-Less.is))

pub returns-in-Equal : goal.returns-in-Equal
returns-in-Equal t c =
    let is = sym c.self.view_is ∙ ap calls_of c.in-Fork.is in
    let order = subst IsInCellOrder is c.requires.order in
    sym (ap (λ v. call_at v c.args.cell) is ∙ call_at-equal _ _ _ _ order (sym c.cmp.ensures ∙ c.in-Equal.is))

pub returns-in-Greater : goal.returns-in-Greater
returns-in-Greater t c =
    let is = sym c.self.view_is ∙ ap calls_of c.in-Fork.is in
    let order = subst IsInCellOrder is c.requires.order in
    c.get-in-Greater.ensures
    ∙ ap (λ v. call_at v.1 c.args.cell) c.deref-in-Greater.ensures
    ∙ sym (ap (λ v. call_at v c.args.cell) is ∙ call_at-greater _ _ _ _ order (sym c.cmp.ensures ∙ c.in-Greater.is))
