use Rattle.std.proofs.Common.{◌∷◌, ◌++◌, sym, ap, ◌∙◌}
use Rattle.async_handles.specs.OpenCalls.{calls_after_serving}
use Rattle.async_handles.proofs.ServingLaws.{serving_behind, serving_front, serving_here}
use Rattle.async_handles.proofs.tree.Tree.+after_serving.Goals as goal

pub returns-then-waits : goal.returns-then-waits
returns-then-waits t c =
    let top = c.in-Some.top in
    c.fork.ensures
    ∙ ap (λ v. v ++ top.entry ∷ top.right) c.after_serving.ensures
    ∙ sym (ap calls_after_serving c.in-Some.ensures.some ∙ serving_front top.left (top.entry ∷ top.right) (sym c.waits.ensures ∙ c.if-waits.true))

pub returns-then-not-top : goal.returns-then-not-top
returns-then-not-top t c =
    let top = c.in-Some.top in
    c.fork-then-not-top.ensures
    ∙ ap (λ e. top.left ++ e ∷ top.right) c.served.ensures
    ∙ sym (ap calls_after_serving c.in-Some.ensures.some ∙ serving_here top.left top.entry top.right (sym c.waits.ensures ∙ c.if-waits.false) c.if-not-top.true)

pub returns-else-not-top : goal.returns-else-not-top
returns-else-not-top t c =
    let top = c.in-Some.top in
    c.fork-else-not-top.ensures
    ∙ ap (λ v. top.left ++ top.entry ∷ v) c.after_serving-else-not-top.ensures
    ∙ sym (ap calls_after_serving c.in-Some.ensures.some ∙ serving_behind top.left top.entry top.right (sym c.waits.ensures ∙ c.if-waits.false) c.if-not-top.false)
