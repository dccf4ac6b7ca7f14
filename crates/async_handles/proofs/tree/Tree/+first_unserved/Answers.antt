use Rattle.std.proofs.Common.{◌∷◌, ◌++◌, sym, ap, subst, ◌∙◌}
use Rattle.async_handles.specs.OpenCalls.{first_unserved}
use Rattle.async_handles.specs.Tree.{HasRightMark, any_unserved, calls_of}
use Rattle.async_handles.proofs.ServingLaws.{first_behind, first_front, first_here, first_none}
use Rattle.async_handles.proofs.tree.Tree.+first_unserved.Goals as goal

pub returns-then-not-waits : goal.returns-then-not-waits
returns-then-not-waits t c =
    let sides = c.in-Fork.sides.value in
    let is = sym c.self.view_is ∙ ap calls_of c.in-Fork.is in
    let mark = subst HasRightMark c.in-Fork.is c.self.invariant in
    sym (ap first_unserved is ∙ first_none (sides.0 ++ c.in-Fork.entry ∷ sides.1) (sym mark ∙ c.if-not-waits.true))

pub returns-then-waits : goal.returns-then-waits
returns-then-waits t c =
    let sides = c.in-Fork.sides.value in
    let is = sym c.self.view_is ∙ ap calls_of c.in-Fork.is in
    let waits = sym (ap (λ v. any_unserved v.0) c.deref.ensures) ∙ sym c.waits.ensures ∙ c.if-waits.true in
    c.first_unserved.ensures
    ∙ ap (λ v. first_unserved v.0) c.deref-then-waits.ensures
    ∙ sym (ap first_unserved is ∙ first_front sides.0 (c.in-Fork.entry ∷ sides.1) waits)

pub returns-then-not-entry : goal.returns-then-not-entry
returns-then-not-entry t c =
    let sides = c.in-Fork.sides.value in
    let is = sym c.self.view_is ∙ ap calls_of c.in-Fork.is in
    let waits = sym (ap (λ v. any_unserved v.0) c.deref.ensures) ∙ sym c.waits.ensures ∙ c.if-waits.false in
    sym (ap first_unserved is ∙ first_here sides.0 c.in-Fork.entry sides.1 waits c.if-not-entry.true)

pub returns-else-not-entry : goal.returns-else-not-entry
returns-else-not-entry t c =
    let sides = c.in-Fork.sides.value in
    let is = sym c.self.view_is ∙ ap calls_of c.in-Fork.is in
    let waits = sym (ap (λ v. any_unserved v.0) c.deref.ensures) ∙ sym c.waits.ensures ∙ c.if-waits.false in
    c.first_unserved-else-not-entry.ensures
    ∙ ap (λ v. first_unserved v.1) c.deref-else-not-entry.ensures
    ∙ sym (ap first_unserved is ∙ first_behind sides.0 c.in-Fork.entry sides.1 waits c.if-not-entry.false)
