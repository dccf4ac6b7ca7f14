use Rattle.std.proofs.Common.{◌≡◌, length, sym, ap, subst, ◌∙◌, arith, vec_len}
use Rattle.async_handles.specs.OpenCalls.{AreOpenCalls, OpenCalls, calls_after_serving, first_unserved}
use Rattle.async_handles.proofs.OpenLaws.{length_serving, open_serving, serving_none}
use Rattle.async_handles.proofs.handles.Handles.next_unserved.Goals as goal

pub returns-in_default-clause-served : goal.returns-in_default-clause-served
returns-in_default-clause-served c =
    let now = c.args.self.now in
    let none = ap (λ (s : OpenCalls). first_unserved s.calls) (sym c.self.view_is) ∙ sym c.in_default.ensures in
    ap (λ v. record { session = now.session; calls = v; spare = now.spare }) (sym (serving_none now.calls none))

pub invariant_of-self : goal.invariant_of-self
invariant_of-self c =
    let inside = c.self.inside in
    let is : c.after_serving.result ≡ calls_after_serving inside.calls = c.after_serving.ensures ∙ ap calls_after_serving c.replace-calls.ensures.value in
    let are = open_serving inside.session (vec_len inside.places) (vec_len inside.places) inside.calls c.self.invariant.0 in
    let as_long : length c.after_serving.result ≡ length inside.calls = ap length is ∙ length_serving inside.calls in (
      subst (λ v. AreOpenCalls (record { session = inside.session; calls = v; spare = vec_len inside.places })) (sym is) are,
      omega arith,
      omega arith,
    )

pub returns-clause-are_open : goal.returns-clause-are_open
returns-clause-are_open c = (invariant_of-self c).0
