use Rattle.std.proofs.Common.{◌≡◌, ◌+◌, true, is_some, length, sym, ap, subst, ◌∙◌, arith, vec_len}
use Rattle.async_handles.specs.OpenCalls.{AreOpenCalls, OpenCalls, call_at, calls_without}
use Rattle.async_handles.proofs.OpenLaws.{length_without, open_without}
use Rattle.async_handles.proofs.handles.Handles.end.Goals as goal

pub invariant_of-self : goal.invariant_of-self
invariant_of-self c =
    let inside = c.self.inside in
    let is : c.without-calls.result.0 ≡ calls_without inside.calls c.args.cell = c.without-calls.ensures.calls ∙ ap (λ v. calls_without v c.args.cell) c.replace-calls.ensures.value in
    let are = open_without inside.session (vec_len inside.places) (vec_len c.push_reserved.new.self) inside.calls c.args.cell c.self.invariant.0 in
    let found : is_some (call_at inside.calls c.args.cell) ≡ true = ap (λ (s : OpenCalls). is_some (call_at s.calls c.args.cell)) c.self.view_is ∙ c.requires in
    let shorter : length c.without-calls.result.0 + 1 ≡ length inside.calls = ap (λ v. length v + 1) is ∙ length_without inside.calls c.args.cell c.self.invariant.0.order found in (
      subst (λ v. AreOpenCalls (record { session = inside.session; calls = v; spare = vec_len c.push_reserved.new.self })) (sym is) are,
      omega (arith, c.self.invariant.1),
      omega (arith, c.self.invariant.1, c.self.invariant.2, c.push_reserved.ensures.len, c.push_reserved.ensures.capacity),
    )

pub returns-clause-are_open : goal.returns-clause-are_open
returns-clause-are_open c = (invariant_of-self c).0
