use Rattle.std.proofs.Common.{◌≡◌, ◌+◌, false, length, refl, sym, ap, subst, ◌∙◌, arith, vec_len}
use Rattle.async_handles.specs.declared.open_calls.OpenCall.{OpenCall}
use Rattle.async_handles.specs.OpenCalls.{AreOpenCalls, handle_of, with_call}
use Rattle.async_handles.proofs.OpenLaws.{length_with, no_call, open_with}
use Rattle.async_handles.proofs.handles.Handles.issue.Goals as goal

pub invariant_of-self : goal.invariant_of-self
invariant_of-self c =
    let inside = c.self.inside in
    let new : OpenCall = record {
      call = record {
        handle = record { session = inside.session; round = c.args.round; cell = c.args.cell; site = c.args.site };
        name = c.args.name;
        args = c.args.args;
      };
      is_served = false;
    } in
    let is : c.with.result ≡ with_call inside.calls new = c.with.ensures ∙ ap (λ v. with_call v new) c.replace-calls.ensures.value in
    let free = no_call inside.calls c.args.cell (ap (λ s. handle_of s.calls c.args.cell) c.self.view_is ∙ c.requires.free) in
    let are = open_with inside.session (vec_len inside.places) (vec_len c.pop.new.self) inside.calls new c.self.invariant.0 refl free in
    let longer : length c.with.result ≡ length inside.calls + 1 = ap length is ∙ length_with inside.calls new in (
      subst (λ v. AreOpenCalls (record { session = inside.session; calls = v; spare = vec_len c.pop.new.self })) (sym is) are,
      omega (arith, c.self.invariant.1),
      omega (arith, c.self.invariant.2, c.in-Some.ensures.cases, c.in-Some.ensures.capacity),
    )

pub returns-clause-are_open : goal.returns-clause-are_open
returns-clause-are_open c = (invariant_of-self c).0
