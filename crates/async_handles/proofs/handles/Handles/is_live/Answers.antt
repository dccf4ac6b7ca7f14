use Rattle.std.proofs.Common.{sym, ap, ◌∙◌}
use Rattle.async_handles.proofs.OpenLaws.{is_its, live_is}
use Rattle.async_handles.proofs.handles.Handles.is_live.Goals as goal

pub returns-in-Some-clause-live : goal.returns-in-Some-clause-live
returns-in-Some-clause-live c =
    let now = c.args.self.now in
    let h = c.args.h.now in
    c.eq.ensures ∙ sym (live_is now.calls h c.in-Some.ensures.are_open.order ∙ ap (λ o. is_its o h) (sym c.in-Some.ensures.handle))

pub returns-in-None-clause-live : goal.returns-in-None-clause-live
returns-in-None-clause-live c =
    let now = c.args.self.now in
    let h = c.args.h.now in
    sym (live_is now.calls h c.in-None.ensures.are_open.order ∙ ap (λ o. is_its o h) (sym c.in-None.ensures.handle))
