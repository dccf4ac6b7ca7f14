use Rattle.std.proofs.Common.{◌≡◌, ◌<◌, ◌≤◌, arith, Bool, [], false, true, refl, ap, sym, ◌∙◌}
use Rattle.std.specs.List.{list_any}
use Rattle.addin_types.specs.declared.calls.Call.{Call}
use Rattle.cell_refs.specs.Handle.{same_handle}
use Rattle.workbook.specs.State.{setting_of}
use Rattle.host_core.specs.HostKeeping.{calc_of}
use Rattle.host_core.specs.Standing.{terms_with}
use Rattle.host_core.proofs.HostKept.{kept-logged}
use Rattle.host_core.proofs.HostSteps.{asked_open, kept_at, none_open, states_of}
use Rattle.host_core.proofs.round_books.RoundBook.asks_for.Goals as goal

pub work_out-requires-clause-runs : goal.work_out-requires-clause-runs
work_out-requires-clause-runs g c = c.if-not-self.false

pub work_out-requires-clause-stands : goal.work_out-requires-clause-stands
work_out-requires-clause-stands g c = c.requires.stands

pub returns-then-not-self-clause-told : goal.returns-then-not-self-clause-told
returns-then-not-self-clause-told g c session limit s stands =
    let t = terms_with g.F.AddIns.answer session limit in
    let kept = kept_at g.S.RtdServer.state g.F.AddIns.answer t c.args.self.now s false c.if-not-self.true stands in
    ap (list_any (λ (call : Call). same_handle c.args.handle.now call.handle)) (sym (none_open t s kept.runs))

pub returns-then-not-self-clause-asked : goal.returns-then-not-self-clause-asked
returns-then-not-self-clause-asked g c is = absurd (cc (is))

pub returns-then-not-self-clause-kept : goal.returns-then-not-self-clause-kept
returns-then-not-self-clause-kept g c session limit s stands = stands

pub returns-then-not-self-clause-numbers : goal.returns-then-not-self-clause-numbers
returns-then-not-self-clause-numbers g c = record { round = refl; room = refl; log = record { entries = refl; room = refl } }

pub returns-in-Ok-reserve-clause-told : goal.returns-in-Ok-reserve-clause-told
returns-in-Ok-reserve-clause-told g c session limit s stands =
    let t = terms_with g.F.AddIns.answer session limit in
    let mid = c.work_out.new.self in
    let settled = c.in-Ok.ensures.settled session limit s stands in
    let kept = settled.kept in
    c.is_open.ensures.asked t (setting_of t s) mid.round (calc_of t s settled.noted) refl settled.settled
    ∙ ap (list_any (λ (call : Call). same_handle c.args.handle.now call.handle)) (asked_open t s mid.round settled.noted kept.runs kept.numbered kept.changed)

pub returns-in-Ok-reserve-clause-asked : goal.returns-in-Ok-reserve-clause-asked
returns-in-Ok-reserve-clause-asked g c is =
    let spare = c.in-Ok-reserve.ensures.spare in record {
      runs = c.work_out.ensures.runs;
      spare = omega (arith, spare);
      live = sym c.is_open.ensures.live ∙ is;
    }

pub returns-in-Ok-reserve-clause-kept : goal.returns-in-Ok-reserve-clause-kept
returns-in-Ok-reserve-clause-kept g c session limit s stands =
    let mid = c.work_out.new.self in
    states_of g.S.RtdServer.state g.F.AddIns.answer mid (record mid { log = c.reserve.new.self }) mid.running refl refl refl
    (λ session limit s noted kept. kept-logged (terms_with g.F.AddIns.answer session limit) mid.calc _ mid.events mid.log mid.round s noted mid.running kept c.reserve.new.self c.reserve.ensures.results)
    session limit s (c.work_out.ensures.kept session limit s stands)

pub returns-in-Ok-reserve-clause-numbers : goal.returns-in-Ok-reserve-clause-numbers
returns-in-Ok-reserve-clause-numbers g c =
    let n = c.work_out.ensures.numbers in
    record { round = n.round; room = n.room; log = record { entries = c.reserve.ensures.entries ∙ n.log.entries; room = c.reserve.ensures.room ∙ n.log.room } }

pub returns-in-Err-reserve-clause-kept : goal.returns-in-Err-reserve-clause-kept
returns-in-Err-reserve-clause-kept g c session limit s stands =
    let mid = c.work_out.new.self in
    states_of g.S.RtdServer.state g.F.AddIns.answer mid (record mid { log = c.reserve.new.self }) mid.running refl refl refl
    (λ session limit s noted kept. kept-logged (terms_with g.F.AddIns.answer session limit) mid.calc _ mid.events mid.log mid.round s noted mid.running kept c.reserve.new.self c.reserve.ensures.results)
    session limit s (c.work_out.ensures.kept session limit s stands)

pub returns-in-Err-reserve-clause-numbers : goal.returns-in-Err-reserve-clause-numbers
returns-in-Err-reserve-clause-numbers g c =
    let n = c.work_out.ensures.numbers in
    record { round = n.round; room = n.room; log = record { entries = c.reserve.ensures.entries ∙ n.log.entries; room = c.reserve.ensures.room ∙ n.log.room } }

pub returns-in-Err-clause-kept : goal.returns-in-Err-clause-kept
returns-in-Err-clause-kept g c = c.work_out.ensures.kept

pub returns-in-Err-clause-numbers : goal.returns-in-Err-clause-numbers
returns-in-Err-clause-numbers g c = c.work_out.ensures.numbers
