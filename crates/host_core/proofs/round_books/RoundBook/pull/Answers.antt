use Rattle.std.proofs.Common.{◌≡◌, false, true, refl, ap, sym, ◌∙◌}
use Rattle.workbook.specs.declared.commands.Command.TheVariants as commands
use Rattle.workbook.specs.declared.replies.Reply.TheVariants as replies
use Rattle.workbook.specs.Pulling.{Early, Manual, is_flagged, pull_due}
use Rattle.host_core.specs.Standing.{terms_with}
use Rattle.host_core.proofs.HostKept.{moment_in_form}
use Rattle.host_core.proofs.HostSteps.{busy_reply, due_reply, nothing_reply, step_aside}
use Rattle.host_core.proofs.round_books.RoundBook.pull.Goals as goal

pub returns-then-self-clause-step : goal.returns-then-self-clause-step
returns-then-self-clause-step g c answer =
    let old = c.args.self.now in
    step_aside g.S.RtdServer.state answer old true (commands.Pull c.args.moment) (replies.Busy old.round) c.if-self.true (λ session limit s noted kept. (busy_reply s old.round kept.runs kept.numbered _, refl))

pub returns-then-not-is_flagged-clause-step : goal.returns-then-not-is_flagged-clause-step
returns-then-not-is_flagged-clause-step g c answer =
    let old = c.args.self.now in
    step_aside g.S.RtdServer.state answer old false (commands.Pull c.args.moment) replies.Nothing c.if-self.false
    (λ session limit s noted kept.
    let none = ap is_flagged (sym kept.rtd.servers) ∙ sym c.is_flagged.ensures ∙ c.if-not-is_flagged.true in
    (nothing_reply (terms_with answer session limit) s kept.runs c.args.moment none, refl))

pub returns-in-Manual-clause-step : goal.returns-in-Manual-clause-step
returns-in-Manual-clause-step g c answer =
    let old = c.args.self.now in
    let moment = c.args.moment in
    step_aside g.S.RtdServer.state answer old false (commands.Pull moment) replies.Manual c.if-self.false
    (λ session limit s noted kept.
    let flagged = ap is_flagged (sym kept.rtd.servers) ∙ sym c.is_flagged.ensures ∙ c.if-not-is_flagged.false in
    let due = ap (λ throttle. pull_due throttle moment) (sym kept.rtd.throttle) ∙ sym c.in-Manual.ensures in
    (due_reply (terms_with answer session limit) s kept.runs moment flagged Manual due, refl))

pub returns-in-Early-clause-step : goal.returns-in-Early-clause-step
returns-in-Early-clause-step g c answer =
    let old = c.args.self.now in
    let moment = c.args.moment in
    step_aside g.S.RtdServer.state answer old false (commands.Pull moment) (replies.Early c.in-Early.wait) c.if-self.false
    (λ session limit s noted kept.
    let flagged = ap is_flagged (sym kept.rtd.servers) ∙ sym c.is_flagged.ensures ∙ c.if-not-is_flagged.false in
    let due = ap (λ throttle. pull_due throttle moment) (sym kept.rtd.throttle) ∙ sym c.in-Early.ensures in
    (due_reply (terms_with answer session limit) s kept.runs moment flagged (Early c.in-Early.wait) due, refl))

pub due-requires : goal.due-requires
due-requires g c = moment_in_form c.args.moment c.requires.form

pub take-requires-clause-form : goal.take-requires-clause-form
take-requires-clause-form g c = c.requires.form

pub take-requires-clause-stands : goal.take-requires-clause-stands
take-requires-clause-stands g c = c.requires.stands

pub take-requires-clause-rests : goal.take-requires-clause-rests
take-requires-clause-rests g c = c.if-self.false

pub take-requires-clause-flagged : goal.take-requires-clause-flagged
take-requires-clause-flagged g c = sym c.is_flagged.ensures ∙ c.if-not-is_flagged.false

pub take-requires-clause-due : goal.take-requires-clause-due
take-requires-clause-due g c = sym c.in-Now.ensures

pub returns-in-Now-clause-step : goal.returns-in-Now-clause-step
returns-in-Now-clause-step g c answer = c.take.ensures.step answer

pub returns-in-Now-clause-refused : goal.returns-in-Now-clause-refused
returns-in-Now-clause-refused g c answer = c.take.ensures.refused answer

pub returns-in-Now-clause-numbers : goal.returns-in-Now-clause-numbers
returns-in-Now-clause-numbers g c = c.take.ensures.numbers

pub returns-then-self-clause-numbers : goal.returns-then-self-clause-numbers
returns-then-self-clause-numbers g c = record { round = refl; room = refl; log = record { entries = refl; room = refl } }

pub returns-then-not-is_flagged-clause-numbers : goal.returns-then-not-is_flagged-clause-numbers
returns-then-not-is_flagged-clause-numbers g c = record { round = refl; room = refl; log = record { entries = refl; room = refl } }

pub returns-in-Manual-clause-numbers : goal.returns-in-Manual-clause-numbers
returns-in-Manual-clause-numbers g c = record { round = refl; room = refl; log = record { entries = refl; room = refl } }

pub returns-in-Early-clause-numbers : goal.returns-in-Early-clause-numbers
returns-in-Early-clause-numbers g c = record { round = refl; room = refl; log = record { entries = refl; room = refl } }
