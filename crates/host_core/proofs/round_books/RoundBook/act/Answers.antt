use Rattle.std.proofs.Common.{◌≡◌, subst}
use Rattle.std.proofs.lemmas.Int.{to_z-of_z}
use Rattle.workbook.specs.declared.commands.Command.TheVariants as commands
use Rattle.workbook.specs.InForm.{IsInForm}
use Rattle.host_core.specs.Standing.{IsStep}
use Rattle.host_core.proofs.HostKept.{interval_fits}
use Rattle.host_core.proofs.round_books.RoundBook.act.Goals as goal
use mir.Syntax.{w64}
use mir.Val.{of_z, to_z}

pub server-requires : goal.server-requires
server-requires g c = record { stands = (g.F.AddIns.answer, c.requires.stands) }

pub pull-requires-clause-stands : goal.pull-requires-clause-stands
pull-requires-clause-stands g c = (g.F.AddIns.answer, c.requires.stands)

pub begin-requires-clause-stands : goal.begin-requires-clause-stands
begin-requires-clause-stands g c = (g.F.AddIns.answer, c.requires.stands)

pub cancel-requires-clause-stands : goal.cancel-requires-clause-stands
cancel-requires-clause-stands g c = (g.F.AddIns.answer, c.requires.stands)

pub returns-in-Notify-clause-step : goal.returns-in-Notify-clause-step
returns-in-Notify-clause-step g c = rw c.in-Notify.is (c.notify.ensures.step g.F.AddIns.answer)

pub returns-in-Cancel-clause-step : goal.returns-in-Cancel-clause-step
returns-in-Cancel-clause-step g c = rw c.in-Cancel.is (c.cancel.ensures.step g.F.AddIns.answer)

pub returns-in-Throttle-clause-step : goal.returns-in-Throttle-clause-step
returns-in-Throttle-clause-step g c =
    let interval = c.in-Throttle.interval in
    let form : IsInForm (commands.Throttle interval) = subst IsInForm c.in-Throttle.is c.requires.form in
    let same : to_z w64 (of_z w64 interval) ≡ interval = to_z-of_z w64 interval (interval_fits interval form) in
    rw c.in-Throttle.is
    (subst (λ i. IsStep g.S.RtdServer.state g.F.AddIns.answer c.args.self.now c.throttle.new.self (commands.Throttle i) c.throttle.result) same (c.throttle.ensures.step g.F.AddIns.answer))
