use Rattle.std.proofs.Common.{◌≡◌, ◌≤◌, ◌+◌, arith, Result, Ok, Err, IfOk, OnOk, OnErr, false, true, refl, sym, subst, ◌∙◌}
use Rattle.workbook.specs.declared.commands.Command.TheVariants as commands
use Rattle.workbook.specs.declared.replies.Reply.TheVariants as replies
use Rattle.host_core.proofs.Ending.{ended_refused, ended_same, ended_step, ended_moves, some_after}
use Rattle.host_core.proofs.HostSteps.{idle_reply, step_aside}
use Rattle.host_core.proofs.round_books.RoundBook.settle.Goals as goal

pub work_out-requires-clause-runs : goal.work_out-requires-clause-runs
work_out-requires-clause-runs g c = c.if-not-self.false

pub work_out-requires-clause-stands : goal.work_out-requires-clause-stands
work_out-requires-clause-stands g c = c.requires.stands

pub end-requires-clause-room : goal.end-requires-clause-room
end-requires-clause-room g c =
    let room = c.work_out.ensures.numbers.room in
    omega (arith, room, c.requires.room)

pub end-requires-clause-runs : goal.end-requires-clause-runs
end-requires-clause-runs g c = c.work_out.ensures.runs

pub end-requires-clause-stands : goal.end-requires-clause-stands
end-requires-clause-stands g c = some_after g.S.RtdServer.state g.F.AddIns.answer c.args.self.now c.work_out.new.self c.work_out.ensures.kept c.requires.stands

pub returns-then-not-self-clause-step : goal.returns-then-not-self-clause-step
returns-then-not-self-clause-step g c =
    let old = c.args.self.now in
    step_aside g.S.RtdServer.state g.F.AddIns.answer old false commands.Settle replies.Idle c.if-not-self.true (λ session limit s noted kept. (idle_reply s kept.runs _, refl))

pub returns-in-Ok-clause-step : goal.returns-in-Ok-clause-step
returns-in-Ok-clause-step g c =
    ended_step g.S.RtdServer.state g.F.AddIns.answer c.args.self.now c.work_out.new.self c.end.new.self c.in-Ok.ensures.settled c.end.result commands.Settle (c.end.ensures.step g.F.AddIns.answer)

pub returns-in-Ok-clause-refused : goal.returns-in-Ok-clause-refused
returns-in-Ok-clause-refused g c =
    ended_refused g.S.RtdServer.state g.F.AddIns.answer c.args.self.now c.work_out.new.self c.end.new.self c.work_out.ensures.kept c.end.result (c.end.ensures.refused g.F.AddIns.answer)

pub returns-in-Ok-clause-numbers : goal.returns-in-Ok-clause-numbers
returns-in-Ok-clause-numbers g c = ended_moves c.args.self.now c.work_out.new.self c.end.new.self c.work_out.ensures.numbers c.end.result c.end.ensures.numbers

pub returns-in-Ok-clause-same_numbers : goal.returns-in-Ok-clause-same_numbers
returns-in-Ok-clause-same_numbers g c = ended_same c.args.self.now c.work_out.new.self c.end.new.self c.work_out.ensures.numbers c.end.result c.end.ensures.same_numbers

pub returns-in-Err-clause-refused : goal.returns-in-Err-clause-refused
returns-in-Err-clause-refused g c = c.work_out.ensures.kept

pub returns-in-Err-clause-same_numbers : goal.returns-in-Err-clause-same_numbers
returns-in-Err-clause-same_numbers g c = c.work_out.ensures.numbers

pub returns-then-not-self-clause-numbers : goal.returns-then-not-self-clause-numbers
returns-then-not-self-clause-numbers g c = record { round = omega arith; room = omega arith; log = record { entries = refl; room = refl } }
