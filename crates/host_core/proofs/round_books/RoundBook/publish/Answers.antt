use Rattle.std.proofs.Common.{◌≡◌, cond, false, true, refl, ap, sym, ◌∙◌}
use Rattle.workbook.specs.declared.commands.Command.TheVariants as commands
use Rattle.workbook.specs.declared.replies.Reply.TheVariants as replies
use Rattle.workbook.specs.Step.{topics_with}
use Rattle.host_core.specs.HostKeeping.{is_known}
use Rattle.host_core.specs.Standing.{terms_with}
use Rattle.host_core.proofs.HostKept.{kept-published, kept-same_rtd}
use Rattle.host_core.proofs.HostSteps.{states_of, step_of}
use Rattle.host_core.proofs.round_books.RoundBook.publish.Goals as goal

pub returns-in-Ok-true-clause-step : goal.returns-in-Ok-true-clause-step
returns-in-Ok-true-clause-step g c answer =
    let old = c.args.self.now in
    let server = c.args.server.now in
    let strings = c.args.strings.now in
    let rtd = c.in-Ok-true.ensures in
    step_of g.S.RtdServer.state answer old (record old { rtd = c.publish.new.self }) old.running old.running (commands.Publish server strings c.args.value) replies.Ok refl refl
    (λ session limit s noted kept.
    let known = ap (λ servers. is_known servers server) (sym kept.rtd.servers) ∙ sym rtd.known ∙ c.in-Ok-true.field-0-test in record {
      noted = noted;
      said = sym (ap (λ b. cond b replies.Ok replies.NoServer) known);
      kept = λ clean. kept-published (terms_with answer session limit) old.calc _ old.events old.log old.round s noted old.running kept _ (record { server = server; strings = strings }) c.args.value clean
          rtd.servers (rtd.published c.in-Ok-true.field-0-test) rtd.throttle rtd.topics;
    })

pub returns-in-Ok-false-clause-step : goal.returns-in-Ok-false-clause-step
returns-in-Ok-false-clause-step g c answer =
    let old = c.args.self.now in
    let server = c.args.server.now in
    let strings = c.args.strings.now in
    let rtd = c.in-Ok-false.ensures in
    step_of g.S.RtdServer.state answer old (record old { rtd = c.publish.new.self }) old.running old.running (commands.Publish server strings c.args.value) replies.NoServer refl refl
    (λ session limit s noted kept.
    let known = ap (λ servers. is_known servers server) (sym kept.rtd.servers) ∙ sym rtd.known ∙ c.in-Ok-false.field-0-test in record {
      noted = noted;
      said = sym (ap (λ b. cond b replies.Ok replies.NoServer) known);
      kept = λ clean. kept-same_rtd (terms_with answer session limit) old.calc _ old.events old.log old.round s noted old.running kept _ rtd.servers (rtd.unknown c.in-Ok-false.field-0-test) rtd.throttle rtd.topics;
    })

pub returns-in-Err-clause-refused : goal.returns-in-Err-clause-refused
returns-in-Err-clause-refused g c answer =
    let old = c.args.self.now in
    let rtd = c.in-Err.ensures in
    states_of g.S.RtdServer.state answer old (record old { rtd = c.publish.new.self }) old.running refl refl refl
    (λ session limit s noted kept. kept-same_rtd (terms_with answer session limit) old.calc _ old.events old.log old.round s noted old.running kept _ rtd.servers rtd.refused rtd.throttle rtd.topics)

pub returns-in-Ok-true-clause-numbers : goal.returns-in-Ok-true-clause-numbers
returns-in-Ok-true-clause-numbers g c = record { round = refl; room = refl; log = record { entries = refl; room = refl } }

pub returns-in-Ok-false-clause-numbers : goal.returns-in-Ok-false-clause-numbers
returns-in-Ok-false-clause-numbers g c = record { round = refl; room = refl; log = record { entries = refl; room = refl } }

pub returns-in-Err-clause-numbers : goal.returns-in-Err-clause-numbers
returns-in-Err-clause-numbers g c = record { round = refl; room = refl; log = record { entries = refl; room = refl } }
