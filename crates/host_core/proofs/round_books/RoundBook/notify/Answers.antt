use Rattle.std.proofs.Common.{◌≡◌, cond, false, true, refl, ap, sym, ◌∙◌}
use Rattle.workbook.specs.declared.commands.Command.TheVariants as commands
use Rattle.workbook.specs.declared.replies.Reply.TheVariants as replies
use Rattle.workbook.specs.State.{KnownServer}
use Rattle.workbook.specs.Step.{servers_with_flag}
use Rattle.host_core.specs.HostKeeping.{is_known}
use Rattle.host_core.specs.Standing.{terms_with}
use Rattle.host_core.proofs.HostKept.{kept-flagged, kept-same_rtd}
use Rattle.host_core.proofs.HostSteps.{step_of, unknown_flag}
use Rattle.host_core.proofs.round_books.RoundBook.notify.Goals as goal

pub returns-then-notify-clause-step : goal.returns-then-notify-clause-step
returns-then-notify-clause-step g c answer =
    let old = c.args.self.now in
    let name = c.args.name.now in
    let rtd = c.notify.ensures in
    step_of g.S.RtdServer.state answer old (record old { rtd = c.notify.new.self }) old.running old.running (commands.Notify name) replies.Ok refl refl
    (λ session limit s noted kept.
    let known = ap (λ servers. is_known servers name) (sym kept.rtd.servers) ∙ sym rtd.known ∙ c.if-notify.true in record {
      noted = noted;
      said = sym (ap (λ b. cond b replies.Ok replies.NoServer) known);
      kept = λ clean. kept-flagged (terms_with answer session limit) old.calc _ old.events old.log old.round s noted old.running kept _ name clean rtd.servers rtd.published rtd.throttle rtd.topics;
    })

pub returns-else-notify-clause-step : goal.returns-else-notify-clause-step
returns-else-notify-clause-step g c answer =
    let old = c.args.self.now in
    let name = c.args.name.now in
    let rtd = c.notify.ensures in
    let unknown-here = sym rtd.known ∙ c.if-notify.false in
    step_of g.S.RtdServer.state answer old (record old { rtd = c.notify.new.self }) old.running old.running (commands.Notify name) replies.NoServer refl refl
    (λ session limit s noted kept.
    let known = ap (λ servers. is_known servers name) (sym kept.rtd.servers) ∙ unknown-here in record {
      noted = noted;
      said = sym (ap (λ b. cond b replies.Ok replies.NoServer) known);
      kept = λ clean. kept-same_rtd (terms_with answer session limit) old.calc _ old.events old.log old.round s noted old.running kept _ (rtd.servers ∙ unknown_flag _ name unknown-here) rtd.published rtd.throttle rtd.topics;
    })

pub returns-then-notify-clause-numbers : goal.returns-then-notify-clause-numbers
returns-then-notify-clause-numbers g c = record { round = refl; room = refl; log = record { entries = refl; room = refl } }

pub returns-else-notify-clause-numbers : goal.returns-else-notify-clause-numbers
returns-else-notify-clause-numbers g c = record { round = refl; room = refl; log = record { entries = refl; room = refl } }
