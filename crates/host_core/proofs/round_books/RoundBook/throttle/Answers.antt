use Rattle.std.proofs.Common.{◌≡◌, ℤ, [], false, true, refl, ap, ◌∙◌}
use Rattle.rtd_topics.specs.Parts.{rtd_of}
use Rattle.std.proofs.lemmas.Int.{to_z-of_z}
use Rattle.workbook.specs.declared.commands.Command.TheVariants as commands
use mir.Syntax.{w64}
use mir.Val.{of_z, to_z}
use Rattle.workbook.specs.declared.replies.Reply.TheVariants as replies
use Rattle.workbook.specs.State.{ThrottleState}
use Rattle.host_core.specs.Standing.{terms_with}
use Rattle.host_core.proofs.HostKept.{kept-paced}
use Rattle.host_core.proofs.HostSteps.{busy_reply, free_reply, step_aside, step_of}
use Rattle.host_core.proofs.round_books.RoundBook.throttle.Goals as goal

pub returns-then-self-clause-step : goal.returns-then-self-clause-step
returns-then-self-clause-step g c answer =
    let old = c.args.self.now in
    step_aside g.S.RtdServer.state answer old true (commands.Throttle c.args.interval) (replies.Busy old.round) c.if-self.true (λ session limit s noted kept. (busy_reply s old.round kept.runs kept.numbered _, refl))

pub returns-clause-step : goal.returns-clause-step
returns-clause-step g c answer =
    let old = c.args.self.now in
    let rtd = c.set_throttle.ensures in
    let same : to_z w64 (of_z w64 c.args.interval) ≡ c.args.interval = to_z-of_z w64 c.args.interval c.ranges.interval in
    let paced : ThrottleState → ThrottleState = λ throttle. record throttle { interval = c.args.interval } in
    let bits : ℤ → ThrottleState = λ ms. record (rtd_of g.S.RtdServer.state old.rtd).throttle { interval = ms } in
    step_of g.S.RtdServer.state answer old (record old { rtd = c.set_throttle.new.self }) false false (commands.Throttle c.args.interval) replies.Ok c.if-self.false c.if-self.false
    (λ session limit s noted kept. record {
      noted = noted;
      said = free_reply s kept.runs _;
      kept = λ clean. kept-paced (terms_with answer session limit) old.calc _ old.events old.log old.round s noted kept old.calc _ s.servers (record s.throttle { interval = c.args.interval }) [] clean kept.book
          (rtd.servers ∙ kept.rtd.servers) rtd.published (rtd.throttle ∙ ap bits same ∙ ap paced kept.rtd.throttle) rtd.topics;
    })

pub returns-then-self-clause-numbers : goal.returns-then-self-clause-numbers
returns-then-self-clause-numbers g c = record { round = refl; room = refl; log = record { entries = refl; room = refl } }

pub returns-clause-numbers : goal.returns-clause-numbers
returns-clause-numbers g c = record { round = refl; room = refl; log = record { entries = refl; room = refl } }
