use Rattle.std.proofs.Common.{◌≡◌, ◌≤◌, ◌+◌, ◌-◌, arith, false, true, refl, ap, sym, subst, ◌∙◌}
use Rattle.calc_events.specs.Listening.{Listening}
use Rattle.calc_events.specs.Listening as heard
use Rattle.cell_values.specs.declared.events.Event.TheVariants as events
use Rattle.workbook.specs.State.{setting_of}
use Rattle.workbook.specs.declared.commands.Command.TheVariants as commands
use Rattle.workbook.specs.declared.replies.Reply.TheVariants as replies
use Rattle.host_core.specs.HostKeeping.{calc_of}
use Rattle.host_core.specs.Standing.{terms_with}
use Rattle.host_core.proofs.HostKept.{fired_as, is_round, kept-cancelled}
use Rattle.host_core.proofs.HostSteps.{idle_reply, kept_at, run_reply, step_aside, step_of}
use Rattle.host_core.proofs.round_books.RoundBook.cancel.Goals as goal

pub cancel_round-requires : goal.cancel_round-requires
cancel_round-requires g c =
    let old = c.args.self.now in
    let q = c.requires.stands in
    let t = terms_with q.0 q.1.0 q.1.1 in
    let kept = kept_at g.S.RtdServer.state q.0 t old q.1.2 true c.if-not-self.false q.1.3 in
    is_round t old.calc _ old.events old.log old.round q.1.2 q.1.3.noted kept

pub returns-then-not-self-clause-step : goal.returns-then-not-self-clause-step
returns-then-not-self-clause-step g c answer =
    let old = c.args.self.now in
    step_aside g.S.RtdServer.state answer old false commands.Cancel replies.Idle c.if-not-self.true (λ session limit s noted kept. (idle_reply s kept.runs _, refl))

pub returns-clause-step : goal.returns-clause-step
returns-clause-step g c answer =
    let old = c.args.self.now in
    let rtd = c.cancel_round.ensures in
    step_of g.S.RtdServer.state answer old (record old { calc = c.cancel.new.self; rtd = c.cancel_round.new.self; events = c.fire.new.self; running = false }) true false
    commands.Cancel (replies.Cancelled old.round) c.if-not-self.false refl
    (λ session limit s noted kept.
    let t = terms_with answer session limit in record {
      noted = noted;
      said = ap replies.Cancelled (sym kept.numbered) ∙ run_reply s kept.runs _;
      kept = λ clean. kept-cancelled t old.calc _ old.events old.log old.round s noted kept c.cancel.new.self _ c.fire.new.self clean
          (c.cancel.ensures (setting_of t s) old.round (calc_of t s noted) kept.book) rtd.servers rtd.published rtd.throttle rtd.taken rtd.opening rtd.readers rtd.round
          (fired_as s.listeners old.events c.fire.new.self (events.Cancelled s.round) kept.listeners (c.fire.ensures ∙ ap (λ n. record { listeners = heard.listeners_with old.events.listeners (events.Cancelled n); room = old.events.room - 1 }) (sym kept.numbered)));
    })

pub returns-then-not-self-clause-numbers : goal.returns-then-not-self-clause-numbers
returns-then-not-self-clause-numbers g c = record { round = omega arith; room = omega arith; log = record { entries = refl; room = refl } }

pub fire-requires : goal.fire-requires
fire-requires g c = c.requires.room

pub returns-clause-numbers : goal.returns-clause-numbers
returns-clause-numbers g c =
    let fired = ap (λ (all : Listening). all.room) c.fire.ensures in
    record { round = omega arith; room = omega (arith, fired, c.requires.room); log = record { entries = refl; room = refl } }
