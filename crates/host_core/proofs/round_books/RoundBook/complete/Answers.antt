use Rattle.std.proofs.Common.{◌≡◌, ◌≤◌, ◌+◌, ◌-◌, arith, [], false, true, refl, ap, sym, ◌∙◌}
use Rattle.calc_events.specs.Listening.{Listening}
use Rattle.calc_events.specs.Listening as heard
use Rattle.cell_values.specs.declared.events.Event.TheVariants as events
use Rattle.workbook.specs.State.{setting_of}
use Rattle.workbook.specs.declared.commands.Command.TheVariants as commands
use Rattle.workbook.specs.declared.replies.Reply.TheVariants as replies
use Rattle.workbook.specs.Step.{reply_to_settle}
use Rattle.host_core.specs.HostKeeping.{calc_of}
use Rattle.host_core.specs.Standing.{terms_with}
use Rattle.host_core.proofs.HostKept.{fired_as, is_round, kept-done}
use Rattle.host_core.proofs.HostSteps.{kept_at, run_reply, settled_step_of}
use Rattle.host_core.proofs.TopicRounds.{counted_stale}
use Rattle.host_core.proofs.round_books.RoundBook.complete.Goals as goal

pub complete_round-requires : goal.complete_round-requires
complete_round-requires g c =
    let old = c.args.self.now in
    let q = c.requires.stands in
    let t = terms_with q.0 q.1.0 q.1.1 in
    let kept = kept_at g.S.RtdServer.state q.0 t old q.1.2 true c.requires.runs q.1.3 in
    is_round t old.calc _ old.events old.log old.round q.1.2 q.1.3.noted kept

pub fire-requires : goal.fire-requires
fire-requires g c = c.requires.room

pub returns-clause-step : goal.returns-clause-step
returns-clause-step g c answer =
    let old = c.args.self.now in
    let rtd = c.complete_round.ensures in
    let done = c.complete-cells.ensures in
    let cells = c.complete-cells.result in
    settled_step_of g.S.RtdServer.state answer old (record old { calc = c.complete-cells.new.self; rtd = c.complete_round.new.self; events = c.fire.new.self; running = false }) false
    commands.Settle (replies.Done old.round cells) refl
    (λ session limit s settled.
    let t = terms_with answer session limit in
    let kept = settled.kept in
    let calc = calc_of t s settled.noted in record {
      noted = [];
      said = ap (λ n. replies.Done n cells) (sym kept.numbered)
          ∙ ap (replies.Done s.round) (done.count (setting_of t s) old.round calc settled.settled.running ∙ counted_stale s.book.contents settled.noted s.changed kept.changed)
          ∙ ap (reply_to_settle s) (sym (c.requires.asked t s settled))
          ∙ run_reply s kept.runs _;
      kept = λ clean. kept-done t old.calc _ old.events old.log old.round s settled.noted kept c.complete-cells.new.self _ c.fire.new.self clean
          (done.rest (setting_of t s) old.round calc settled.settled c.requires.none)
          (done.read (setting_of t s) old.round calc _ settled.settled c.requires.none (kept.reads refl))
          rtd.servers rtd.published rtd.throttle rtd.taken rtd.opening rtd.readers rtd.round
          (fired_as s.listeners old.events c.fire.new.self (events.Ended s.round) kept.listeners (c.fire.ensures ∙ ap (λ n. record { listeners = heard.listeners_with old.events.listeners (events.Ended n); room = old.events.room - 1 }) (sym kept.numbered)));
    })

pub returns-clause-numbers : goal.returns-clause-numbers
returns-clause-numbers g c =
    let fired = ap (λ (all : Listening). all.room) c.fire.ensures in
    record { round = omega arith; room = omega (arith, fired, c.requires.room); log = record { entries = refl; room = refl } }
