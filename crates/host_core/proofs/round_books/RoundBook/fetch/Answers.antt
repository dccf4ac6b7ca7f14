use Rattle.std.proofs.Common.{◌≡◌, cond, false, true, refl, ap, sym, ◌∙◌}
use Rattle.std.specs.Option.{is_some}
use Rattle.calc_events.specs.Listening.{Listening}
use Rattle.calc_events.specs.Listening as heard
use Rattle.workbook.specs.declared.commands.Command.TheVariants as commands
use Rattle.workbook.specs.declared.replies.Reply.TheVariants as replies
use Rattle.workbook.specs.Step.{events_of, listeners_after_fetch}
use Rattle.host_core.specs.HostKeeping.{listeners_as}
use Rattle.host_core.specs.Standing.{terms_with}
use Rattle.host_core.proofs.HostKept.{kept-heard}
use Rattle.host_core.proofs.HostListeners.{events_as, listeners_fetched, names_heard, unheard}
use Rattle.host_core.proofs.HostSteps.{states_of, step_of}
use Rattle.host_core.proofs.round_books.RoundBook.fetch.Goals as goal

pub returns-in-Ok-Some-clause-step : goal.returns-in-Ok-Some-clause-step
returns-in-Ok-Some-clause-step g c answer =
    let old = c.args.self.now in
    let name = c.args.name.now in
    let listeners = old.events.listeners in
    let text = c.as_str.ensures.name in
    let given = c.in-Ok-Some.ensures in
    let fetched = rw c.in-Ok-Some.field-0-is at given.events in
    step_of g.S.RtdServer.state answer old (record old { events = c.fetch.new.self }) old.running old.running (commands.Events name) (replies.Events c.from_vec.result) refl refl
    (λ session limit s noted kept.
    let there = names_heard s.listeners listeners name kept.listeners ∙ ap (heard.has_listener listeners) (sym text) ∙ sym given.known ∙ ap is_some c.in-Ok-Some.field-0-is in
    let events = c.from_vec.ensures ∙ fetched ∙ ap (heard.events_of listeners) text ∙ sym (events_as listeners name) ∙ sym (ap (λ all. events_of all name) kept.listeners) in record {
      noted = noted;
      said = ap replies.Events events ∙ sym (ap (λ b. cond b (replies.Events (events_of s.listeners name)) replies.NoListener) there);
      kept = λ clean. kept-heard (terms_with answer session limit) old.calc _ old.events old.log old.round s noted old.running kept c.fetch.new.self (listeners_after_fetch s.listeners name) clean
          (ap (λ all. listeners_after_fetch all name) kept.listeners ∙ sym (listeners_fetched listeners name)
          ∙ ap (λ n. listeners_as (heard.listeners_after_fetch listeners n)) (sym text) ∙ sym (ap (λ (all : Listening). listeners_as all.listeners) given.fetched));
    })

pub returns-in-Ok-None-clause-step : goal.returns-in-Ok-None-clause-step
returns-in-Ok-None-clause-step g c answer =
    let old = c.args.self.now in
    let name = c.args.name.now in
    let listeners = old.events.listeners in
    let text = c.as_str.ensures.name in
    let given = c.in-Ok-None.ensures in
    step_of g.S.RtdServer.state answer old (record old { events = c.fetch.new.self }) old.running old.running (commands.Events name) replies.NoListener refl refl
    (λ session limit s noted kept.
    let there = names_heard s.listeners listeners name kept.listeners ∙ ap (heard.has_listener listeners) (sym text) ∙ sym given.known ∙ ap is_some c.in-Ok-None.field-0-is in record {
      noted = noted;
      said = sym (ap (λ b. cond b (replies.Events (events_of s.listeners name)) replies.NoListener) there);
      kept = λ clean. kept-heard (terms_with answer session limit) old.calc _ old.events old.log old.round s noted old.running kept c.fetch.new.self s.listeners clean
          (sym (unheard s.listeners name there) ∙ ap (λ all. listeners_after_fetch all name) kept.listeners ∙ sym (listeners_fetched listeners name)
          ∙ ap (λ n. listeners_as (heard.listeners_after_fetch listeners n)) (sym text) ∙ sym (ap (λ (all : Listening). listeners_as all.listeners) given.fetched));
    })

pub returns-in-Err-clause-refused : goal.returns-in-Err-clause-refused
returns-in-Err-clause-refused g c answer =
    let old = c.args.self.now in
    states_of g.S.RtdServer.state answer old (record old { events = c.fetch.new.self }) old.running refl refl refl
    (λ session limit s noted kept. kept-heard (terms_with answer session limit) old.calc _ old.events old.log old.round s noted old.running kept c.fetch.new.self s.listeners kept.clean
    (kept.listeners ∙ sym (ap (λ (all : Listening). listeners_as all.listeners) c.in-Err.ensures.refused)))

pub returns-in-Ok-Some-clause-numbers : goal.returns-in-Ok-Some-clause-numbers
returns-in-Ok-Some-clause-numbers g c = record { round = refl; room = ap (λ (all : Listening). all.room) c.in-Ok-Some.ensures.fetched; log = record { entries = refl; room = refl } }

pub returns-in-Ok-None-clause-numbers : goal.returns-in-Ok-None-clause-numbers
returns-in-Ok-None-clause-numbers g c = record { round = refl; room = ap (λ (all : Listening). all.room) c.in-Ok-None.ensures.fetched; log = record { entries = refl; room = refl } }

pub returns-in-Err-clause-numbers : goal.returns-in-Err-clause-numbers
returns-in-Err-clause-numbers g c = record { round = refl; room = ap (λ (all : Listening). all.room) c.in-Err.ensures.refused; log = record { entries = refl; room = refl } }
