use Rattle.std.proofs.Common.{◌≡◌, Bool, cond, false, true, ◌∷◌, [], ◌++◌, IfOk, OnErr, refl, ap, sym, subst, ◌∙◌}
use Rattle.calc_events.specs.Listening.{Listening}
use Rattle.workbook.specs.declared.commands.Command.TheVariants as commands
use Rattle.workbook.specs.declared.replies.Reply.TheVariants as replies
use Rattle.host_core.specs.HostKeeping.{listeners_as}
use Rattle.host_core.specs.Standing.{IsStep, KeepsNumbers, KeepsStates, terms_with}
use Rattle.host_core.proofs.HostKept.{kept-heard}
use Rattle.host_core.proofs.HostListeners.{listeners_added, names_heard, none_true, some_true}
use Rattle.host_core.proofs.HostSteps.{states_of, step_of}
use Rattle.host_core.proofs.round_books.RoundBook.listen.Goals as goal
use Rattle.host_core.proofs.round_books.RoundBook.listen.Goals.{in-Ok-true, in-Ok-false, in-Err}

pub returns-clause-step : goal.returns-clause-step
returns-clause-step g c answer =
    let old = c.args.self.now in
    let name = c.args.name in
    let after : Bool → Listening = λ b. cond b (record old.events { listeners = old.events.listeners ++ (record { name = name; events = [] }) ∷ [] }) old.events in
    let new = record old { events = c.listen.new.self } in
    elim c.match-listen.branch [
      | in-Ok-true w ↦ subst (λ r. IfOk r (IsStep g.S.RtdServer.state answer old new (commands.Listen name))) (sym w.result-is)
          (step_of g.S.RtdServer.state answer old new old.running old.running (commands.Listen name) replies.Ok refl refl
          (λ session limit s noted kept.
          let there = names_heard s.listeners old.events.listeners name kept.listeners ∙ none_true _ (sym w.in-Ok-true.field-0-test ∙ w.in-Ok-true.ensures.new) in record {
            noted = noted;
            said = sym (ap (λ b. cond b replies.Known replies.Ok) there);
            kept = λ clean. kept-heard (terms_with answer session limit) old.calc _ old.events old.log old.round s noted old.running kept c.listen.new.self (s.listeners ++ (record { name = name; events = [] }) ∷ []) clean
                (ap (λ all. all ++ (record { name = name; events = [] }) ∷ []) kept.listeners ∙ sym (listeners_added old.events.listeners (record { name = name; events = [] }))
                ∙ sym (ap (λ (all : Listening). listeners_as all.listeners) (w.in-Ok-true.ensures.added ∙ ap after w.in-Ok-true.field-0-test)));
          }))
      | in-Ok-false w ↦ subst (λ r. IfOk r (IsStep g.S.RtdServer.state answer old new (commands.Listen name))) (sym w.result-is)
          (step_of g.S.RtdServer.state answer old new old.running old.running (commands.Listen name) replies.Known refl refl
          (λ session limit s noted kept.
          let there = names_heard s.listeners old.events.listeners name kept.listeners ∙ some_true _ (sym w.in-Ok-false.field-0-test ∙ w.in-Ok-false.ensures.new) in record {
            noted = noted;
            said = sym (ap (λ b. cond b replies.Known replies.Ok) there);
            kept = λ clean. kept-heard (terms_with answer session limit) old.calc _ old.events old.log old.round s noted old.running kept c.listen.new.self s.listeners clean
                (kept.listeners ∙ sym (ap (λ (all : Listening). listeners_as all.listeners) (w.in-Ok-false.ensures.added ∙ ap after w.in-Ok-false.field-0-test)));
          }))
      | in-Err w ↦ subst (λ r. IfOk r (IsStep g.S.RtdServer.state answer old new (commands.Listen name))) (sym w.result-is) tt
    ]

pub returns-clause-refused : goal.returns-clause-refused
returns-clause-refused g c answer =
    let old = c.args.self.now in
    let new = record old { events = c.listen.new.self } in
    elim c.match-listen.branch [
      | in-Ok-true w ↦ subst (λ r. OnErr r (KeepsStates g.S.RtdServer.state answer old new)) (sym w.result-is) tt
      | in-Ok-false w ↦ subst (λ r. OnErr r (KeepsStates g.S.RtdServer.state answer old new)) (sym w.result-is) tt
      | in-Err w ↦ subst (λ r. OnErr r (KeepsStates g.S.RtdServer.state answer old new)) (sym w.result-is)
          (states_of g.S.RtdServer.state answer old new old.running refl refl refl
          (λ session limit s noted kept. kept-heard (terms_with answer session limit) old.calc _ old.events old.log old.round s noted old.running kept c.listen.new.self s.listeners kept.clean
          (kept.listeners ∙ sym (ap (λ (all : Listening). listeners_as all.listeners) w.in-Err.ensures.refused.1))))
    ]

pub returns-clause-numbers : goal.returns-clause-numbers
returns-clause-numbers g c =
    let old = c.args.self.now in
    let after : Bool → Listening = λ b. cond b (record old.events { listeners = old.events.listeners ++ (record { name = c.args.name; events = [] }) ∷ [] }) old.events in
    let room = λ (all : Listening). all.room in
    elim c.match-listen.branch [
      | in-Ok-true w ↦ record { round = refl; room = ap room (w.in-Ok-true.ensures.added ∙ ap after w.in-Ok-true.field-0-test); log = record { entries = refl; room = refl } }
      | in-Ok-false w ↦ record { round = refl; room = ap room (w.in-Ok-false.ensures.added ∙ ap after w.in-Ok-false.field-0-test); log = record { entries = refl; room = refl } }
      | in-Err w ↦ record { round = refl; room = ap room w.in-Err.ensures.refused.1; log = record { entries = refl; room = refl } }
    ]
