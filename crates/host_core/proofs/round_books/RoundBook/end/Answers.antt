use Rattle.std.proofs.Common.{◌≡◌, ◌≤◌, ◌+◌, arith, nat_lt, length, false, true, refl, ap, sym, ◌∙◌}
use Rattle.workbook.specs.State.{open_calls, setting_of}
use Rattle.workbook.specs.declared.commands.Command.TheVariants as commands
use Rattle.workbook.specs.declared.replies.Reply.TheVariants as replies
use Rattle.host_core.specs.HostKeeping.{calc_of}
use Rattle.host_core.specs.Standing.{terms_with}
use Rattle.host_core.proofs.HostSteps.{asked_open, no_calls, run_reply, settled_step_of, waiting_reply}
use Rattle.host_core.proofs.round_books.RoundBook.end.Goals as goal

pub returns-in-Ok-clause-step : goal.returns-in-Ok-clause-step
returns-in-Ok-clause-step g c answer =
    let old = c.args.self.now in
    settled_step_of g.S.RtdServer.state answer old old true commands.Settle (replies.Waiting old.round c.from_vec.result) c.requires.runs
    (λ session limit s settled.
    let t = terms_with answer session limit in
    let kept = settled.kept in
    let calc = calc_of t s settled.noted in
    let asked = asked_open t s old.round settled.noted kept.runs kept.numbered kept.changed in
    let some = ap (λ calls. nat_lt 0 (length calls)) (sym asked) ∙ sym (c.has_open_calls.ensures.asked t (setting_of t s) old.round calc refl settled.settled) ∙ c.if-has_open_calls.true in record {
      noted = settled.noted;
      said = ap (λ n. replies.Waiting n c.from_vec.result) (sym kept.numbered)
          ∙ ap (replies.Waiting s.round) (c.from_vec.ensures ∙ c.in-Ok.ensures.asked t (setting_of t s) old.round calc refl settled.settled ∙ asked)
          ∙ sym (waiting_reply s (open_calls t s) some) ∙ run_reply s kept.runs _;
      kept = λ clean. kept;
    })

pub returns-in-Ok-clause-numbers : goal.returns-in-Ok-clause-numbers
returns-in-Ok-clause-numbers g c = record { round = omega arith; room = omega arith; log = record { entries = refl; room = refl } }

pub returns-in-Err-clause-refused : goal.returns-in-Err-clause-refused
returns-in-Err-clause-refused g c answer session limit s stands = stands

pub returns-in-Err-clause-same_numbers : goal.returns-in-Err-clause-same_numbers
returns-in-Err-clause-same_numbers g c = record { round = refl; room = refl; log = record { entries = refl; room = refl } }

pub complete-requires-clause-room : goal.complete-requires-clause-room
complete-requires-clause-room g c = c.requires.room

pub complete-requires-clause-runs : goal.complete-requires-clause-runs
complete-requires-clause-runs g c = c.requires.runs

pub complete-requires-clause-stands : goal.complete-requires-clause-stands
complete-requires-clause-stands g c = c.requires.stands

pub complete-requires-clause-none : goal.complete-requires-clause-none
complete-requires-clause-none g c = c.has_open_calls.ensures.none c.if-has_open_calls.false

pub complete-requires-clause-asked : goal.complete-requires-clause-asked
complete-requires-clause-asked g c t s settled =
    let old = c.args.self.now in
    let kept = settled.kept in
    sym (asked_open t s old.round settled.noted kept.runs kept.numbered kept.changed)
    ∙ no_calls _ (sym (c.has_open_calls.ensures.asked t (setting_of t s) old.round (calc_of t s settled.noted) refl settled.settled) ∙ c.if-has_open_calls.false)

pub returns-clause-step : goal.returns-clause-step
returns-clause-step g c answer = c.complete.ensures.step answer

pub returns-clause-numbers : goal.returns-clause-numbers
returns-clause-numbers g c = c.complete.ensures.numbers
