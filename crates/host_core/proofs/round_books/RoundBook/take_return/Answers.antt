use Rattle.std.proofs.Common.{◌≡◌, ◌≤◌, ◌<◌, ◌+◌, ◌++◌, ◌∷◌, [], arith, cond, false, true, refl, ap, sym, subst, ◌∙◌}
use Rattle.command_log.specs.Log.{accepted_entry}
use Rattle.workbook.specs.declared.replies.Reply.TheVariants as replies
use Rattle.workbook.specs.declared.commands.Command.TheVariants as commands
use Rattle.workbook.specs.Step.{effect_of}
use Rattle.host_core.specs.Standing.{Stands, terms_with}
use Rattle.host_core.proofs.Ending.{some_after}
use Rattle.host_core.proofs.round_books.RoundBook.take_return.Goals as goal

pub asks_for-requires : goal.asks_for-requires
asks_for-requires g c = record { stands = c.requires.stands }

pub accept-requires-clause-log_room : goal.accept-requires-clause-log_room
accept-requires-clause-log_room g c =
    let room = c.asks_for.ensures.numbers.log.room in
    omega (arith, room, c.requires.log_room)

pub accept-requires-clause-spare : goal.accept-requires-clause-spare
accept-requires-clause-spare g c = (c.in-Ok-true.ensures.asked c.in-Ok-true.field-0-test).spare

pub accept-requires-clause-runs : goal.accept-requires-clause-runs
accept-requires-clause-runs g c = (c.in-Ok-true.ensures.asked c.in-Ok-true.field-0-test).runs

pub accept-requires-clause-stands : goal.accept-requires-clause-stands
accept-requires-clause-stands g c = some_after g.S.RtdServer.state g.F.AddIns.answer c.args.self.now c.asks_for.new.self c.asks_for.ensures.kept c.requires.stands

pub accept-requires-clause-live : goal.accept-requires-clause-live
accept-requires-clause-live g c = (c.in-Ok-true.ensures.asked c.in-Ok-true.field-0-test).live

pub note-requires : goal.note-requires
note-requires g c =
    let room = c.asks_for.ensures.numbers.log.room in
    omega (arith, room, c.requires.log_room)

pub returns-in-Ok-true-clause-step : goal.returns-in-Ok-true-clause-step
returns-in-Ok-true-clause-step g c session limit s stands =
    let asks = sym c.in-Ok-true.field-0-test ∙ c.in-Ok-true.ensures.told session limit s stands in (
      ap (λ b. replies.Code (cond b 0 256)) asks,
      c.accept.ensures.accepted g.F.AddIns.answer session limit s (c.asks_for.ensures.kept session limit s stands) (sym asks),
    )

pub returns-in-Ok-false-clause-step : goal.returns-in-Ok-false-clause-step
returns-in-Ok-false-clause-step g c session limit s stands =
    let asks = sym c.in-Ok-false.field-0-test ∙ c.in-Ok-false.ensures.told session limit s stands in
    let t = terms_with g.F.AddIns.answer session limit in
    let said = ap (λ b. replies.Code (cond b 0 256)) asks in (
      said,
      subst (λ reply. Stands g.S.RtdServer.state t c.note.new.self (effect_of t [] s (commands.Return c.args.handle c.args.value) reply)) said
          (c.note.ensures.kept g.F.AddIns.answer session limit s (c.asks_for.ensures.kept session limit s stands)),
    )

pub returns-in-Ok-true-clause-entries : goal.returns-in-Ok-true-clause-entries
returns-in-Ok-true-clause-entries g c =
    c.accept.ensures.entries ∙ ap (λ entries. entries ++ accepted_entry c.args.actor c.args.handle c.args.value ∷ []) c.asks_for.ensures.numbers.log.entries

pub returns-in-Ok-true-clause-log_room : goal.returns-in-Ok-true-clause-log_room
returns-in-Ok-true-clause-log_room g c =
    let before = c.asks_for.ensures.numbers.log.room in
    let after = c.accept.ensures.log_room in
    omega (arith, before, after)

pub returns-in-Ok-true-clause-round : goal.returns-in-Ok-true-clause-round
returns-in-Ok-true-clause-round g c = c.accept.ensures.round ∙ c.asks_for.ensures.numbers.round

pub returns-in-Ok-true-clause-room : goal.returns-in-Ok-true-clause-room
returns-in-Ok-true-clause-room g c = c.accept.ensures.room ∙ c.asks_for.ensures.numbers.room

pub returns-in-Ok-false-clause-entries : goal.returns-in-Ok-false-clause-entries
returns-in-Ok-false-clause-entries g c =
    c.note.ensures.entries ∙ ap (λ entries. entries ++ accepted_entry c.args.actor c.args.handle c.args.value ∷ []) c.asks_for.ensures.numbers.log.entries

pub returns-in-Ok-false-clause-log_room : goal.returns-in-Ok-false-clause-log_room
returns-in-Ok-false-clause-log_room g c =
    let before = c.asks_for.ensures.numbers.log.room in
    let after = c.note.ensures.log_room in
    omega (arith, before, after)

pub returns-in-Ok-false-clause-round : goal.returns-in-Ok-false-clause-round
returns-in-Ok-false-clause-round g c = c.note.ensures.round ∙ c.asks_for.ensures.numbers.round

pub returns-in-Ok-false-clause-room : goal.returns-in-Ok-false-clause-room
returns-in-Ok-false-clause-room g c = c.note.ensures.room ∙ c.asks_for.ensures.numbers.room

pub returns-in-Err-clause-round : goal.returns-in-Err-clause-round
returns-in-Err-clause-round g c = c.asks_for.ensures.numbers.round

pub returns-in-Err-clause-room : goal.returns-in-Err-clause-room
returns-in-Err-clause-room g c = c.asks_for.ensures.numbers.room

pub returns-in-Err-clause-back : goal.returns-in-Err-clause-back
returns-in-Err-clause-back g c = refl

pub returns-in-Err-clause-refused : goal.returns-in-Err-clause-refused
returns-in-Err-clause-refused g c = c.asks_for.ensures.kept

pub returns-in-Err-clause-same_numbers : goal.returns-in-Err-clause-same_numbers
returns-in-Err-clause-same_numbers g c = c.asks_for.ensures.numbers
