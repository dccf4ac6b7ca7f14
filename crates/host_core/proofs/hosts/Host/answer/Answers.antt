use Rattle.std.proofs.Common.{◌≡◌, ◌≤◌, ◌<◌, ◌+◌, ◌++◌, ◌∷◌, [], ap, sym, subst, ◌∙◌, arith, length, length-append}
use Rattle.command_log.specs.Log.{LogParts}
use Rattle.workbook.specs.declared.commands.Command.{Command}
use Rattle.workbook.specs.declared.history.Entry.{Entry}
use Rattle.workbook.specs.History.{state_of}
use Rattle.host_core.specs.Standing.{Stands, terms_with}
use Rattle.host_core.proofs.HostSteps.{state-grows}
use Rattle.host_core.proofs.hosts.Host.answer.Goals as goal

pub invariant_of-self : goal.invariant_of-self
invariant_of-self g c =
    let answer = g.F.AddIns.answer in
    let state = g.M.Server.RtdServer.state in
    let old = c.self.inside in
    let had = c.self.invariant in
    let items = old.book.log.entries in
    let entry : Command → Entry = λ command. record { actor = c.args.actor; command = command } in
    let t = terms_with answer old.session old.limit in
    let moved = c.in-Ok-act.ensures.numbers in
    let is : c.note.new.self.log.entries ≡ items ++ entry c.in-Ok.kept ∷ [] = c.note.ensures.entries ∙ ap (λ entries. entries ++ entry c.in-Ok.kept ∷ []) moved.log.entries in
    let count : length c.note.new.self.log.entries ≡ length items + 1 = ap length is ∙ length-append items (entry c.in-Ok.kept ∷ []) in
    let step = c.in-Ok-act.ensures.step old.session old.limit (state_of t items) had.6 in
    let noted = c.note.ensures.kept answer old.session old.limit _ step.1 in
    let given = subst (Stands state t c.note.new.self) (sym (state-grows t items (entry c.args.command))) noted in
    let kept = subst (λ command. Stands state t c.note.new.self (state_of t (items ++ entry command ∷ []))) (sym c.in-Ok.ensures) given in
    let within = had.1 in
    let room = had.2 in
    let rounds = had.3 in
    let events = had.4 in
    let same_room = moved.log.room in
    let rose = moved.round in
    let fired = moved.room in
    let later_room = c.note.ensures.log_room in
    let later_round = c.note.ensures.round in
    let later_events = c.note.ensures.room in
    let len : c.len.result ≡ length items = c.len.ensures ∙ ap (λ (log : LogParts). length log.entries) c.log.ensures in
    let fewer = c.if-len-self.false in (
      had.0,
      omega (arith, count, within, fewer, len),
      omega (arith, count, room, same_room, later_room),
      omega (arith, count, rounds, rose, later_round),
      omega (arith, count, events, fired, later_events),
      had.5,
      subst (λ entries. Stands state t c.note.new.self (state_of t entries)) (sym is) kept,
    )

pub invariant_of-self-in-Err-act : goal.invariant_of-self-in-Err-act
invariant_of-self-in-Err-act g c =
    let old = c.self.inside in
    let had = c.self.invariant in
    let t = terms_with g.F.AddIns.answer old.session old.limit in
    let state = g.M.Server.RtdServer.state in
    let numbers = c.in-Err-act.ensures.same_numbers in
    let entries = sym numbers.log.entries in
    let count = ap length numbers.log.entries in
    let room = numbers.log.room in
    let round = numbers.round in
    let events = numbers.room in (
      had.0,
      subst (λ all. length all ≤ old.limit) entries had.1,
      omega (arith, count, room, had.2),
      omega (arith, count, round, had.3),
      omega (arith, count, events, had.4),
      had.5,
      subst (λ all. Stands state t c.act.new.self (state_of t all)) entries (c.in-Err-act.ensures.refused old.session old.limit (state_of t old.book.log.entries) had.6),
    )
