use Rattle.std.proofs.Common.{◌≡◌, ◌≤◌, ◌<◌, ◌+◌, ◌++◌, ◌∷◌, [], ap, sym, subst, ◌∙◌, arith, length, length-append}
use Rattle.command_log.specs.Log.{LogParts, accepted_entry}
use Rattle.workbook.specs.declared.history.Entry.{Entry}
use Rattle.workbook.specs.History.{state_of}
use Rattle.host_core.specs.Standing.{Stands, terms_with}
use Rattle.host_core.proofs.HostSteps.{state-grows}
use Rattle.host_core.proofs.hosts.Host.answer_return.Goals as goal
use Rattle.host_core.proofs.hosts.Host.answer_return.Goals.{in-Ok, in-Err}

pub invariant_of-self : goal.invariant_of-self
invariant_of-self g c =
    let state = g.M.Server.RtdServer.state in
    let old = c.self.inside in
    let had = c.self.invariant in
    let items = old.book.log.entries in
    let t = terms_with g.F.AddIns.answer old.session old.limit in
    let had_steps = had.1 in
    let had_room = had.2 in
    let had_round = had.3 in
    let had_events = had.4 in
    let later_round = c.take_return.ensures.round in
    let later_events = c.take_return.ensures.room in
    elim c.match-take_return.branch [
      | in-Ok w ↦
          let entry : Entry = accepted_entry c.args.actor c.args.handle c.args.value in
          let is : c.take_return.new.self.log.entries ≡ items ++ entry ∷ [] = w.in-Ok.ensures.entries in
          let count : length c.take_return.new.self.log.entries ≡ length items + 1 = ap length is ∙ length-append items (entry ∷ []) in
          let len : c.len.result ≡ length items = c.len.ensures ∙ ap (λ (log : LogParts). length log.entries) c.log.ensures in
          let fewer = c.if-len-self.false in
          let later_room = w.in-Ok.ensures.log_room in
          let step = w.in-Ok.ensures.step old.session old.limit (state_of t items) had.6 in
          let given = subst (Stands state t c.take_return.new.self) (sym (state-grows t items entry)) step.1 in (
            had.0,
            omega (arith, count, had_steps, fewer, len),
            omega (arith, count, had_room, later_room),
            omega (arith, count, had_round, later_round),
            omega (arith, count, had_events, later_events),
            had.5,
            subst (λ entries. Stands state t c.take_return.new.self (state_of t entries)) (sym is) given,
          )
      | in-Err w ↦
          let numbers = w.in-Err.ensures.same_numbers in
          let entries = sym numbers.log.entries in
          let count = ap length numbers.log.entries in
          let room = numbers.log.room in (
            had.0,
            subst (λ all. length all ≤ old.limit) entries had.1,
            omega (arith, count, room, had_room),
            omega (arith, count, had_round, later_round),
            omega (arith, count, had_events, later_events),
            had.5,
            subst (λ all. Stands state t c.take_return.new.self (state_of t all)) entries (w.in-Err.ensures.refused old.session old.limit (state_of t items) had.6),
          )
    ]
