use Rattle.std.proofs.Common.{rules, ◌≡◌, ◌+◌, ◌≤◌, ◌++◌, [], Ok, true, false, length, vec_capacity, length-append, refl, ap, sym, subst, ◌∙◌, arith}
use Rattle.cell_refs.specs.Cell.{is_among}
use Rattle.calc_round.specs.Looks.{setting_for}
use Rattle.calc_round.specs.Readings.{ReadsFollow}
use Rattle.calc_round.specs.Rounds.{IsWorking}
use Rattle.calc_round.proofs.Chains.{few-due}
use Rattle.calc_round.proofs.Finishing.{kept-none, kept-then}
use Rattle.calc_round.proofs.TopicsRead.{values-none, values-then}
use Rattle.calc_round.proofs.Working.{idle-pending, now-due, pass-ended, rest-waits}
use Rattle.calc_round.proofs.rounds.work_out.Goals as goal

pub passes-init : goal.passes-init
passes-init g c =
    let setting = setting_for g.F.AddIns.answer (g.T.TopicSource.state c.args.topics.now).snapshot c.args.log.now c.args.book.now in
    let few = few-due c.args.chain.now c.make_due.new.chain c.args.work.now.waiting.items c.requires.working.entries_once c.make_due.ensures.chain in
    let none = c.make_due.ensures.waiting in
    let more = ap (λ items. length (items ++ c.make_due.new.chain.due)) none in
    let room = c.requires.room in
    let kept = c.make_due.ensures.room in
    record {
      working = now-due setting c.args.book.now.contents c.args.round c.args.store.now c.args.chain.now c.make_due.new.chain c.args.work.now.waiting.items c.args.work.now.calls.calls
          c.requires.working c.make_due.ensures.chain;
      reads = c.requires.reads;
      values = values-none (g.T.TopicSource.state c.args.topics.now);
      kept = kept-none c.args.store.now;
      cells = λ q. ap (λ m. is_among m.entries q) c.make_due.ensures.chain;
      none = none;
      room = (omega (arith, few, more, room.0, kept), omega (arith, few, more, room.1));
      session = refl;
    }

pub passes-smaller : goal.passes-smaller
passes-smaller g c =
    let few = few-due c.pass.new.chain c.make_due-in-Ok-true.new.chain c.pass.new.work.waiting.items c.pass.ensures.working.entries_once c.make_due-in-Ok-true.ensures.chain in
    let done : c.pass.result ≡ Ok true = search rules in
    let fewer = c.pass.ensures.fewer done in
    omega (arith, few, fewer)

pub passes-preserved : goal.passes-preserved
passes-preserved g c =
    let snapshot = (g.T.TopicSource.state c.args.topics.now).snapshot in
    let log = c.args.log.now in
    let state = c.args.book.now in
    let setting = setting_for g.F.AddIns.answer snapshot log state in
    let working = subst (λ s. IsWorking (setting_for g.F.AddIns.answer s log state) state.contents c.pass.new.store c.pass.new.chain.entries (c.pass.new.work.waiting.items ++ c.pass.new.chain.due) c.pass.new.work.calls.calls c.args.round)
    c.passes.invariant.values.snapshot c.pass.ensures.working in
    let few = few-due c.pass.new.chain c.make_due-in-Ok-true.new.chain c.pass.new.work.waiting.items c.pass.ensures.working.entries_once c.make_due-in-Ok-true.ensures.chain in
    let all = length-append c.pass.new.work.waiting.items c.pass.new.chain.due in
    let none = c.make_due-in-Ok-true.ensures.waiting in
    let more = ap (λ items. length (items ++ c.make_due-in-Ok-true.new.chain.due)) none in
    let room = c.pass.ensures.room in
    let kept = c.make_due-in-Ok-true.ensures.room in
    record {
      working = now-due setting state.contents c.args.round c.pass.new.store c.pass.new.chain c.make_due-in-Ok-true.new.chain c.pass.new.work.waiting.items c.pass.new.work.calls.calls
          (idle-pending setting state.contents c.args.round c.pass.new.store c.pass.new.chain c.pass.new.work.waiting.items c.pass.new.work.calls.calls working (search rules)) c.make_due-in-Ok-true.ensures.chain;
      reads = subst (λ s. ReadsFollow (setting_for g.F.AddIns.answer s log state) (g.T.TopicSource.state c.pass.new.topics) state.contents c.pass.new.store) c.passes.invariant.values.snapshot c.pass.ensures.reads;
      values = values-then _ _ _ c.passes.invariant.values c.pass.ensures.values;
      kept = kept-then _ _ _ c.passes.invariant.kept c.pass.ensures.kept;
      cells = λ q. ap (λ m. is_among m.entries q) c.make_due-in-Ok-true.ensures.chain ∙ c.pass.ensures.cells q ∙ c.passes.invariant.cells q;
      none = none;
      room = (omega (arith, few, all, more, room.0, kept), omega (arith, few, all, more, room.1));
      session = c.pass.ensures.session ∙ c.passes.invariant.session;
    }

pub returns-in-Ok-false-clause-done : goal.returns-in-Ok-false-clause-done
returns-in-Ok-false-clause-done g c =
    let log = c.args.log.now in
    let state = c.args.book.now in
    let setting = setting_for g.F.AddIns.answer (g.T.TopicSource.state c.args.topics.now).snapshot log state in
    let working = subst (λ s. IsWorking (setting_for g.F.AddIns.answer s log state) state.contents c.pass.new.store c.pass.new.chain.entries (c.pass.new.work.waiting.items ++ c.pass.new.chain.due) c.pass.new.work.calls.calls c.args.round)
    c.passes.invariant.values.snapshot c.pass.ensures.working in
    let done : c.pass.result ≡ Ok false = search rules in
    pass-ended setting state.contents c.args.round c.pass.new.store c.pass.new.chain c.pass.new.work.waiting.items c.pass.new.work.calls.calls working (search rules) (c.pass.ensures.stuck done)
