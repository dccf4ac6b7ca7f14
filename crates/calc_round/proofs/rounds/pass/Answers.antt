use Rattle.std.proofs.Common.{rules, ◌≡◌, ◌+◌, ◌≤◌, ◌∷◌, ◌++◌, [], Ok, true, false, length, vec_capacity, refl, ap, sym, subst, ◌∙◌, arith}
use Rattle.async_handles.specs.OpenCalls.{OpenCalls}
use Rattle.async_handles.proofs.PublicLaws.{length_with}
use Rattle.cell_refs.specs.Cell.{is_among}
use Rattle.calc_round.specs.Looks.{Finishes, OpensCall, setting_for}
use Rattle.calc_round.specs.Readings.{ReadsFollow}
use Rattle.calc_round.specs.Rounds.{IsWorking, PresentMeans, names_unfinished}
use Rattle.calc_round.proofs.Chains.{as_many, room-left}
use Rattle.calc_round.proofs.Finishing.{kept-finished, kept-same, kept-then}
use Rattle.calc_round.proofs.TopicsRead.{values-then}
use Rattle.calc_round.proofs.Working.{look-open, looked, looked-asked, looked-finished, stuck-next}
use Rattle.calc_round.proofs.rounds.pass.Goals as goal

pub look-requires-clause-means : goal.look-requires-clause-means
look-requires-clause-means g c =
    subst (λ s. PresentMeans (setting_for g.F.AddIns.answer s c.args.looker.now.log.now c.args.looker.now.book.now) c.args.looker.now.book.now.contents c.looks.store)
    (sym c.looks.invariant.values.snapshot) c.looks.invariant.working.means

pub look-requires-clause-reads : goal.look-requires-clause-reads
look-requires-clause-reads g c =
    subst (λ s. ReadsFollow (setting_for g.F.AddIns.answer s c.args.looker.now.log.now c.args.looker.now.book.now) (g.T.TopicSource.state c.looks.topics) c.args.looker.now.book.now.contents c.looks.store)
    (sym c.looks.invariant.values.snapshot) c.looks.invariant.reads

pub look-requires-clause-idle : goal.look-requires-clause-idle
look-requires-clause-idle g c = (look-open (setting_for g.F.AddIns.answer (g.T.TopicSource.state c.args.topics.now).snapshot c.args.looker.now.log.now c.args.looker.now.book.now) c.args.looker.now.book.now.contents c.args.looker.now.round
    c.looks.store c.looks.chain c.next.new.self c.looks.work.waiting.items c.looks.work.calls.calls c.in-Some.cell c.looks.invariant.working (sym c.in-Some.ensures.first) c.next.ensures.left).idle

pub look-requires-clause-entry : goal.look-requires-clause-entry
look-requires-clause-entry g c = (look-open (setting_for g.F.AddIns.answer (g.T.TopicSource.state c.args.topics.now).snapshot c.args.looker.now.log.now c.args.looker.now.book.now) c.args.looker.now.book.now.contents c.args.looker.now.round
    c.looks.store c.looks.chain c.next.new.self c.looks.work.waiting.items c.looks.work.calls.calls c.in-Some.cell c.looks.invariant.working (sym c.in-Some.ensures.first) c.next.ensures.left).pending.entry

pub look-requires-clause-unfinished : goal.look-requires-clause-unfinished
look-requires-clause-unfinished g c = (look-open (setting_for g.F.AddIns.answer (g.T.TopicSource.state c.args.topics.now).snapshot c.args.looker.now.log.now c.args.looker.now.book.now) c.args.looker.now.book.now.contents c.args.looker.now.round
    c.looks.store c.looks.chain c.next.new.self c.looks.work.waiting.items c.looks.work.calls.calls c.in-Some.cell c.looks.invariant.working (sym c.in-Some.ensures.first) c.next.ensures.left).pending.unfinished

pub look-requires-clause-touched : goal.look-requires-clause-touched
look-requires-clause-touched g c = (look-open (setting_for g.F.AddIns.answer (g.T.TopicSource.state c.args.topics.now).snapshot c.args.looker.now.log.now c.args.looker.now.book.now) c.args.looker.now.book.now.contents c.args.looker.now.round
    c.looks.store c.looks.chain c.next.new.self c.looks.work.waiting.items c.looks.work.calls.calls c.in-Some.cell c.looks.invariant.working (sym c.in-Some.ensures.first) c.next.ensures.left).pending.touched

pub look-requires-clause-free : goal.look-requires-clause-free
look-requires-clause-free g c = (look-open (setting_for g.F.AddIns.answer (g.T.TopicSource.state c.args.topics.now).snapshot c.args.looker.now.log.now c.args.looker.now.book.now) c.args.looker.now.book.now.contents c.args.looker.now.round
    c.looks.store c.looks.chain c.next.new.self c.looks.work.waiting.items c.looks.work.calls.calls c.in-Some.cell c.looks.invariant.working (sym c.in-Some.ensures.first) c.next.ensures.left).pending.free

pub look-requires-clause-spare : goal.look-requires-clause-spare
look-requires-clause-spare g c =
    let some = room-left c.looks.work.waiting.items c.looks.chain.due c.in-Some.cell (sym c.in-Some.ensures.first) in
    let room = c.looks.invariant.room.1 in
    omega (arith, some, room)

pub looks-preserved-in-Ok-Finished : goal.looks-preserved-in-Ok-Finished
looks-preserved-in-Ok-Finished g c =
    let log = c.args.looker.now.log.now in
    let state = c.args.looker.now.book.now in
    let book = state.contents in
    let round = c.args.looker.now.round in
    let waiting = c.looks.work.waiting.items in
    let snapshot = (g.T.TopicSource.state c.args.topics.now).snapshot in
    let setting = setting_for g.F.AddIns.answer snapshot log state in
    let first = sym c.in-Some.ensures.first in
    let did = rw c.in-Ok-Finished.field-0-is at c.in-Ok-Finished.ensures.did in
    let finished = subst (λ s. Finishes (setting_for g.F.AddIns.answer s log state) book c.looks.store c.look.new.store c.in-Some.cell) c.looks.invariant.values.snapshot did.0 in
    let here = look-open setting book round c.looks.store c.looks.chain c.next.new.self waiting c.looks.work.calls.calls c.in-Some.cell c.looks.invariant.working first c.next.ensures.left in
    let many = as_many waiting c.looks.chain c.next.new.self c.look.new.chain c.in-Some.cell first c.next.ensures.left c.look.ensures.chain.due in
    let count = ap (λ (calls : OpenCalls). length calls.calls) did.1 in
    let spare = ap (λ (calls : OpenCalls). calls.spare) did.1 in
    let room = c.looks.invariant.room.0 in
    let calls_room = c.looks.invariant.room.1 in
    let few = c.looks.invariant.few in
    record {
      working = subst (λ (calls : OpenCalls). IsWorking setting book c.look.new.store c.look.new.chain.entries (waiting ++ c.look.new.chain.due) calls.calls round) (sym did.1)
          (looked-finished setting book round c.looks.store c.look.new.store c.looks.chain c.next.new.self c.look.new.chain waiting c.looks.work.calls.calls c.in-Some.cell
          c.looks.invariant.working first c.next.ensures.left c.look.ensures.chain finished c.look.ensures.touched);
      reads = subst (λ s. ReadsFollow (setting_for g.F.AddIns.answer s log state) (g.T.TopicSource.state c.look.new.topics) book c.look.new.store) c.looks.invariant.values.snapshot c.look.ensures.reads;
      values = values-then _ _ _ c.looks.invariant.values c.look.ensures.values;
      kept = kept-then _ _ _ c.looks.invariant.kept
          (kept-finished c.looks.store c.look.new.store c.in-Some.cell finished.0 finished.2 here.pending.unfinished c.look.ensures.shown c.look.ensures.touched);
      cells = λ q. c.look.ensures.chain.cells q ∙ ap (λ m. is_among m.entries q) c.next.ensures.left ∙ c.looks.invariant.cells q;
      room = (omega (arith, many.1, count, room), omega (arith, many.1, spare, calls_room));
      session = ap (λ (calls : OpenCalls). calls.session) did.1 ∙ c.looks.invariant.session;
      few = omega (arith, many.1, few);
      fewer = λ _. omega (arith, many.1, few);
      stuck = λ no. cc;
    }

pub looks-preserved-in-Ok-Asked : goal.looks-preserved-in-Ok-Asked
looks-preserved-in-Ok-Asked g c =
    let log = c.args.looker.now.log.now in
    let state = c.args.looker.now.book.now in
    let book = state.contents in
    let round = c.args.looker.now.round in
    let waiting = c.looks.work.waiting.items in
    let snapshot = (g.T.TopicSource.state c.args.topics.now).snapshot in
    let setting = setting_for g.F.AddIns.answer snapshot log state in
    let first = sym c.in-Some.ensures.first in
    let did = rw c.in-Ok-Asked.field-0-is at c.in-Ok-Asked.ensures.did in
    let opens = subst (λ s. OpensCall (setting_for g.F.AddIns.answer s log state) book round c.looks.work.calls c.look.new.calls c.in-Some.cell) c.looks.invariant.values.snapshot did.0 in
    let many = as_many waiting c.looks.chain c.next.new.self c.look.new.chain c.in-Some.cell first c.next.ensures.left c.look.ensures.chain.due in
    let count = ap (λ (calls : OpenCalls). length calls.calls) opens.opened ∙ length_with c.looks.work.calls.calls opens.entry in
    let spare = ap (λ (calls : OpenCalls). calls.spare) opens.opened in
    let room = c.looks.invariant.room.0 in
    let calls_room = c.looks.invariant.room.1 in
    let few = c.looks.invariant.few in
    record {
      working = subst (λ store. IsWorking setting book store c.look.new.chain.entries (waiting ++ c.look.new.chain.due) c.look.new.calls.calls round) (sym did.1)
          (looked-asked setting book round c.looks.store c.looks.chain c.next.new.self c.look.new.chain waiting c.looks.work.calls c.look.new.calls c.in-Some.cell
          c.looks.invariant.working first c.next.ensures.left c.look.ensures.chain opens);
      reads = subst (λ s. ReadsFollow (setting_for g.F.AddIns.answer s log state) (g.T.TopicSource.state c.look.new.topics) book c.look.new.store) c.looks.invariant.values.snapshot c.look.ensures.reads;
      values = values-then _ _ _ c.looks.invariant.values c.look.ensures.values;
      kept = kept-then _ _ _ c.looks.invariant.kept (kept-same c.looks.store c.look.new.store did.1);
      cells = λ q. c.look.ensures.chain.cells q ∙ ap (λ m. is_among m.entries q) c.next.ensures.left ∙ c.looks.invariant.cells q;
      room = (omega (arith, many.1, count, room), omega (arith, many.1, spare, calls_room));
      session = ap (λ (calls : OpenCalls). calls.session) opens.opened ∙ c.looks.invariant.session;
      few = omega (arith, many.1, few);
      fewer = λ moved. let less = c.looks.invariant.fewer moved in omega (arith, many.1, less);
      stuck = λ unmoved q among. ap (λ store. names_unfinished book store q) did.1 ∙ c.looks.invariant.stuck unmoved q among;
    }

pub looks-preserved : goal.looks-preserved
looks-preserved g c =
    let log = c.args.looker.now.log.now in
    let state = c.args.looker.now.book.now in
    let book = state.contents in
    let round = c.args.looker.now.round in
    let waiting = c.looks.work.waiting.items in
    let snapshot = (g.T.TopicSource.state c.args.topics.now).snapshot in
    let setting = setting_for g.F.AddIns.answer snapshot log state in
    let first = sym c.in-Some.ensures.first in
    let did = rw c.in-Ok-Waits.field-0-is at c.in-Ok-Waits.ensures.did in
    let pushed = c.push_reserved.ensures.items in
    let more = ap (λ items. length (items ++ c.look.new.chain.due)) pushed in
    let many = as_many waiting c.looks.chain c.next.new.self c.look.new.chain c.in-Some.cell first c.next.ensures.left c.look.ensures.chain.due in
    let count = ap (λ (calls : OpenCalls). length calls.calls) did.2 in
    let spare = ap (λ (calls : OpenCalls). calls.spare) did.2 in
    let room = c.looks.invariant.room.0 in
    let calls_room = c.looks.invariant.room.1 in
    let kept_room = c.push_reserved.ensures.room in
    let few = c.looks.invariant.few in
    record {
      working = subst (λ items. IsWorking setting book c.look.new.store c.look.new.chain.entries (items ++ c.look.new.chain.due) c.look.new.calls.calls round) (sym pushed)
          (subst (λ store. IsWorking setting book store c.look.new.chain.entries ((waiting ++ c.in-Some.cell ∷ []) ++ c.look.new.chain.due) c.look.new.calls.calls round) (sym did.1)
          (subst (λ (calls : OpenCalls). IsWorking setting book c.looks.store c.look.new.chain.entries ((waiting ++ c.in-Some.cell ∷ []) ++ c.look.new.chain.due) calls.calls round) (sym did.2)
          (looked setting book round c.looks.store c.looks.chain c.next.new.self c.look.new.chain waiting c.looks.work.calls.calls c.in-Some.cell c.looks.invariant.working first c.next.ensures.left c.look.ensures.chain)));
      reads = subst (λ s. ReadsFollow (setting_for g.F.AddIns.answer s log state) (g.T.TopicSource.state c.look.new.topics) book c.look.new.store) c.looks.invariant.values.snapshot c.look.ensures.reads;
      values = values-then _ _ _ c.looks.invariant.values c.look.ensures.values;
      kept = kept-then _ _ _ c.looks.invariant.kept (kept-same c.looks.store c.look.new.store did.1);
      cells = λ q. c.look.ensures.chain.cells q ∙ ap (λ m. is_among m.entries q) c.next.ensures.left ∙ c.looks.invariant.cells q;
      room = (omega (arith, many.0, more, count, room, kept_room), omega (arith, many.0, more, spare, calls_room));
      session = ap (λ (calls : OpenCalls). calls.session) did.2 ∙ c.looks.invariant.session;
      few = omega (arith, many.0, more, few);
      fewer = λ moved. let less = c.looks.invariant.fewer moved in omega (arith, many.0, more, less);
      stuck = λ unmoved. stuck-next setting book round c.looks.store c.look.new.store waiting c.push_reserved.new.cells.items c.in-Some.cell did.1 pushed
          (c.looks.invariant.stuck unmoved) did.0;
    }

pub returns-in-Err-clause-working : goal.returns-in-Err-clause-working
returns-in-Err-clause-working g c =
    let log = c.args.looker.now.log.now in
    let state = c.args.looker.now.book.now in
    let book = state.contents in
    let round = c.args.looker.now.round in
    let waiting = c.looks.work.waiting.items in
    let setting = setting_for g.F.AddIns.answer (g.T.TopicSource.state c.args.topics.now).snapshot log state in
    let first = sym c.in-Some.ensures.first in
    subst (λ items. IsWorking setting book c.look.new.store c.look.new.chain.entries (items ++ c.look.new.chain.due) c.look.new.calls.calls round) (sym c.push_reserved-in-Err.ensures.items)
    (subst (λ store. IsWorking setting book store c.look.new.chain.entries ((waiting ++ c.in-Some.cell ∷ []) ++ c.look.new.chain.due) c.look.new.calls.calls round) (sym c.in-Err.ensures.store)
    (subst (λ (calls : OpenCalls). IsWorking setting book c.looks.store c.look.new.chain.entries ((waiting ++ c.in-Some.cell ∷ []) ++ c.look.new.chain.due) calls.calls round) (sym c.in-Err.ensures.calls)
    (looked setting book round c.looks.store c.looks.chain c.next.new.self c.look.new.chain waiting c.looks.work.calls.calls c.in-Some.cell c.looks.invariant.working first c.next.ensures.left c.look.ensures.chain)))
