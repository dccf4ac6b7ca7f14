use Rattle.std.proofs.Common.{refl, sym, subst}
use Rattle.calc_book.specs.declared.calc_books.CalcBook.{CalcBook}
use Rattle.calc_book.specs.CalcState.{CalcState}
use Rattle.calc_book.specs.Keeping.{InRound, IsSettled}
use Rattle.calc_book.proofs.BeginningStates.{ok-leads}
use Rattle.calc_book.proofs.SettleLaws.{goes-on}
use Rattle.calc_round.specs.Readings.{ReadsFollow}
use Rattle.calc_round.specs.Rounds.{IsWorkedOut, round_setting}
use Rattle.command_log.specs.Log.{results_of}
use Rattle.calc_book.proofs.calc_books.CalcBook.work_out.Goals as goal

pub returns-clause-runs : goal.returns-clause-runs
returns-clause-runs g c s running =
    let b = c.args.self.now in
    let e = c.evaluate.ensures in
    let after : CalcBook = record b { chain = c.evaluate.new.chain; store = c.evaluate.new.store; work = c.evaluate.new.work } in
    subst (λ snapshot. InRound (round_setting g.F.AddIns.answer snapshot (results_of c.args.log.now) b.book.functions) c.args.round after s) (sym e.values.snapshot)
    (goes-on (round_setting g.F.AddIns.answer (g.T.TopicSource.state c.args.topics.now).snapshot (results_of c.args.log.now) b.book.functions) c.args.round b after s running
    refl refl refl refl e.working e.kept e.cells e.idle e.room e.session)

pub returns-clause-settled : goal.returns-clause-settled
returns-clause-settled g c =
    let b = c.args.self.now in
    let e = c.evaluate.ensures in
    let after : CalcBook = record b { chain = c.evaluate.new.chain; store = c.evaluate.new.store; work = c.evaluate.new.work } in
    let was = round_setting g.F.AddIns.answer (g.T.TopicSource.state c.args.topics.now).snapshot (results_of c.args.log.now) b.book.functions in
    let settles : IsWorkedOut was b.book.contents c.evaluate.new.store c.evaluate.new.work.calls.calls → (s : CalcState) → InRound was c.args.round b s
    → IsSettled (round_setting g.F.AddIns.answer (g.T.TopicSource.state c.evaluate.new.topics).snapshot (results_of c.args.log.now) b.book.functions) c.args.round after s =
    λ done s running.
    subst (λ snapshot. IsSettled (round_setting g.F.AddIns.answer snapshot (results_of c.args.log.now) b.book.functions) c.args.round after s) (sym e.values.snapshot)
    (record {
      running = goes-on was c.args.round b after s running refl refl refl refl e.working e.kept e.cells e.idle e.room e.session;
      worked = subst (λ book. IsWorkedOut was book c.evaluate.new.store c.evaluate.new.work.calls.calls) running.holds.book done;
    }) in
    ok-leads _ _ _ settles e.done

pub returns-clause-reads : goal.returns-clause-reads
returns-clause-reads g c =
    let b = c.args.self.now in
    let e = c.evaluate.ensures in
    subst (λ snapshot. ReadsFollow (round_setting g.F.AddIns.answer snapshot (results_of c.args.log.now) b.book.functions) (g.T.TopicSource.state c.evaluate.new.topics) b.book.contents c.evaluate.new.store)
    (sym e.values.snapshot) e.reads
