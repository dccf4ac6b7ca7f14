use Rattle.std.proofs.Common.{◌≡◌, ℕ, true, Result, Ok, Err, OnOk, refl, ap, subst}
use Rattle.workbook.specs.State.{State, setting_of}
use Rattle.cell_values.specs.declared.values.Value.{Value}
use Rattle.calc_book.specs.Keeping.{IsSettled}
use Rattle.host_core.specs.HostKeeping.{calc_of}
use Rattle.host_core.specs.Standing.{SettlesStates, Stands, StandsSettled, terms_with}
use Rattle.host_core.proofs.HostKept.{kept-worked, reads_over, runs_over, settings_still}
use Rattle.host_core.proofs.HostSteps.{kept_at, states_of}
use Rattle.host_core.proofs.round_books.RoundBook.work_out.Goals as goal

pub work_out-requires-clause-runs : goal.work_out-requires-clause-runs
work_out-requires-clause-runs g c =
    let old = c.args.self.now in
    let q = c.requires.stands in
    let t = terms_with g.F.AddIns.answer q.0 q.1 in
    let kept = kept_at g.S.RtdServer.state g.F.AddIns.answer t old q.2 true c.requires.runs q.3 in
    (calc_of t q.2 q.3.noted, runs_over t old.calc _ old.events old.log old.round q.2 q.3.noted kept)

pub work_out-requires-clause-reads : goal.work_out-requires-clause-reads
work_out-requires-clause-reads g c =
    let old = c.args.self.now in
    let q = c.requires.stands in
    let t = terms_with g.F.AddIns.answer q.0 q.1 in
    let kept = kept_at g.S.RtdServer.state g.F.AddIns.answer t old q.2 true c.requires.runs q.3 in
    reads_over t old.calc _ old.events old.log old.round q.2 q.3.noted kept

pub returns-clause-kept : goal.returns-clause-kept
returns-clause-kept g c =
    let old = c.args.self.now in
    let answer = g.F.AddIns.answer in
    let worked = c.work_out.ensures in
    states_of g.S.RtdServer.state answer old (record old { calc = c.work_out.new.self; rtd = c.work_out.new.topics }) true c.requires.runs refl refl
    (λ session limit s noted kept.
    let t = terms_with answer session limit in
    kept-worked t old.calc _ old.events old.log old.round s noted kept c.work_out.new.self _ worked.values
    (worked.runs (calc_of t s noted) (runs_over t old.calc _ old.events old.log old.round s noted kept)) worked.reads)

pub returns-clause-runs : goal.returns-clause-runs
returns-clause-runs g c = c.requires.runs

pub returns-clause-numbers : goal.returns-clause-numbers
returns-clause-numbers g c = record { round = refl; room = refl; log = record { entries = refl; room = refl } }

pub returns-clause-settled : goal.returns-clause-settled
returns-clause-settled g c =
    let old = c.args.self.now in
    let answer = g.F.AddIns.answer in
    let state = g.S.RtdServer.state in
    let worked = c.work_out.ensures in
    on_ok c.work_out.result worked.settled (λ settled session limit s stands.
    let t = terms_with answer session limit in
    let kept = kept_at state answer t old s true c.requires.runs stands in
    let calc = calc_of t s stands.noted in
    let over = runs_over t old.calc _ old.events old.log old.round s stands.noted kept in
    let runs = worked.runs calc over in record {
      noted = stands.noted;
      kept = kept-worked t old.calc _ old.events old.log old.round s stands.noted kept c.work_out.new.self _ worked.values runs worked.reads;
      settled = subst (λ now. IsSettled now old.round c.work_out.new.self calc)
          (settings_still t old.calc _ old.events old.log old.round s stands.noted kept c.work_out.new.self _ worked.values runs)
          (settled calc over);
    })
  where
    on_ok : {X E : Type 0} {P Q : Type 0} (r : Result X E) → OnOk r P → (P → Q) → OnOk r Q
    on_ok (Ok x) h f = f h
    on_ok (Err e) h f = tt
