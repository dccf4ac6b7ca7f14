use Rattle.std.proofs.Common.{◌≡◌, ◌++◌, [], length, false, true, refl, ap, sym, ◌∙◌}
use Rattle.std.proofs.lemmas.Result.{err_from_is_err_and}
use Rattle.cell_refs.specs.Cell.{is_among}
use Rattle.workbook.specs.declared.commands.Command.TheVariants as commands
use Rattle.workbook.specs.declared.replies.Reply.TheVariants as replies
use Rattle.workbook.specs.Pulling.{changed_topics, is_flagged, pull_due, pulled_throttle}
use Rattle.host_core.specs.HostKeeping.{calc_of}
use Rattle.host_core.specs.Standing.{terms_with}
use Rattle.host_core.proofs.HostKept.{counted_changed, kept-book, kept-pulled, kept-same_rtd, moment_in_form, readers_told}
use Rattle.host_core.proofs.HostSteps.{kept_at, pulled_reply, states_of, step_of}
use Rattle.host_core.proofs.round_books.RoundBook.take.Goals as goal

pub prepare_pull-requires : goal.prepare_pull-requires
prepare_pull-requires g c =
    let q = c.requires.stands in
    let t = terms_with q.0 q.1.0 q.1.1 in
    (kept_at g.S.RtdServer.state q.0 t c.args.self.now q.1.2 false c.requires.rests q.1.3).rtd.opening

pub returns-in_err-news-clause-step : goal.returns-in_err-news-clause-step
returns-in_err-news-clause-step g c answer =
    let p = err_from_is_err_and c.from_residual.result c.from_residual.ensures.1 in rw p.1 tt

pub returns-in_err-news-clause-refused : goal.returns-in_err-news-clause-refused
returns-in_err-news-clause-refused g c answer =
    let old = c.args.self.now in
    let rtd = c.prepare_pull.ensures.same in
    let p = err_from_is_err_and c.from_residual.result c.from_residual.ensures.1 in
    rw p.1 (states_of g.S.RtdServer.state answer old (record old { rtd = c.prepare_pull.new.self }) false c.requires.rests refl refl
    (λ session limit s noted kept. kept-same_rtd (terms_with answer session limit) old.calc _ old.events old.log old.round s noted false kept _ rtd.servers rtd.published rtd.throttle rtd.topics))

pub returns-in_err-note_changed-clause-step : goal.returns-in_err-note_changed-clause-step
returns-in_err-note_changed-clause-step g c answer =
    let p = err_from_is_err_and c.from_residual-in_err-note_changed.result c.from_residual-in_err-note_changed.ensures.1 in rw p.1 tt

pub returns-in_err-note_changed-clause-refused : goal.returns-in_err-note_changed-clause-refused
returns-in_err-note_changed-clause-refused g c answer =
    let old = c.args.self.now in
    let rtd = c.prepare_pull.ensures.same in
    let p = err_from_is_err_and c.from_residual-in_err-note_changed.result c.from_residual-in_err-note_changed.ensures.1 in
    rw p.1 (states_of g.S.RtdServer.state answer old (record old { calc = c.note_changed.new.self; rtd = c.prepare_pull.new.self }) false c.requires.rests refl refl
    (λ session limit s noted kept.
    let same = kept-same_rtd (terms_with answer session limit) old.calc _ old.events old.log old.round s noted false kept _ rtd.servers rtd.published rtd.throttle rtd.topics in
    kept-book (terms_with answer session limit) old.calc _ old.events old.log old.round s noted same c.note_changed.new.self (c.in_err-note_changed.ensures.refused (calc_of (terms_with answer session limit) s noted) kept.book)))

pub take_pull-requires-clause-none : goal.take_pull-requires-clause-none
take_pull-requires-clause-none g c =
    let old = c.args.self.now in
    let q = c.requires.stands in
    let t = terms_with q.0 q.1.0 q.1.1 in
    let kept = kept_at g.S.RtdServer.state q.0 t old q.1.2 false c.requires.rests q.1.3 in
    let rtd = c.prepare_pull.ensures.same in
    (kept-same_rtd t old.calc _ old.events old.log old.round q.1.2 q.1.3.noted false kept _ rtd.servers rtd.published rtd.throttle rtd.topics).rtd.opening

pub take_pull-requires-clause-prepared : goal.take_pull-requires-clause-prepared
take_pull-requires-clause-prepared g c = c.in_ok-news.ensures.prepared

pub take_pull-requires-clause-moment : goal.take_pull-requires-clause-moment
take_pull-requires-clause-moment g c = moment_in_form c.args.moment c.requires.form

pub returns-clause-step : goal.returns-clause-step
returns-clause-step g c answer =
    let old = c.args.self.now in
    let moment = c.args.moment in
    let news = c.in_ok-news.ensures in
    let rtd = news.same in
    let taken = c.take_pull.ensures in
    step_of g.S.RtdServer.state answer old (record old { calc = c.note_changed.new.self; rtd = c.take_pull.new.self }) false false
    (commands.Pull moment) (replies.Pulled c.in_ok-news.news.changed c.from_vec.result) c.requires.rests c.requires.rests
    (λ session limit s noted kept.
    let t = terms_with answer session limit in
    let same = kept-same_rtd t old.calc _ old.events old.log old.round s noted false kept _ rtd.servers rtd.published rtd.throttle rtd.topics in
    let flagged = ap is_flagged (sym kept.rtd.servers) ∙ c.requires.flagged in
    let due = ap (λ throttle. pull_due throttle moment) (sym kept.rtd.throttle) ∙ c.requires.due in record {
      noted = c.as_slice.result.now ++ noted;
      said = ap (λ n. replies.Pulled n c.from_vec.result) (news.changed ∙ counted_changed t old.calc _ old.events old.log old.round s noted kept c.facts.ensures)
          ∙ ap (replies.Pulled (length (changed_topics s.servers [] s.published s.taken))) (c.from_vec.ensures ∙ c.new.ensures.items)
          ∙ pulled_reply t s kept.runs moment flagged due;
      kept = λ clean. kept-pulled t old.calc _ old.events old.log old.round s noted same c.note_changed.new.self _ moment c.as_slice.result.now clean
          (λ cell. ap (λ cells. is_among cells cell) c.as_slice.ensures.value ∙ news.readers cell ∙ readers_told t old.calc _ old.events old.log old.round s noted kept c.facts.ensures cell)
          (c.in_ok-note_changed.ensures.ok (calc_of t s noted) kept.book)
          taken.servers taken.published (taken.throttle ∙ ap (λ throttle. pulled_throttle throttle moment) same.rtd.throttle) taken.taken taken.opening taken.read.readers taken.round;
    })

pub returns-in_err-news-clause-numbers : goal.returns-in_err-news-clause-numbers
returns-in_err-news-clause-numbers g c = record { round = refl; room = refl; log = record { entries = refl; room = refl } }

pub returns-in_err-note_changed-clause-numbers : goal.returns-in_err-note_changed-clause-numbers
returns-in_err-note_changed-clause-numbers g c = record { round = refl; room = refl; log = record { entries = refl; room = refl } }

pub returns-clause-numbers : goal.returns-clause-numbers
returns-clause-numbers g c = record { round = refl; room = refl; log = record { entries = refl; room = refl } }
