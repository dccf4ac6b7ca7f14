use Rattle.std.proofs.Common.{◌≡◌, ◌+◌, ◌<◌, false, true, arith, refl, ap, sym, subst, ◌∙◌}
use Rattle.calc_book.specs.CalcState.{calc_begin}
use Rattle.calc_book.specs.Keeping.{is_forgotten}
use Rattle.cell_refs.specs.declared.grid.Cell.{Cell}
use Rattle.cell_refs.specs.Cell.{is_among}
use Rattle.workbook.specs.State.{setting_of}
use Rattle.workbook.specs.declared.commands.Command.TheVariants as commands
use Rattle.workbook.specs.declared.replies.Reply.TheVariants as replies
use Rattle.workbook.specs.Step.{after_begin, changed_at_begin}
use Rattle.host_core.specs.HostKeeping.{calc_of}
use Rattle.host_core.specs.Standing.{terms_with}
use Rattle.host_core.proofs.HostKept.{alike_begun, kept-begun, kept-book}
use Rattle.host_core.proofs.HostSteps.{busy_reply, free_reply, kept_at, states_of, step_aside, step_of}
use Rattle.host_core.proofs.round_books.RoundBook.begin.Goals as goal

pub begin-requires : goal.begin-requires
begin-requires g c =
    let q = c.requires.stands in
    let t = terms_with q.0 q.1.0 q.1.1 in
    let kept = kept_at g.S.RtdServer.state q.0 t c.args.self.now q.1.2 false c.if-self.false q.1.3 in
    record { rest = (calc_of t q.1.2 q.1.3.noted, kept.book) }

pub begin_round-requires-clause-none : goal.begin_round-requires-clause-none
begin_round-requires-clause-none g c =
    let q = c.requires.stands in
    (kept_at g.S.RtdServer.state q.0 (terms_with q.0 q.1.0 q.1.1) c.args.self.now q.1.2 false c.if-self.false q.1.3).rtd.opening

pub begin_round-requires-clause-later : goal.begin_round-requires-clause-later
begin_round-requires-clause-later g c =
    let q = c.requires.stands in
    let number = q.1.3.kept.number in
    omega (arith, number)

pub returns-then-self-clause-step : goal.returns-then-self-clause-step
returns-then-self-clause-step g c answer =
    let old = c.args.self.now in
    step_aside g.S.RtdServer.state answer old true (commands.Begin c.args.kind) (replies.Busy old.round) c.if-self.true (λ session limit s noted kept. (busy_reply s old.round kept.runs kept.numbered _, refl))

pub returns-in-Ok-clause-step : goal.returns-in-Ok-clause-step
returns-in-Ok-clause-step g c answer =
    let old = c.args.self.now in
    let kind = c.args.kind in
    let begun = c.in-Ok.ensures in
    let rtd = c.begin_round.ensures in
    step_of g.S.RtdServer.state answer old (record old { calc = c.begin.new.self; rtd = c.begin_round.new.self; log = c.forget.new.self; round = old.round + 1; running = true }) false true
    (commands.Begin kind) (replies.Begun (old.round + 1)) c.if-self.false refl
    (λ session limit s noted kept.
    let t = terms_with answer session limit in
    let calc = calc_of t s noted in record {
      noted = changed_at_begin kind s.book.contents noted;
      said = ap (λ n. replies.Begun (n + 1)) (sym kept.numbered) ∙ free_reply s kept.runs _;
      kept = λ clean.
          let alike = alike_begun t old.calc _ old.events old.log old.round s noted kept kind clean in
          let told : (cell : Cell) → is_among c.as_slice-cells.result.now cell ≡ is_forgotten (calc_begin calc kind) cell = λ cell. ap (λ cells. is_among cells cell) c.as_slice-cells.ensures.value ∙ begun.forgotten calc kept.book cell in
          kept-begun t old.calc _ old.events old.log old.round s noted kept kind c.begin.new.self _ c.as_slice-cells.result.now c.forget.new.self clean
          (begun.ok calc kept.book (setting_of t (after_begin s kind)) (old.round + 1) alike)
          (λ source. begun.reads calc kept.book (setting_of t (after_begin s kind)) source alike)
          told rtd.servers rtd.published rtd.throttle rtd.taken rtd.opening rtd.readers rtd.reading rtd.round
          c.forget.ensures.results;
    })

pub returns-in-Err-clause-refused : goal.returns-in-Err-clause-refused
returns-in-Err-clause-refused g c answer =
    let old = c.args.self.now in
    states_of g.S.RtdServer.state answer old (record old { calc = c.begin.new.self }) false c.if-self.false refl refl
    (λ session limit s noted kept. kept-book (terms_with answer session limit) old.calc _ old.events old.log old.round s noted kept c.begin.new.self (c.in-Err.ensures.refused (calc_of (terms_with answer session limit) s noted) kept.book))

pub returns-then-self-clause-numbers : goal.returns-then-self-clause-numbers
returns-then-self-clause-numbers g c = record { round = omega arith; room = omega arith; log = record { entries = refl; room = refl } }

pub returns-in-Ok-clause-numbers : goal.returns-in-Ok-clause-numbers
returns-in-Ok-clause-numbers g c = record { round = omega arith; room = omega arith; log = record { entries = c.forget.ensures.entries; room = c.forget.ensures.room } }

pub returns-in-Err-clause-same_numbers : goal.returns-in-Err-clause-same_numbers
returns-in-Err-clause-same_numbers g c = record { round = refl; room = refl; log = record { entries = refl; room = refl } }

pub overflow_add-self : goal.overflow_add-self
overflow_add-self g c = omega (arith, c.requires.fits)
