use Rattle.std.proofs.Common.{◌≡◌, None, Some, [], ◌∷◌, ◌++◌, cond, false, true, refl, ap, sym, subst, ◌∙◌}
use Rattle.std.specs.Map.{remove_entry}
use Rattle.cell_refs.specs.Cell.{same_cell}
use Rattle.workbook.specs.declared.commands.Command.TheVariants as commands
use Rattle.workbook.specs.declared.replies.Reply.TheVariants as replies
use Rattle.host_core.specs.HostKeeping.{calc_of}
use Rattle.host_core.specs.Standing.{terms_with}
use Rattle.host_core.proofs.HostKept.{kept-book, kept-edited}
use Rattle.host_core.proofs.HostSteps.{busy_reply, free_reply, states_of, step_aside, step_of}
use Rattle.host_core.proofs.round_books.RoundBook.clear.Goals as goal

pub returns-then-self-clause-step : goal.returns-then-self-clause-step
returns-then-self-clause-step g c answer =
    let old = c.args.self.now in
    step_aside g.S.RtdServer.state answer old true (commands.Clear c.args.cell) (replies.Busy old.round) c.if-self.true (λ session limit s noted kept. (busy_reply s old.round kept.runs kept.numbered _, refl))

pub returns-in-Ok-clause-step : goal.returns-in-Ok-clause-step
returns-in-Ok-clause-step g c answer =
    let old = c.args.self.now in
    let cell = c.args.cell in
    step_of g.S.RtdServer.state answer old (record old { calc = c.clear.new.self }) false false (commands.Clear cell) replies.Ok c.if-self.false c.if-self.false
    (λ session limit s noted kept. record {
      noted = cell ∷ noted;
      said = free_reply s kept.runs _;
      kept = λ clean. kept-edited (terms_with answer session limit) old.calc _ old.events old.log old.round s noted kept c.clear.new.self (record s.book { contents = remove_entry (same_cell cell) s.book.contents }) (cell ∷ []) clean
          (c.in-Ok.ensures.ok (calc_of (terms_with answer session limit) s noted) kept.book);
    })

pub returns-in-Err-clause-refused : goal.returns-in-Err-clause-refused
returns-in-Err-clause-refused g c answer =
    let old = c.args.self.now in
    states_of g.S.RtdServer.state answer old (record old { calc = c.clear.new.self }) false c.if-self.false refl refl
    (λ session limit s noted kept. kept-book (terms_with answer session limit) old.calc _ old.events old.log old.round s noted kept c.clear.new.self (c.in-Err.ensures.refused (calc_of (terms_with answer session limit) s noted) kept.book))

pub returns-then-self-clause-numbers : goal.returns-then-self-clause-numbers
returns-then-self-clause-numbers g c = record { round = refl; room = refl; log = record { entries = refl; room = refl } }

pub returns-in-Ok-clause-numbers : goal.returns-in-Ok-clause-numbers
returns-in-Ok-clause-numbers g c = record { round = refl; room = refl; log = record { entries = refl; room = refl } }

pub returns-in-Err-clause-numbers : goal.returns-in-Err-clause-numbers
returns-in-Err-clause-numbers g c = record { round = refl; room = refl; log = record { entries = refl; room = refl } }
