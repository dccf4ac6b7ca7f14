use Rattle.std.proofs.Common.{◌≡◌, None, Some, [], ◌∷◌, ◌++◌, cond, false, true, refl, ap, sym, subst, ◌∙◌}
use Rattle.std.specs.BTreeMap.{insert_entry}
use Rattle.cell_refs.specs.Cell.{cell_cmp}
use Rattle.workbook.specs.declared.books.SetFault.TheVariants as faults
use Rattle.workbook.specs.Book.{IsRefusal, limit_fault}
use Rattle.workbook.specs.declared.commands.Command.TheVariants as commands
use Rattle.workbook.specs.declared.replies.Reply.TheVariants as replies
use Rattle.host_core.specs.HostKeeping.{calc_of}
use Rattle.host_core.specs.Standing.{terms_with}
use Rattle.host_core.proofs.HostKept.{kept-book, kept-edited}
use Rattle.host_core.proofs.HostSteps.{busy_reply, cells_reply, formulas_reply, set_reply, states_of, step_aside, step_of}
use Rattle.host_core.proofs.round_books.RoundBook.set.Goals as goal

pub returns-then-self-clause-step : goal.returns-then-self-clause-step
returns-then-self-clause-step g c answer =
    let old = c.args.self.now in
    step_aside g.S.RtdServer.state answer old true (commands.Set c.args.cell c.args.content) (replies.Busy old.round) c.if-self.true (λ session limit s noted kept. (busy_reply s old.round kept.runs kept.numbered _, refl))

pub returns-in-Ok-clause-step : goal.returns-in-Ok-clause-step
returns-in-Ok-clause-step g c answer =
    let old = c.args.self.now in
    let cell = c.args.cell in
    let content = c.args.content in
    step_of g.S.RtdServer.state answer old (record old { calc = c.set.new.self }) false false (commands.Set cell content) replies.Ok c.if-self.false c.if-self.false
    (λ session limit s noted kept.
    let none = subst (λ book. limit_fault book cell content ≡ None) kept.book.holds.book c.in-Ok.ensures.limits in record {
      noted = cell ∷ noted;
      said = set_reply (terms_with answer session limit) s kept.runs cell content none;
      kept = λ clean. kept-edited (terms_with answer session limit) old.calc _ old.events old.log old.round s noted kept c.set.new.self (record s.book { contents = insert_entry cell_cmp s.book.contents cell content }) (cell ∷ []) clean
          (c.in-Ok.ensures.ok (calc_of (terms_with answer session limit) s noted) kept.book);
    })

pub returns-in-Err-CellLimit-clause-step : goal.returns-in-Err-CellLimit-clause-step
returns-in-Err-CellLimit-clause-step g c answer =
    let old = c.args.self.now in
    let cell = c.args.cell in
    let content = c.args.content in
    let back = c.in-Err-CellLimit.field-0-0 in
    step_of g.S.RtdServer.state answer old (record old { calc = c.set.new.self }) false false (commands.Set cell content) replies.CellLimit c.if-self.false c.if-self.false
    (λ session limit s noted kept.
    let over = subst (λ book. IsRefusal (limit_fault book cell content) content (faults.CellLimit back)) kept.book.holds.book
    (subst (IsRefusal (limit_fault old.calc.book.contents cell content) content) c.in-Err-CellLimit.field-0-is c.in-Err-CellLimit.ensures.limits) in record {
      noted = noted;
      said = cells_reply (terms_with answer session limit) s kept.runs cell content back over;
      kept = λ clean. kept-book (terms_with answer session limit) old.calc _ old.events old.log old.round s noted kept c.set.new.self (c.in-Err-CellLimit.ensures.refused (calc_of (terms_with answer session limit) s noted) kept.book);
    })

pub returns-in-Err-FormulaLimit-clause-step : goal.returns-in-Err-FormulaLimit-clause-step
returns-in-Err-FormulaLimit-clause-step g c answer =
    let old = c.args.self.now in
    let cell = c.args.cell in
    let content = c.args.content in
    let back = c.in-Err-FormulaLimit.field-0-0 in
    step_of g.S.RtdServer.state answer old (record old { calc = c.set.new.self }) false false (commands.Set cell content) replies.FormulaLimit c.if-self.false c.if-self.false
    (λ session limit s noted kept.
    let over = subst (λ book. IsRefusal (limit_fault book cell content) content (faults.FormulaLimit back)) kept.book.holds.book
    (subst (IsRefusal (limit_fault old.calc.book.contents cell content) content) c.in-Err-FormulaLimit.field-0-is c.in-Err-FormulaLimit.ensures.limits) in record {
      noted = noted;
      said = formulas_reply (terms_with answer session limit) s kept.runs cell content back over;
      kept = λ clean. kept-book (terms_with answer session limit) old.calc _ old.events old.log old.round s noted kept c.set.new.self (c.in-Err-FormulaLimit.ensures.refused (calc_of (terms_with answer session limit) s noted) kept.book);
    })

pub returns-clause-refused : goal.returns-clause-refused
returns-clause-refused g c answer =
    let old = c.args.self.now in
    states_of g.S.RtdServer.state answer old (record old { calc = c.set.new.self }) false c.if-self.false refl refl
    (λ session limit s noted kept. kept-book (terms_with answer session limit) old.calc _ old.events old.log old.round s noted kept c.set.new.self (c.in-Err-Memory.ensures.refused (calc_of (terms_with answer session limit) s noted) kept.book))

pub returns-then-self-clause-numbers : goal.returns-then-self-clause-numbers
returns-then-self-clause-numbers g c = record { round = refl; room = refl; log = record { entries = refl; room = refl } }

pub returns-in-Ok-clause-numbers : goal.returns-in-Ok-clause-numbers
returns-in-Ok-clause-numbers g c = record { round = refl; room = refl; log = record { entries = refl; room = refl } }

pub returns-in-Err-CellLimit-clause-numbers : goal.returns-in-Err-CellLimit-clause-numbers
returns-in-Err-CellLimit-clause-numbers g c = record { round = refl; room = refl; log = record { entries = refl; room = refl } }

pub returns-in-Err-FormulaLimit-clause-numbers : goal.returns-in-Err-FormulaLimit-clause-numbers
returns-in-Err-FormulaLimit-clause-numbers g c = record { round = refl; room = refl; log = record { entries = refl; room = refl } }

pub returns-clause-numbers : goal.returns-clause-numbers
returns-clause-numbers g c = record { round = refl; room = refl; log = record { entries = refl; room = refl } }
