use Rattle.std.proofs.Common.{◌≡◌, None, Some, [], ◌∷◌, ◌++◌, cond, false, true, refl, ap, sym, subst, ◌∙◌}
use Rattle.std.specs.BTreeMap.{insert_entry}
use Rattle.workbook.specs.Registry.{name_cmp}
use Rattle.workbook.specs.Step.{callers_of}
use Rattle.workbook.specs.declared.commands.Command.TheVariants as commands
use Rattle.workbook.specs.declared.replies.Reply.TheVariants as replies
use Rattle.host_core.specs.HostKeeping.{calc_of}
use Rattle.host_core.specs.Standing.{terms_with}
use Rattle.host_core.proofs.HostKept.{kept-book, kept-edited}
use Rattle.host_core.proofs.HostSteps.{busy_reply, free_reply, states_of, step_aside, step_of}
use Rattle.host_core.proofs.round_books.RoundBook.register.Goals as goal

pub returns-then-self-clause-step : goal.returns-then-self-clause-step
returns-then-self-clause-step g c answer =
    let old = c.args.self.now in
    step_aside g.S.RtdServer.state answer old true (commands.Register c.args.name c.args.registration) (replies.Busy old.round) c.if-self.true (λ session limit s noted kept. (busy_reply s old.round kept.runs kept.numbered _, refl))

pub returns-then-is_reserved-clause-step : goal.returns-then-is_reserved-clause-step
returns-then-is_reserved-clause-step g c answer =
    let old = c.args.self.now in
    step_aside g.S.RtdServer.state answer old false (commands.Register c.args.name c.args.registration) replies.Builtin c.if-self.false
    (λ session limit s noted kept. (sym (ap (λ b. cond b replies.Builtin replies.Ok) (sym c.is_reserved.ensures ∙ c.if-is_reserved.true)) ∙ free_reply s kept.runs _, refl))

pub returns-in-Ok-clause-step : goal.returns-in-Ok-clause-step
returns-in-Ok-clause-step g c answer =
    let old = c.args.self.now in
    let name = c.args.name in
    let registration = c.args.registration in
    step_of g.S.RtdServer.state answer old (record old { calc = c.register.new.self }) false false (commands.Register name registration) replies.Ok c.if-self.false c.if-self.false
    (λ session limit s noted kept. record {
      noted = callers_of s.book.contents name ++ noted;
      said = sym (ap (λ b. cond b replies.Builtin replies.Ok) (sym c.is_reserved.ensures ∙ c.if-is_reserved.false)) ∙ free_reply s kept.runs _;
      kept = λ clean. kept-edited (terms_with answer session limit) old.calc _ old.events old.log old.round s noted kept c.register.new.self (record s.book { functions = insert_entry name_cmp s.book.functions name registration }) (callers_of s.book.contents name) clean
          (c.in-Ok.ensures.ok (calc_of (terms_with answer session limit) s noted) kept.book);
    })

pub returns-in-Err-clause-refused : goal.returns-in-Err-clause-refused
returns-in-Err-clause-refused g c answer =
    let old = c.args.self.now in
    states_of g.S.RtdServer.state answer old (record old { calc = c.register.new.self }) false c.if-self.false refl refl
    (λ session limit s noted kept. kept-book (terms_with answer session limit) old.calc _ old.events old.log old.round s noted kept c.register.new.self (c.in-Err.ensures.refused (calc_of (terms_with answer session limit) s noted) kept.book))

pub returns-then-self-clause-numbers : goal.returns-then-self-clause-numbers
returns-then-self-clause-numbers g c = record { round = refl; room = refl; log = record { entries = refl; room = refl } }

pub returns-then-is_reserved-clause-numbers : goal.returns-then-is_reserved-clause-numbers
returns-then-is_reserved-clause-numbers g c = record { round = refl; room = refl; log = record { entries = refl; room = refl } }

pub returns-in-Ok-clause-numbers : goal.returns-in-Ok-clause-numbers
returns-in-Ok-clause-numbers g c = record { round = refl; room = refl; log = record { entries = refl; room = refl } }

pub returns-in-Err-clause-numbers : goal.returns-in-Err-clause-numbers
returns-in-Err-clause-numbers g c = record { round = refl; room = refl; log = record { entries = refl; room = refl } }

pub same-name : goal.same-name
same-name g c = refl
