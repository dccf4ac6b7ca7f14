use Rattle.std.proofs.Common.{◌≡◌, cond, ◌∷◌, [], ◌++◌, false, true, refl, ap, sym, ◌∙◌}
use Rattle.formula_parse.specs.Tree.{has_rtd_call}
use Rattle.workbook.specs.declared.commands.Command.TheVariants as commands
use Rattle.workbook.specs.declared.replies.Reply.TheVariants as replies
use Rattle.workbook.specs.Step.{formulas_where}
use Rattle.host_core.specs.HostKeeping.{calc_of, is_known}
use Rattle.host_core.specs.Standing.{terms_with}
use Rattle.host_core.proofs.HostKept.{kept-book, kept-paced}
use Rattle.host_core.proofs.HostSteps.{free_reply, states_of, step_of}
use Rattle.host_core.proofs.round_books.RoundBook.admit.Goals as goal

pub returns-in-Ok-clause-step : goal.returns-in-Ok-clause-step
returns-in-Ok-clause-step g c answer =
    let old = c.args.self.now in
    let name = c.args.server.name in
    let rtd = c.add_server.ensures in
    step_of g.S.RtdServer.state answer old (record old { calc = c.note_rtd_callers.new.self; rtd = c.add_server.new.self }) false false (commands.Server name) replies.Ok c.requires.rests c.requires.rests
    (λ session limit s noted kept.
    let unknown = ap (λ servers. is_known servers name) (sym kept.rtd.servers) ∙ c.requires.unknown in record {
      noted = formulas_where s.book.contents has_rtd_call ++ noted;
      said = sym (ap (λ b. cond b replies.Known replies.Ok) unknown) ∙ free_reply s kept.runs _;
      kept = λ clean. kept-paced (terms_with answer session limit) old.calc _ old.events old.log old.round s noted kept c.note_rtd_callers.new.self _ (s.servers ++ (record { name = name; flag = false }) ∷ []) s.throttle
          (formulas_where s.book.contents has_rtd_call) clean (c.in-Ok.ensures.ok (calc_of (terms_with answer session limit) s noted) kept.book)
          (rtd.servers ∙ ap (λ all. all ++ (record { name = name; flag = false }) ∷ []) kept.rtd.servers) rtd.published (rtd.throttle ∙ kept.rtd.throttle) rtd.topics;
    })

pub returns-in-Err-clause-refused : goal.returns-in-Err-clause-refused
returns-in-Err-clause-refused g c answer =
    let old = c.args.self.now in
    states_of g.S.RtdServer.state answer old (record old { calc = c.note_rtd_callers.new.self }) false c.requires.rests refl refl
    (λ session limit s noted kept. kept-book (terms_with answer session limit) old.calc _ old.events old.log old.round s noted kept c.note_rtd_callers.new.self (c.in-Err.ensures.refused (calc_of (terms_with answer session limit) s noted) kept.book))

pub returns-in-Ok-clause-numbers : goal.returns-in-Ok-clause-numbers
returns-in-Ok-clause-numbers g c = record { round = refl; room = refl; log = record { entries = refl; room = refl } }

pub returns-in-Err-clause-numbers : goal.returns-in-Err-clause-numbers
returns-in-Err-clause-numbers g c = record { round = refl; room = refl; log = record { entries = refl; room = refl } }

pub add_server-requires-clause-room : goal.add_server-requires-clause-room
add_server-requires-clause-room g c = c.requires.room

pub add_server-requires-clause-unknown : goal.add_server-requires-clause-unknown
add_server-requires-clause-unknown g c = c.requires.unknown
