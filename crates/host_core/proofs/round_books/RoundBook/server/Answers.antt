use Rattle.std.proofs.Common.{◌≡◌, ℕ, List, cond, false, true, refl, ap, sym, ◌∙◌}
use Rattle.rtd_topics.specs.Parts.{rtd_of}
use Rattle.workbook.specs.declared.commands.Command.TheVariants as commands
use Rattle.workbook.specs.declared.replies.Reply.TheVariants as replies
use Rattle.host_core.specs.HostKeeping.{is_known}
use Rattle.host_core.specs.Standing.{terms_with}
use Rattle.host_core.proofs.HostKept.{kept-same_rtd}
use Rattle.host_core.proofs.HostSteps.{busy_reply, free_reply, not_missing, refused_after, states_of, step_after, step_aside}
use Rattle.host_core.proofs.round_books.RoundBook.server.Goals as goal

pub returns-then-self-clause-step : goal.returns-then-self-clause-step
returns-then-self-clause-step g c answer =
    let old = c.args.self.now in
    step_aside g.S.RtdServer.state answer old true (commands.Server c.args.name.now) (replies.Busy old.round) c.if-self.true (λ session limit s noted kept. (busy_reply s old.round kept.runs kept.numbered _, refl))

pub returns-then-knows-clause-step : goal.returns-then-knows-clause-step
returns-then-knows-clause-step g c answer =
    let old = c.args.self.now in
    let name = c.args.name.now in
    step_aside g.S.RtdServer.state answer old false (commands.Server name) replies.Known c.if-self.false
    (λ session limit s noted kept.
    let known = ap (λ servers. is_known servers name) (sym kept.rtd.servers) ∙ sym c.knows.ensures ∙ c.if-knows.true in
    (sym (ap (λ b. cond b replies.Known replies.Ok) known) ∙ free_reply s kept.runs _, refl))

pub returns-in-Ok-Some-clause-step : goal.returns-in-Ok-Some-clause-step
returns-in-Ok-Some-clause-step g c answer =
    let old = c.args.self.now in
    let named = rw c.in-Ok-Some.field-0-is at c.in-Ok-Some.ensures.named in
    let rtd = c.in-Ok-Some.ensures.same in
    let mid = record old { rtd = c.make_server.new.self } in
    step_after g.S.RtdServer.state answer old mid c.admit.new.self
    (states_of g.S.RtdServer.state answer old mid old.running refl refl refl
    (λ session limit s noted kept. kept-same_rtd (terms_with answer session limit) old.calc _ old.events old.log old.round s noted old.running kept _ rtd.servers rtd.published rtd.throttle rtd.topics))
    c.admit.result (commands.Server c.args.name.now) (commands.Server c.in-Ok-Some.server.name) (ap (λ (n : List ℕ). commands.Server n) named) (c.admit.ensures.step answer)

pub returns-in-Ok-Some-clause-refused : goal.returns-in-Ok-Some-clause-refused
returns-in-Ok-Some-clause-refused g c answer =
    let old = c.args.self.now in
    let rtd = c.in-Ok-Some.ensures.same in
    let mid = record old { rtd = c.make_server.new.self } in
    refused_after g.S.RtdServer.state answer old mid c.admit.new.self
    (states_of g.S.RtdServer.state answer old mid old.running refl refl refl
    (λ session limit s noted kept. kept-same_rtd (terms_with answer session limit) old.calc _ old.events old.log old.round s noted old.running kept _ rtd.servers rtd.published rtd.throttle rtd.topics))
    c.admit.result (c.admit.ensures.refused answer)

pub returns-in-Ok-Some-clause-numbers : goal.returns-in-Ok-Some-clause-numbers
returns-in-Ok-Some-clause-numbers g c = record { round = c.admit.ensures.numbers.round; room = c.admit.ensures.numbers.room; log = record { entries = c.admit.ensures.numbers.log.entries; room = c.admit.ensures.numbers.log.room } }

pub admit-requires-clause-rests : goal.admit-requires-clause-rests
admit-requires-clause-rests g c = c.if-self.false

pub admit-requires-clause-room : goal.admit-requires-clause-room
admit-requires-clause-room g c = c.in-Ok-Some.ensures.room

pub admit-requires-clause-unknown : goal.admit-requires-clause-unknown
admit-requires-clause-unknown g c =
    let named = rw c.in-Ok-Some.field-0-is at c.in-Ok-Some.ensures.named in
    ap (λ servers. is_known servers c.in-Ok-Some.server.name) c.in-Ok-Some.ensures.same.servers
    ∙ ap (λ (n : List ℕ). is_known (rtd_of g.S.RtdServer.state c.args.self.now.rtd).servers n) named
    ∙ sym c.knows.ensures ∙ c.if-knows.false

pub unreachable-requires : goal.unreachable-requires
unreachable-requires g c = not_missing _ c.in-Ok-None.field-0-is c.in-Ok-None.ensures.started

pub returns-in-Err-clause-refused : goal.returns-in-Err-clause-refused
returns-in-Err-clause-refused g c answer =
    let old = c.args.self.now in
    let rtd = c.in-Err.ensures.same in
    states_of g.S.RtdServer.state answer old (record old { rtd = c.make_server.new.self }) old.running refl refl refl
    (λ session limit s noted kept. kept-same_rtd (terms_with answer session limit) old.calc _ old.events old.log old.round s noted old.running kept _ rtd.servers rtd.published rtd.throttle rtd.topics)

pub returns-then-self-clause-numbers : goal.returns-then-self-clause-numbers
returns-then-self-clause-numbers g c = record { round = refl; room = refl; log = record { entries = refl; room = refl } }

pub returns-then-knows-clause-numbers : goal.returns-then-knows-clause-numbers
returns-then-knows-clause-numbers g c = record { round = refl; room = refl; log = record { entries = refl; room = refl } }

pub returns-in-Err-clause-numbers : goal.returns-in-Err-clause-numbers
returns-in-Err-clause-numbers g c = record { round = refl; room = refl; log = record { entries = refl; room = refl } }
