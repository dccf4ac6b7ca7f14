use Rattle.std.proofs.Common.{◌≡◌, true, cond, refl, ap, sym, ◌∙◌}
use Rattle.workbook.specs.State.{setting_of}
use Rattle.workbook.specs.declared.commands.Command.TheVariants as commands
use Rattle.workbook.specs.declared.replies.Reply.TheVariants as replies
use Rattle.workbook.specs.Step.{after_return}
use Rattle.host_core.specs.HostKeeping.{calc_of}
use Rattle.host_core.specs.Standing.{terms_with}
use Rattle.host_core.proofs.HostKept.{differ_there, is_round, kept-accepted}
use Rattle.host_core.proofs.HostSteps.{kept_at, stands_next}
use Rattle.host_core.proofs.Returning.{forgets_reader, open_formula}
use Rattle.host_core.proofs.round_books.RoundBook.accept.Goals as goal

pub accept-requires-clause-room : goal.accept-requires-clause-room
accept-requires-clause-room g c = c.requires.log_room

pub accept-requires-clause-spare : goal.accept-requires-clause-spare
accept-requires-clause-spare g c = c.requires.spare

pub forget-requires : goal.forget-requires
forget-requires g c =
    let old = c.args.self.now in
    let q = c.requires.stands in
    let t = terms_with q.0 q.1.0 q.1.1 in
    is_round t old.calc _ old.events old.log old.round q.1.2 q.1.3.noted (kept_at g.S.RtdServer.state q.0 t old q.1.2 true c.requires.runs q.1.3)

pub redeem-requires : goal.redeem-requires
redeem-requires g c =
    let old = c.args.self.now in
    let q = c.requires.stands in
    let t = terms_with q.0 q.1.0 q.1.1 in
    let kept = kept_at g.S.RtdServer.state q.0 t old q.1.2 true c.requires.runs q.1.3 in
    record { runs = (setting_of t q.1.2, old.round, (calc_of t q.1.2 q.1.3.noted, kept.book)) }

pub returns-clause-accepted : goal.returns-clause-accepted
returns-clause-accepted g c answer session limit s stands asked =
    let old = c.args.self.now in
    let handle = c.args.handle in
    let value = c.args.value in
    let t = terms_with answer session limit in
    let kept = kept_at g.S.RtdServer.state answer t old s true c.requires.runs stands in
    let rtd = c.forget.ensures in
    let calc = calc_of t s stands.noted in
    let later = after_return s handle value in
    let ended = c.redeem.ensures.live ∙ c.requires.live in
    let differ = differ_there t old.calc _ old.events old.log old.round s stands.noted kept handle value in
    (stands_next g.S.RtdServer.state answer t s (record old { calc = c.redeem.new.self; rtd = c.forget.new.self; log = c.accept.new.self }) true (commands.Return handle value) (replies.Code 0) c.requires.runs kept.clean
    (record {
      noted = stands.noted;
      said = ap (λ b. replies.Code (cond b 0 256)) (sym asked);
      kept = λ clean. kept-accepted t old.calc _ old.events old.log old.round s stands.noted kept handle value c.redeem.new.self _ c.accept.new.self clean
          (open_formula t s handle asked)
          (c.redeem.ensures.ended (setting_of t s) (setting_of t later) old.round calc ended differ kept.book)
          (c.redeem.ensures.reads (setting_of t s) (setting_of t later) old.round calc ended differ kept.book _ _
          (forgets_reader _ _ handle.cell rtd.servers rtd.opening rtd.reading) (kept.reads refl))
          rtd.servers rtd.published rtd.throttle rtd.taken rtd.opening rtd.readers rtd.round c.accept.ensures.results;
    })).1

pub returns-clause-entries : goal.returns-clause-entries
returns-clause-entries g c = c.accept.ensures.entries

pub returns-clause-log_room : goal.returns-clause-log_room
returns-clause-log_room g c = c.accept.ensures.room

pub returns-clause-round : goal.returns-clause-round
returns-clause-round g c = refl

pub returns-clause-room : goal.returns-clause-room
returns-clause-room g c = refl
