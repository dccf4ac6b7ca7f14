use Rattle.std.proofs.Common.{refl}
use Rattle.host_core.specs.Standing.{terms_with}
use Rattle.host_core.proofs.HostKept.{kept-logged}
use Rattle.host_core.proofs.HostSteps.{states_of}
use Rattle.host_core.proofs.round_books.RoundBook.note.Goals as goal

pub returns-clause-kept : goal.returns-clause-kept
returns-clause-kept g c answer =
    let old = c.args.self.now in
    states_of g.S.RtdServer.state answer old (record old { log = c.push.new.self }) old.running refl refl refl
    (λ session limit s noted kept. kept-logged (terms_with answer session limit) old.calc _ old.events old.log old.round s noted old.running kept c.push.new.self c.push.ensures.results)
