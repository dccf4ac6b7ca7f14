use Rattle.std.proofs.Common.{sym, ◌∙◌}
use Rattle.rtdhost.specs.Words.{texts}
use Rattle.rtdhost.proofs.Endings.{stopped_ended}
use Rattle.rtdhost.proofs.program.respond.Goals as goal

pub returns-in-Ok-clause-ended : goal.returns-in-Ok-clause-ended
returns-in-Ok-clause-ended g c input told = (sym c.is_run.ensures ∙ c.if-not-is_run.false, c.in-Ok.ensures.finished input told)

pub returns-in-Err-clause-ended : goal.returns-in-Err-clause-ended
returns-in-Err-clause-ended g c input told =
    stopped_ended c.in-Err.stop c.status_at.result (texts c.args.words.now) input (g.O.Sink.written c.args.out.now) (g.I.Source.remaining c.run.new.src) (g.O.Sink.written c.run.new.out)
    c.status_at.ensures (sym c.is_run.ensures ∙ c.if-not-is_run.false) (c.in-Err.ensures.stopped input told)
