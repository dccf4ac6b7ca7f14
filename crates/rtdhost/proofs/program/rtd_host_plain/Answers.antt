use Rattle.rtdhost.specs.Words.{texts}
use Rattle.rtdhost.proofs.Endings.{ok_wrote, ok_read, ok_fits, ok_within, full_passed, full_answered, read_answered, limit_passed, limit_answered, limit_fits, prefix_wrote, no_cause, writes_stand_at_end, reads_stand_or}
use Rattle.rtdhost.proofs.program.rtd_host_plain.Goals as goal

pub returns-in-Ok-clause-ok_written : goal.returns-in-Ok-clause-ok_written
returns-in-Ok-clause-ok_written g c input told is =
    ok_wrote c.respond-status.result (texts c.args.words.now) input (g.O.Sink.written c.args.out.now) _ (g.O.Sink.written c.respond-status.new.out) _ (c.respond-status.ensures.ended input told) is c.finish.ensures.kept

pub returns-in-Ok-clause-ok_read : goal.returns-in-Ok-clause-ok_read
returns-in-Ok-clause-ok_read g c input told is =
    ok_read c.respond-status.result (texts c.args.words.now) input (g.O.Sink.written c.args.out.now) _ (g.O.Sink.written c.respond-status.new.out) (c.respond-status.ensures.ended input told) is

pub returns-in-Ok-clause-read_answered : goal.returns-in-Ok-clause-read_answered
returns-in-Ok-clause-read_answered g c input told is =
    read_answered c.respond-status.result (texts c.args.words.now) input (g.O.Sink.written c.args.out.now) _ (g.O.Sink.written c.respond-status.new.out) _ (c.respond-status.ensures.ended input told) is c.finish.ensures.kept

pub returns-in-Ok-clause-limit : goal.returns-in-Ok-clause-limit
returns-in-Ok-clause-limit g c input told is =
    limit_passed c.respond-status.result (texts c.args.words.now) input (g.O.Sink.written c.args.out.now) _ (g.O.Sink.written c.respond-status.new.out) (c.respond-status.ensures.ended input told) is

pub returns-in-Ok-clause-limit_answered : goal.returns-in-Ok-clause-limit_answered
returns-in-Ok-clause-limit_answered g c input told is =
    limit_answered c.respond-status.result (texts c.args.words.now) input (g.O.Sink.written c.args.out.now) _ (g.O.Sink.written c.respond-status.new.out) _ (c.respond-status.ensures.ended input told) is c.finish.ensures.kept

pub returns-in-Ok-clause-limit_commands : goal.returns-in-Ok-clause-limit_commands
returns-in-Ok-clause-limit_commands g c input told is =
    limit_fits c.respond-status.result (texts c.args.words.now) input (g.O.Sink.written c.args.out.now) _ (g.O.Sink.written c.respond-status.new.out) (c.respond-status.ensures.ended input told) is

pub returns-in-Ok-clause-within : goal.returns-in-Ok-clause-within
returns-in-Ok-clause-within g c input told is =
    ok_within c.respond-status.result (texts c.args.words.now) input (g.O.Sink.written c.args.out.now) _ (g.O.Sink.written c.respond-status.new.out) (c.respond-status.ensures.ended input told) is

pub returns-in-Ok-clause-prefix : goal.returns-in-Ok-clause-prefix
returns-in-Ok-clause-prefix g c input told =
    prefix_wrote c.respond-status.result (texts c.args.words.now) input (g.O.Sink.written c.args.out.now) _ (g.O.Sink.written c.respond-status.new.out) _ (c.respond-status.ensures.ended input told) c.finish.ensures.kept

pub returns-in-Ok-clause-complete : goal.returns-in-Ok-clause-complete
returns-in-Ok-clause-complete g c input told run short few read write =
    no_cause c.respond-status.result (texts c.args.words.now) input (g.O.Sink.written c.args.out.now) _ (g.O.Sink.written c.respond-status.new.out) _ _ _ _ _
    (c.respond-status.ensures.ended input told) c.respond-status.ensures.counted c.finish.ensures.count run short few read write

pub returns-in-Err-clause-prefix : goal.returns-in-Err-clause-prefix
returns-in-Err-clause-prefix g c input told =
    prefix_wrote c.respond-status.result (texts c.args.words.now) input (g.O.Sink.written c.args.out.now) _ (g.O.Sink.written c.respond-status.new.out) _ (c.respond-status.ensures.ended input told) c.finish.ensures.kept

pub returns-in-Ok-clause-write_passed_on : goal.returns-in-Ok-clause-write_passed_on
returns-in-Ok-clause-write_passed_on g c =
    writes_stand_at_end c.respond-status.result _ _ _ _ _ c.respond-status.ensures.counted c.in-Ok.ensures.steady

pub returns-in-Ok-clause-read_passed_on : goal.returns-in-Ok-clause-read_passed_on
returns-in-Ok-clause-read_passed_on g c =
    reads_stand_or c.respond-status.result _ _ _ _ c.respond-status.ensures.counted

pub returns-in-Ok-clause-full : goal.returns-in-Ok-clause-full
returns-in-Ok-clause-full g c input told is =
    full_passed c.respond-status.result (texts c.args.words.now) input (g.O.Sink.written c.args.out.now) _ (g.O.Sink.written c.respond-status.new.out) (c.respond-status.ensures.ended input told) is

pub returns-in-Ok-clause-full_answered : goal.returns-in-Ok-clause-full_answered
returns-in-Ok-clause-full_answered g c input told is =
    full_answered c.respond-status.result (texts c.args.words.now) input (g.O.Sink.written c.args.out.now) _ (g.O.Sink.written c.respond-status.new.out) _ (c.respond-status.ensures.ended input told) is c.finish.ensures.kept

pub returns-in-Ok-clause-within_commands : goal.returns-in-Ok-clause-within_commands
returns-in-Ok-clause-within_commands g c input told is =
    ok_fits c.respond-status.result (texts c.args.words.now) input (g.O.Sink.written c.args.out.now) _ (g.O.Sink.written c.respond-status.new.out) (c.respond-status.ensures.ended input told) is
