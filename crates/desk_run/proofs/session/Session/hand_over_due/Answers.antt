use Rattle.desk_run.proofs.Turns.{handed_all}
use Rattle.desk_run.proofs.session.Session.hand_over_due.Goals as goal

pub returns-clause-text : goal.returns-clause-text
returns-clause-text g c before text had =
    handed_all before text c.args.self.now.held.items c.hand_over.new.self.held.items (g.O.Sink.written c.args.out.now) (g.O.Sink.written c.hand_over.new.out) c.hand_over.result had c.hand_over.ensures.held c.hand_over.ensures.all
