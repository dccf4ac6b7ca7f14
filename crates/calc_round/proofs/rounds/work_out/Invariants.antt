use Rattle.std.proofs.Common.{◌≡◌, []}
use Rattle.std.proofs.Common.{length}
use Rattle.command_log.specs.Log.{results_of}
use Rattle.topic_source.specs.Source.{KeepsValues}
use Rattle.calc_round.specs.Looks.{HasRoomBeside, setting_for}
use Rattle.calc_round.specs.Readings.{ReadsFollow}
use Rattle.calc_round.specs.Rounds.{HasSameCells, IsWorking, KeepsFinished}
use Rattle.calc_round.proofs.rounds.work_out.Given as goal

-- none waits, and there is room for all that is due
abbrev pub invariant-passes : goal.invariant-passes
invariant-passes g l = record {
  working : IsWorking (setting_for g.F.AddIns.answer (g.T.TopicSource.state l.fn.topics).snapshot l.log l.book) l.book.contents l.store l.chain.entries l.chain.due l.work.calls.calls l.round;
  reads : ReadsFollow (setting_for g.F.AddIns.answer (g.T.TopicSource.state l.fn.topics).snapshot l.log l.book) (g.T.TopicSource.state l.topics) l.book.contents l.store;
  values : KeepsValues (g.T.TopicSource.state l.fn.topics) (g.T.TopicSource.state l.topics);
  kept : KeepsFinished l.fn.store l.store;
  cells : HasSameCells l.fn.chain.entries l.chain.entries;
  none : l.work.waiting.items ≡ [];
  room : HasRoomBeside l.chain.due l.work;
  session : l.work.calls.session ≡ l.fn.work.calls.session;
}

abbrev pub decreases-passes : goal.decreases-passes
decreases-passes g l = length l.chain.due
