use Rattle.std.proofs.Common.{◌≡◌, ◌<◌, ◌≤◌, ◌++◌, true, false, length}
use Rattle.cell_refs.specs.declared.grid.Cell.{Cell}
use Rattle.cell_refs.specs.Cell.{is_among}
use Rattle.topic_source.specs.Source.{KeepsValues}
use Rattle.calc_round.specs.Looks.{HasRoomBeside, setting_for}
use Rattle.calc_round.specs.Readings.{ReadsFollow}
use Rattle.calc_round.specs.Rounds.{HasSameCells, IsWorking, KeepsFinished, names_unfinished}
use Rattle.calc_round.proofs.rounds.pass.Given as goal

-- the cells that wait were looked at; where none was finished, each names an unfinished one
abbrev pub invariant-looks : goal.invariant-looks
invariant-looks g l = record {
  working : IsWorking (setting_for g.F.AddIns.answer (g.T.TopicSource.state l.fn.topics).snapshot l.looker.log.now l.looker.book.now) l.looker.book.now.contents l.store l.chain.entries
      (l.work.waiting.items ++ l.chain.due) l.work.calls.calls l.looker.round;
  reads : ReadsFollow (setting_for g.F.AddIns.answer (g.T.TopicSource.state l.fn.topics).snapshot l.looker.log.now l.looker.book.now) (g.T.TopicSource.state l.topics) l.looker.book.now.contents l.store;
  values : KeepsValues (g.T.TopicSource.state l.fn.topics) (g.T.TopicSource.state l.topics);
  kept : KeepsFinished l.fn.store l.store;
  cells : HasSameCells l.fn.chain.entries l.chain.entries;
  room : HasRoomBeside l.chain.due l.work;
  session : l.work.calls.session ≡ l.fn.work.calls.session;
  few : length (l.work.waiting.items ++ l.chain.due) ≤ length l.fn.chain.due;
  fewer : l.moved ≡ true → length (l.work.waiting.items ++ l.chain.due) < length l.fn.chain.due;
  stuck : l.moved ≡ false → (q : Cell) → is_among l.work.waiting.items q ≡ true → names_unfinished l.looker.book.now.contents l.store q ≡ true;
}

abbrev pub decreases-looks : goal.decreases-looks
decreases-looks g l = length l.chain.due
