use Rattle.calc_book.specs.Samples.{feed_state}
use Rattle.calc_book.proofs.Samples.{note-step}
use Rattle.calc_book.proofs.tests.name_server.Goals as goal

pub returns : goal.returns
returns c = record {
  state = _;
  rest = c.in_ok-note_rtd_callers.ensures.ok c.requires.state c.requires.rest;
  step = note-step (feed_state c.args.desk.now.feed.value c.args.desk.now.feed.readings.items) c.args.desk.now.log c.requires.state _ c.requires.step;
  room = c.requires.room;
}
