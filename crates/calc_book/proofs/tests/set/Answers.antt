use Rattle.calc_book.specs.Samples.{feed_state}
use Rattle.calc_book.proofs.Samples.{edit-step}
use Rattle.calc_book.proofs.tests.set.Goals as goal

pub returns : goal.returns
returns c = record {
  state = _;
  rest = c.in-Ok.ensures.ok c.requires.state c.requires.rest;
  step = edit-step (feed_state c.args.desk.now.feed.value c.args.desk.now.feed.readings.items) c.args.desk.now.log c.requires.state _ _ c.requires.step;
  room = c.requires.room;
}
