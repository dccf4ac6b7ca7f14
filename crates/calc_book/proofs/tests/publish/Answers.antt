use Rattle.std.proofs.Common.{map, ap, ◌∙◌}
use Rattle.calc_book.specs.CalcState.{calc_note}
use Rattle.calc_book.proofs.Samples.{publish-step}
use Rattle.calc_book.proofs.tests.publish.Goals as goal

pub returns : goal.returns
returns c = record {
  state = calc_note c.requires.state c.as_slice-2.result.now;
  rest = c.in_ok-note_changed.ensures.ok c.requires.state c.requires.rest;
  step = publish-step c.args.desk.now.feed.value _ c.args.desk.now.feed.readings.items c.args.desk.now.log c.requires.state c.as_slice-2.result.now
      (c.as_slice-2.ensures.value ∙ c.in_ok-readers.ensures ∙ ap (map (λ e. e.1)) c.as_slice.ensures.value) c.requires.step;
  room = c.requires.room;
}
