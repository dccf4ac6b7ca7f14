use Rattle.calc_book.specs.CalcState.{calc_settle}
use Rattle.calc_book.specs.Samples.{feed_state, sample_setting}
use Rattle.calc_book.proofs.Samples.{settle-step}
use Rattle.calc_book.proofs.tests.complete.Goals as goal

pub returns : goal.returns
returns c =
    let w = c.requires.worked in
    let d = c.args.desk.now in
    let setting = sample_setting d.book d.log d.feed.value in
    record {
      state = calc_settle w.way.state setting;
      rest = c.complete.ensures.rest setting 1 w.way.state w.settled c.requires.calls;
      step = settle-step d.feed.value d.feed.readings.items d.log d.book w.way.state w.way.running.holds.functions
          (c.complete.ensures.read setting 1 w.way.state (feed_state d.feed.value d.feed.readings.items) w.settled c.requires.calls w.way.reads);
      room = w.way.room;
    }
