use Rattle.std.proofs.Common.{zero, refl}
use Rattle.calc_book.specs.CalcState.{calc_begin}
use Rattle.workbook.specs.declared.commands.BeginKind.TheVariants as kinds
use Rattle.calc_book.specs.Samples.{sample_setting}
use Rattle.calc_book.proofs.Samples.{alike-now}
use Rattle.command_log.specs.Log.{results_of}
use Rattle.calc_book.proofs.tests.begin_in_vain.Goals as goal

pub returns : goal.returns
returns c =
    let r = c.requires in
    let d = c.args.desk.now in
    record {
      state = r.state;
      rest = c.cancel.ensures (sample_setting d.book d.log d.feed.value) zero (calc_begin r.state kinds.Dirty)
          (c.in_ok-_forgotten.ensures.ok r.state r.rest (sample_setting d.book d.log d.feed.value) zero
          (alike-now d.feed.value d.feed.readings.items d.log (results_of d.log) d.book r.state kinds.Dirty r.rest (λ cell fresh unchanged. refl) r.step));
      step = r.step;
      room = r.room;
    }
