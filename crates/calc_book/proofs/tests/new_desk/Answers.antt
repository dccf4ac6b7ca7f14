use Rattle.std.proofs.Common.{pos, [], refl, ap, sym, subst}
use Rattle.addin_types.specs.Samples.{sample_answer}
use Rattle.calc_book.specs.Samples.{IsInStep, feed_state}
use Rattle.calc_book.proofs.Samples.{first-step}
use Rattle.calc_round.specs.Rounds.{round_setting}
use Rattle.workbook.specs.Registry.{registration_of}
use Rattle.calc_book.proofs.tests.new_desk.Goals as goal

pub returns : goal.returns
returns c =
    let new = c.in_ok-book.ensures in
    let log = c.in_ok-log.log in
    let setting = round_setting sample_answer (feed_state (pos 10) []).snapshot (λ cell. []) c.in_ok-book.book.book.functions in
    record {
      state = new.state setting;
      rest = new.rest setting;
      step = subst (λ readings. IsInStep (feed_state (pos 10) readings) log (new.state setting)) (sym c.new.ensures.items)
          (first-step (pos 10) log (new.state setting) setting (new.setting setting) refl
          (λ name. ap (λ functions. registration_of functions name) (new.rest setting).holds.functions)
          (λ cell site. refl) c.in_ok-log.ensures.results (new.completed setting));
      room = c.in_ok-log.ensures.room;
    }
