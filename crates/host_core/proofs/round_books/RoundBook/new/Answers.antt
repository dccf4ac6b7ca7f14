use Rattle.std.proofs.Common.{[], refl, ap}
use Rattle.calc_events.specs.Listening.{Listening}
use Rattle.clean_cells.proofs.PublicLaws.{always_kept}
use Rattle.workbook.specs.State.{completed_setting, first_state}
use Rattle.host_core.specs.Standing.{terms_with}
use Rattle.host_core.proofs.HostKept.{kept-first}
use Rattle.host_core.proofs.round_books.RoundBook.new.Goals as goal

pub returns-clause-stands : goal.returns-clause-stands
returns-clause-stands g c answer limit =
    let t = terms_with answer c.args.session limit in
    let rtd = c.new-3.ensures in record {
      noted = [];
      kept = kept-first t c.new-2.result _ c.in_ok-events.events c.in_ok-log.log (always_kept t []) (c.new-2.ensures (completed_setting t first_state))
          rtd.servers rtd.published rtd.taken rtd.throttle rtd.opening rtd.readers rtd.round (ap (λ (all : Listening). all.listeners) c.in_ok-events.ensures) c.in_ok-log.ensures.results;
    }
