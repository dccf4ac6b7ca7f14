use Rattle.std.proofs.Common.{sym, ◌∙◌}
use Rattle.host_io.proofs.LineLaws.{searched_none, searched_found}
use Rattle.host_io.proofs.reader.feed_from.Goals as goal

pub returns-in_err-place : goal.returns-in_err-place
returns-in_err-place c =
    rw c.from_residual.ensures (searched_none c.args.bytes.now c.args.searched c.requires.none
    (sym c.in_err-place.was ∙ c.first_feed.ensures.place))

pub returns : goal.returns
returns c =
    searched_found c.args.bytes.now c.args.searched c.in_ok-place.place c.requires.none
    (sym c.in_ok-place.was ∙ c.first_feed.ensures.place)
