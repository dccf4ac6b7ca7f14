use Rattle.std.proofs.Common.{◌∙◌, sym}
use Rattle.calc_events.proofs.SeenLaws.{has-listener}
use Rattle.calc_events.proofs.listening.knows.Goals as goal

pub returns : goal.returns
returns c fired = c.contains_key.ensures ∙ sym (has-listener fired c.args.name.now c.args.seen.now.entries)
