use Rattle.std.proofs.Common.{◌∙◌, ◌++◌, List, ℕ, ap}
use Rattle.functions.proofs.RepeatFacts.{repeat_more}
use Rattle.functions.proofs.text_writing.repeated.Goals as goal

pub loop-time-preserved : goal.loop-time-preserved
loop-time-preserved c =
    c.in_ok-push_str.ensures.bytes ∙ (ap (λ (t : List ℕ). t ++ c.args.s.now) c.loop-time.invariant ∙ repeat_more c.loop-time._time c.args.s.now)
