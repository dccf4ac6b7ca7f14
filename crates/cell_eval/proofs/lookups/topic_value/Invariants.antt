use Rattle.std.proofs.Common.{◌≡◌, drop}
use Rattle.cell_eval.specs.Jobs.{topic_value}
use Rattle.cell_eval.proofs.lookups.topic_value.Given as goal

-- what is looked for is among the entries that are still to come
abbrev pub invariant-loop-known : goal.invariant-loop-known
invariant-loop-known l = topic_value l.topics l.topic ≡ topic_value (drop l.known-index l.topics) l.topic
