use Rattle.rtd_topics.proofs.StateFacts.{linked-none}
use Rattle.rtd_topics.proofs.topics.RtdTopics.new.Goals as goal

pub invariant_of-result : goal.invariant_of-result
invariant_of-result g c = (linked-none g.S.RtdServer.state c.new.result.items c.new-2.result 0 c.new.ensures.items c.new-2.ensures.topics c.new-2.ensures.readings, c.requires)
