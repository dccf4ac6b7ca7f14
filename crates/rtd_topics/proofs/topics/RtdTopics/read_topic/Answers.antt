use Rattle.std.proofs.Common.{◌≡◌, false, cond, Some, None, ap, rules}
use Rattle.std.specs.Prelude.{◌&&◌, is_some, map}
use Rattle.rtd_topics.specs.Parts.{known_of, opening_of}
use Rattle.rtd_topics.specs.RtdState.{knows_topic}
use Rattle.rtd_topics.proofs.Reading.{noted-none}
use Rattle.rtd_topics.proofs.Results.{on-ok_always}
use Rattle.rtd_topics.proofs.topics.RtdTopics.read_topic.Goals as goal

pub returns-then-not-self-clause-noted : goal.returns-then-not-self-clause-noted
returns-then-not-self-clause-noted g c =
    let rests : c.args.self.now.is_running ≡ false = search rules in
    on-ok_always c.value_at_rest.result _
    (λ t cell. noted-none _ _ _ (ap (λ b. is_some (cond b (Some (opening_of g.S.RtdServer.state c.args.self.now.servers)) None) && knows_topic (map known_of c.args.self.now.servers) c.args.topic.now) rests))
