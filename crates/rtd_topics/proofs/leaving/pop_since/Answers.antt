use Rattle.std.specs.Prelude.{nat_eq}
use Rattle.topic_table.specs.Table.{ConnectedTopic}
use Rattle.rtd_topics.proofs.Dropping.{none-all, none-popped, popped-leaves, popped-passes}
use Rattle.rtd_topics.proofs.leaving.pop_since.Goals as goal

pub returns-clause-leaves : goal.returns-clause-leaves
returns-clause-leaves c = popped-leaves c.pop_since.result c.args.table.now c.pop_since.new.self (λ (t : ConnectedTopic). nat_eq c.args.round t.round) c.facts.ensures.rising c.pop_since.ensures.first c.pop_since.ensures.out

pub returns-clause-of : goal.returns-clause-of
returns-clause-of c = popped-passes c.pop_since.result c.args.table.now c.pop_since.new.self (λ (t : ConnectedTopic). nat_eq c.args.round t.round) c.facts.ensures.rising c.pop_since.ensures.first c.pop_since.ensures.out

pub returns-clause-others : goal.returns-clause-others
returns-clause-others c = none-popped c.pop_since.result c.args.table.now.topics (λ (t : ConnectedTopic). nat_eq c.args.round t.round) _ c.pop_since.ensures.first
    (none-all (λ (t : ConnectedTopic). nat_eq c.args.round t.round) c.args.table.now.topics)
