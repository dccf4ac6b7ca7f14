use Rattle.topic_table.specs.Table.{ConnectedTopic, is_no_cell, readers_of}
use Rattle.rtd_topics.proofs.Dropping.{leaves-there, none-popped, popped-leaves, popped-passes, popped-unread, read-at}
use Rattle.rtd_topics.proofs.leaving.pop_unread.Goals as goal

pub returns-clause-leaves : goal.returns-clause-leaves
returns-clause-leaves c = popped-leaves c.pop_unread.result c.args.table.now c.pop_unread.new.self (λ (t : ConnectedTopic). is_no_cell (readers_of c.args.table.now t.id)) c.facts.ensures.rising c.pop_unread.ensures.first c.pop_unread.ensures.out

pub returns-clause-unread : goal.returns-clause-unread
returns-clause-unread c = popped-unread c.pop_unread.result c.args.table.now
    (popped-passes c.pop_unread.result c.args.table.now c.pop_unread.new.self (λ (t : ConnectedTopic). is_no_cell (readers_of c.args.table.now t.id)) c.facts.ensures.rising c.pop_unread.ensures.first c.pop_unread.ensures.out)
    (leaves-there c.pop_unread.result c.args.table.now c.pop_unread.new.self
    (popped-leaves c.pop_unread.result c.args.table.now c.pop_unread.new.self (λ (t : ConnectedTopic). is_no_cell (readers_of c.args.table.now t.id)) c.facts.ensures.rising c.pop_unread.ensures.first c.pop_unread.ensures.out))

pub returns-clause-read : goal.returns-clause-read
returns-clause-read c = none-popped c.pop_unread.result c.args.table.now.topics (λ (t : ConnectedTopic). is_no_cell (readers_of c.args.table.now t.id)) _ c.pop_unread.ensures.first
    (λ none id t at. read-at c.args.table.now id t at none)
