use Rattle.std.proofs.Common.{◌≡◌, ◌||◌, List, Some, ap, ◌∙◌}
use Rattle.std.specs.Prelude.{◌&&◌, is_some}
use Rattle.cell_refs.specs.Cell.{same_cell}
use Rattle.cell_values.specs.Topic.{same_topic}
use Rattle.rtd_topics.specs.Parts.{rtd_of, topic_has}
use Rattle.rtd_topics.specs.RtdState.{source_of}
use Rattle.topic_table.specs.Table.{ConnectedTopic, has_read, id_of}
use Rattle.rtd_topics.proofs.Reading.{noted-at, served-at, there-at}
use Rattle.rtd_topics.proofs.topics.RtdTopics.note_reader.Goals as goal

pub read_by-requires : goal.read_by-requires
read_by-requires g c =
    let t = there-at c.self.inside.table.topics c.facts.ensures.rising c.args.topic.now c.args.id (ap (λ p. id_of p.table.topics c.args.topic.now) c.self.view_is ∙ c.requires.connected) in
    ap is_some t.1.1

pub returns-clause-noted : goal.returns-clause-noted
returns-clause-noted g c topic cell =
    let at : id_of c.self.inside.table.topics c.args.topic.now ≡ Some c.args.id = ap (λ p. id_of p.table.topics c.args.topic.now) c.self.view_is ∙ c.requires.connected in
    let t = there-at c.self.inside.table.topics c.facts.ensures.rising c.args.topic.now c.args.id at in
    let served = served-at g.S.RtdServer.state
    (record { servers = c.self.inside.servers.items; table = c.self.inside.table; pacing = c.self.inside.throttle; round = c.self.inside.round; is_running = c.self.inside.is_running; room = 0 })
    c.args.topic.now t.0 c.facts.ensures.rising c.self.invariant.0 t.1.0 (ap (λ p. p.is_running) c.self.view_is ∙ c.requires.running) in
    ap (λ (ts : List ConnectedTopic). topic_has (has_read c.read_by.new.self) ts topic cell) c.read_by.ensures.topics.topics
    ∙ noted-at (has_read c.self.inside.table) (has_read c.read_by.new.self) c.self.inside.table.topics c.facts.ensures.rising c.args.topic.now c.args.id c.args.reader _ at served
    c.in_ok-read_by.ensures.running topic cell
    ∙ ap (λ p. ((source_of (rtd_of g.S.RtdServer.state p)).is_served c.args.topic.now && (same_topic c.args.topic.now topic && same_cell c.args.reader cell)) || topic_has (has_read p.table) p.table.topics topic cell) c.self.view_is
