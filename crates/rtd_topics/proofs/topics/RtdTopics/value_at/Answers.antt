use Rattle.std.proofs.Common.{◌≡◌, ap, sym, ◌∙◌}
use Rattle.std.specs.Option.{option_map}
use Rattle.std.proofs.lemmas.Result.{IfOk-weaker}
use Rattle.rtd_topics.specs.Parts.{rtd_of}
use Rattle.rtd_topics.specs.RtdState.{rtd_snapshot}
use Rattle.topic_table.specs.Table.{ConnectedTopic, id_of}
use Rattle.rtd_topics.proofs.Reading.{snapshot-at, there-at}
use Rattle.rtd_topics.proofs.topics.RtdTopics.value_at.Goals as goal

pub returns-in-Some : goal.returns-in-Some
returns-in-Some g c =
    let t = there-at c.self.inside.table.topics c.facts.ensures.rising c.args.topic.now c.args.id (ap (λ p. id_of p.table.topics c.args.topic.now) c.self.view_is ∙ c.requires) in
    let snapshot = snapshot-at g.S.RtdServer.state
    (record { servers = c.self.inside.servers.items; table = c.self.inside.table; pacing = c.self.inside.throttle; round = c.self.inside.round; is_running = c.self.inside.is_running; room = 0 })
    c.args.topic.now t.0 c.facts.ensures.once c.facts.ensures.rising c.self.invariant.0 t.1.0 in
    let value : c.in-Some.value.now ≡ t.0.value = cc (c.in-Some.ensures, ap (option_map (λ (x : ConnectedTopic). x.value)) t.1.1) in
    IfOk-weaker c.copy.result _ _ (λ copy is. is ∙ value ∙ sym snapshot ∙ ap (λ p. rtd_snapshot (rtd_of g.S.RtdServer.state p) c.args.topic.now) c.self.view_is) c.copy.ensures

pub returns-in-None : goal.returns-in-None
returns-in-None g c =
    let t = there-at c.self.inside.table.topics c.facts.ensures.rising c.args.topic.now c.args.id (ap (λ p. id_of p.table.topics c.args.topic.now) c.self.view_is ∙ c.requires) in
    absurd (cc (c.in-None.ensures, ap (option_map (λ (x : ConnectedTopic). x.value)) t.1.1))
