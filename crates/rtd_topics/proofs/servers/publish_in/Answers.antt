use Rattle.std.proofs.lemmas.Result.{on_err_weaker, on_ok_weaker}
use Rattle.rtd_topics.proofs.Disconnecting.{keeps-item, publishes-item}
use Rattle.rtd_topics.proofs.servers.publish_in.Goals as goal

pub returns-clause-published : goal.returns-clause-published
returns-clause-published g c = on_ok_weaker c.publish.result
    (publishes-item g.S.RtdServer.state c.args.servers.now c.args._name.now c.args.place c.index-servers-place.result c.publish.new.self c.args.texts.items c.args.value
    c.requires c.publish.ensures.name)
    c.publish.ensures.published

pub returns-clause-refused : goal.returns-clause-refused
returns-clause-refused g c = on_err_weaker c.publish.result
    (keeps-item g.S.RtdServer.state c.args.servers.now c.args._name.now c.args.place c.index-servers-place.result c.publish.new.self c.requires c.publish.ensures.name)
    c.publish.ensures.refused
