use Rattle.std.proofs.Common.{ap, sym, ◌∙◌, Option}
use Rattle.std.specs.Option.{option_and_then}
use Rattle.std.proofs.lemmas.Result.{IfOk-weaker, on_err_weaker}
use Rattle.known_servers.specs.Server.{ServerParts, view_of}
use Rattle.rtd_server.specs.Server.{value_or_na}
use Rattle.rtd_topics.proofs.Disconnecting.{connects-item, keeps-item, placed}
use Rattle.rtd_topics.proofs.Results.{IfOk-both}
use Rattle.rtd_topics.proofs.servers.connect_in.Goals as goal

pub connect-requires : goal.connect-requires
connect-requires g c = c.requires.new _ (placed c.args.servers.now c.args._name.now c.args.place c.index-servers-place.result c.requires.place)

pub returns-clause-value : goal.returns-clause-value
returns-clause-value g c = IfOk-weaker c.connect.result _ _
    (λ value is. is ∙ sym (ap (λ (o : Option (ServerParts g.row.S.Denot)). value_or_na (option_and_then (λ (k : ServerParts g.row.S.Denot). (view_of g.S.RtdServer.state k).opening c.args.texts.now) o))
    (placed c.args.servers.now c.args._name.now c.args.place c.index-servers-place.result c.requires.place)))
    c.connect.ensures.value

pub returns-clause-connected : goal.returns-clause-connected
returns-clause-connected g c = IfOk-both c.connect.result _ _ _
    (λ value out current. connects-item g.S.RtdServer.state c.args.servers.now c.args._name.now c.args.place c.index-servers-place.result c.connect.new.self c.args.id c.args.texts.now value
    c.requires.place c.connect.ensures.name out current)
    c.connect.ensures.connected c.connect.ensures.current

pub returns-clause-refused : goal.returns-clause-refused
returns-clause-refused g c = on_err_weaker c.connect.result
    (keeps-item g.S.RtdServer.state c.args.servers.now c.args._name.now c.args.place c.index-servers-place.result c.connect.new.self c.requires.place c.connect.ensures.name)
    c.connect.ensures.refused
