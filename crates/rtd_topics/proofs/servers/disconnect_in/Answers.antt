use Rattle.std.proofs.Common.{sym}
use Rattle.std.proofs.Common.{rules}
use Rattle.rtd_topics.proofs.Disconnecting.{disconnects-item, disconnects-none}
use Rattle.rtd_topics.proofs.servers.disconnect_in.Goals as goal

pub returns-in-Some : goal.returns-in-Some
returns-in-Some g c = disconnects-item g.S.RtdServer.state c.args.servers.now c.args.name.now c.in-Some.place c.index-servers-place.result c.disconnect.new.self c.args.id
    (sym c.in-Some.ensures) c.disconnect.ensures.name c.disconnect.ensures.disconnected

pub returns-in_default : goal.returns-in_default
returns-in_default g c = disconnects-none g.S.RtdServer.state c.args.servers.now c.args.name.now c.args.id (search rules)
