use Rattle.known_servers.proofs.Pending.{pending-published}
use Rattle.known_servers.proofs.servers.KnownServer.publish.Goals as goal
use Rattle.known_servers.proofs.servers.KnownServer.publish.Goals.{in-Ok, in-Err}

pub returns-clause-published : goal.returns-clause-published
returns-clause-published g c = elim c.match-publish.branch [
  | in-Ok w ↦ rw (w.result-is, ← c.self.view_is) (
    w.in-Ok.ensures.published.0,
    w.in-Ok.ensures.published.1,
    c.publish.ensures.connected,
    pending-published (g.S.RtdServer.state c.self.inside.server) (g.S.RtdServer.state c.publish.new.self) c.self.inside.news c.args.strings.items c.args.value
        w.in-Ok.ensures.published c.publish.ensures.connected w.in-Ok.ensures.due,
  )
  | in-Err w ↦ rw w.result-is tt
]
