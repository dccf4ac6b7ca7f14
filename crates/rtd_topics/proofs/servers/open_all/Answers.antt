use Rattle.std.proofs.Common.{rules, subst, sym, List}
use Rattle.std.specs.List.{AllZip}
use Rattle.known_servers.specs.Server.{ServerParts}
use Rattle.rtd_topics.specs.Parts.{OpensServer}
use Rattle.rtd_topics.proofs.ServerLists.{whole}
use Rattle.rtd_topics.proofs.servers.open_all.Goals as goal

pub returns : goal.returns
returns g c = subst (λ (ks : List (ServerParts g.row.S.Denot)). AllZip (OpensServer g.S.RtdServer.state) c.args.servers.now.items ks)
    (sym (whole c.args.servers.now.len c.args.servers.now.items c.open_each.new.servers (search rules) (search rules))) (search rules)
