use Rattle.std.proofs.Common.{ap, sym, ◌∙◌}
use Rattle.std.specs.Prelude.{map}
use Rattle.std.specs.List.{list_any}
use Rattle.std.specs.Str.{bytes_eq}
use Rattle.workbook.specs.State.{KnownServer}
use Rattle.workbook.specs.Step.{servers_with_flag}
use Rattle.rtd_topics.specs.Parts.{ShowsSame, known_of}
use Rattle.rtd_topics.proofs.Linking.{linked-kept}
use Rattle.rtd_topics.proofs.Publishing.{link-shows}
use Rattle.rtd_topics.proofs.ServerLists.{found-named, names-known}
use Rattle.rtd_topics.proofs.topics.RtdTopics.notify.Goals as goal

pub invariant_of-self : goal.invariant_of-self
invariant_of-self g c = (
  linked-kept g.S.RtdServer.state (λ m. ShowsSame g.S.RtdServer.state) c.self.inside.servers.items c.raise_flag.new.servers.items c.self.inside.table c.self.inside.round c.self.inside.is_running
      c.raise_flag.ensures.flags.each (λ m. link-shows g.S.RtdServer.state) c.self.invariant.0,
  c.self.invariant.1,
)

pub returns-clause-known : goal.returns-clause-known
returns-clause-known g c =
    c.raise_flag.ensures.known ∙ found-named c.self.inside.servers.items c.args.name.now ∙ ap (list_any (bytes_eq c.args.name.now)) (sym (names-known c.self.inside.servers.items))
    ∙ ap (λ p. list_any (bytes_eq c.args.name.now) (map (λ (s : KnownServer). s.name) (map known_of p.servers))) c.self.view_is

pub returns-clause-servers : goal.returns-clause-servers
returns-clause-servers g c = c.raise_flag.ensures.flags.flags c.self.invariant.0.once ∙ ap (λ p. servers_with_flag (map known_of p.servers) c.args.name.now) c.self.view_is
