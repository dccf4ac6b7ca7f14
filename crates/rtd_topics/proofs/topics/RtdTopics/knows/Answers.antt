use Rattle.std.proofs.Common.{ap, sym, ◌∙◌}
use Rattle.std.specs.Prelude.{is_some, map, position}
use Rattle.std.specs.List.{list_any}
use Rattle.known_servers.specs.Server.{has_name}
use Rattle.rtd_topics.specs.Parts.{known_of}
use Rattle.workbook.specs.State.{KnownServer}
use Rattle.std.specs.Str.{bytes_eq}
use Rattle.rtd_topics.proofs.ServerLists.{names-known, placed-named}
use Rattle.rtd_topics.proofs.topics.RtdTopics.knows.Goals as goal

pub returns : goal.returns
returns g c =
    c.is_some.ensures ∙ ap is_some (c.place_of.ensures ∙ ap (position (has_name c.args.name.now)) c.deref.ensures.value)
    ∙ placed-named c.self.inside.servers.items c.args.name.now ∙ ap (list_any (bytes_eq c.args.name.now)) (sym (names-known c.self.inside.servers.items))
    ∙ ap (λ p. list_any (bytes_eq c.args.name.now) (map (λ (s : KnownServer). s.name) (map known_of p.servers))) c.self.view_is
