use Rattle.std.proofs.Common.{ap, sym, ◌∙◌}
use Rattle.std.specs.Prelude.{map}
use Rattle.std.specs.List.{list_any}
use Rattle.known_servers.specs.Server.{ServerParts}
use Rattle.rtd_topics.specs.Parts.{known_of}
use Rattle.workbook.specs.State.{KnownServer}
use Rattle.rtd_topics.proofs.ServerLists.{any-known}
use Rattle.rtd_topics.proofs.topics.RtdTopics.is_flagged.Goals as goal

pub returns : goal.returns
returns g c = c.is_any_flagged.ensures ∙ ap (list_any (λ (k : ServerParts g.row.S.Denot). k.flag)) c.deref.ensures.value ∙ sym (any-known c.self.inside.servers.items)
    ∙ ap (λ p. list_any (λ (s : KnownServer). s.flag) (map known_of p.servers)) c.self.view_is
