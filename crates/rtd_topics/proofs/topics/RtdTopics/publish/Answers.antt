use Rattle.std.proofs.Common.{ap, sym, ◌∙◌, Some, cond}
use Rattle.std.specs.Prelude.{◌&&◌, is_some, map, position}
use Rattle.std.specs.List.{list_any}
use Rattle.std.specs.Str.{bytes_eq}
use Rattle.known_servers.specs.Server.{has_name}
use Rattle.rtd_server.specs.Strings.{same_strings}
use Rattle.workbook.specs.State.{KnownServer}
use Rattle.rtd_topics.specs.Parts.{KeepsServer, PublishesServer, known_of, published_of}
use Rattle.rtd_topics.proofs.Linking.{linked-kept}
use Rattle.rtd_topics.proofs.Publishing.{link-publishes, published-after}
use Rattle.rtd_topics.proofs.ServerLists.{known-placed, found-named, placed-named}
use Rattle.rtd_topics.proofs.Views.{link-kept}
use Rattle.rtd_topics.proofs.topics.RtdTopics.publish.Goals as goal

pub returns-in_default-clause-known : goal.returns-in_default-clause-known
returns-in_default-clause-known g c =
    ap is_some (sym c.in_default.is) ∙ known-placed c.self.inside.servers.items c.args.server.now c.place_of.result (c.place_of.ensures ∙ ap (position (has_name c.args.server.now)) c.deref.ensures.value)
    ∙ ap (λ p. list_any (bytes_eq c.args.server.now) (map (λ (s : KnownServer). s.name) (map known_of p.servers))) c.self.view_is

pub invariant_of-self : goal.invariant_of-self
invariant_of-self g c = (
  linked-kept g.S.RtdServer.state (λ m. KeepsServer g.S.RtdServer.state) c.self.inside.servers.items c.publish_at.new.servers.items c.self.inside.table c.self.inside.round c.self.inside.is_running
      c.in_err-publish_at.ensures.refused.each (λ m k k' r. link-kept _ _ r.1) c.self.invariant.0,
  c.self.invariant.1,
)

pub invariant_of-self-2 : goal.invariant_of-self-2
invariant_of-self-2 g c = (
  linked-kept g.S.RtdServer.state (PublishesServer g.S.RtdServer.state c.args.server.now c.in_ok-texts.texts.items c.args.value) c.self.inside.servers.items c.publish_at.new.servers.items c.self.inside.table c.self.inside.round c.self.inside.is_running
      c.in_ok-publish_at.ensures.published.each (link-publishes g.S.RtdServer.state c.args.server.now c.in_ok-texts.texts.items c.args.value) c.self.invariant.0,
  c.self.invariant.1,
)

pub returns-clause-known : goal.returns-clause-known
returns-clause-known g c =
    ap is_some (sym c.in-Some.is) ∙ known-placed c.self.inside.servers.items c.args.server.now c.place_of.result (c.place_of.ensures ∙ ap (position (has_name c.args.server.now)) c.deref.ensures.value)
    ∙ ap (λ p. list_any (bytes_eq c.args.server.now) (map (λ (s : KnownServer). s.name) (map known_of p.servers))) c.self.view_is

pub returns-clause-published : goal.returns-clause-published
returns-clause-published g c told topic =
    published-after g.S.RtdServer.state c.self.inside.servers.items c.publish_at.new.servers.items c.args.server.now c.in_ok-texts.texts.items c.args.value c.in_ok-publish_at.ensures.published
    (found-named c.self.inside.servers.items c.args.server.now ∙ sym (placed-named c.self.inside.servers.items c.args.server.now)
    ∙ ap is_some (sym (c.place_of.ensures ∙ ap (position (has_name c.args.server.now)) c.deref.ensures.value) ∙ c.in-Some.is)) topic
    ∙ ap (λ strings. cond (bytes_eq c.args.server.now topic.server && same_strings strings topic.strings) (Some c.args.value) (published_of g.S.RtdServer.state c.self.inside.servers.items topic)) (c.in_ok-texts.ensures ∙ c.as_slice.ensures)
    ∙ ap (λ p. cond (bytes_eq c.args.server.now topic.server && same_strings c.args.strings.now topic.strings) (Some c.args.value) (published_of g.S.RtdServer.state p.servers topic)) c.self.view_is
