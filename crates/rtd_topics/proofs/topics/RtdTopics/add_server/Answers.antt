use Rattle.std.proofs.Common.{◌≡◌, ap, sym, subst, ◌∙◌, List, Some, None, cond, false}
use Rattle.std.specs.Prelude.{map}
use Rattle.std.specs.List.{list_any}
use Rattle.std.specs.Str.{bytes_eq}
use Rattle.known_servers.specs.Server.{ServerParts}
use Rattle.workbook.specs.State.{KnownServer}
use Rattle.rtd_topics.specs.Parts.{IsLinked, RtdParts, known_of, names_of, opening_of, published_of, rtd_of}
use Rattle.rtd_topics.specs.RtdState.{SameOpening}
use Rattle.rtd_topics.proofs.Adding.{linked-added, opening-added, published-added, same-opening_added}
use Rattle.rtd_topics.proofs.ServerLists.{names-known}
use Rattle.rtd_topics.proofs.topics.RtdTopics.add_server.Goals as goal

pub invariant_of-self : goal.invariant_of-self
invariant_of-self g c =
    let unknown : list_any (bytes_eq c.server.inside.known.name) (names_of c.self.inside.servers.items) ≡ false =
    ap (list_any (bytes_eq c.server.inside.known.name)) (sym (names-known c.self.inside.servers.items))
    ∙ ap (λ p. list_any (bytes_eq c.server.inside.known.name) (map (λ (s : KnownServer). s.name) (map known_of p.servers))) c.self.view_is
    ∙ ap (λ (k : ServerParts g.row.S.Denot). list_any (bytes_eq k.name) (map (λ (s : KnownServer). s.name) (map known_of c.args.self.now.servers))) c.server.view_is
    ∙ c.requires.unknown in (
      subst (λ (ks : List (ServerParts g.row.S.Denot)). IsLinked g.S.RtdServer.state ks c.self.inside.table c.self.inside.round c.self.inside.is_running) (sym c.push_reserved.ensures)
          (linked-added g.S.RtdServer.state c.self.inside.servers.items c.server.inside.known c.self.inside.table c.self.inside.round c.self.inside.is_running c.server.invariant.1 unknown c.self.invariant.0),
      c.self.invariant.1,
    )

pub returns-clause-published : goal.returns-clause-published
returns-clause-published g c topic =
    ap (λ (ks : List (ServerParts g.row.S.Denot)). published_of g.S.RtdServer.state ks topic) c.push_reserved.ensures
    ∙ published-added g.S.RtdServer.state c.self.inside.servers.items c.server.inside.known c.server.invariant.1 topic
    ∙ ap (λ p. published_of g.S.RtdServer.state p.servers topic) c.self.view_is

pub returns-clause-topics : goal.returns-clause-topics
returns-clause-topics g c = record {
  taken = ap (λ (p : RtdParts g.row.S.Denot). (rtd_of g.S.RtdServer.state p).taken) c.self.view_is;
  opening = subst (λ (p : RtdParts g.row.S.Denot). SameOpening (rtd_of g.S.RtdServer.state p).opening (cond c.self.inside.is_running (Some (opening_of g.S.RtdServer.state c.push_reserved.new.servers.items)) None)) c.self.view_is
      (same-opening_added c.self.inside.is_running (opening_of g.S.RtdServer.state c.self.inside.servers.items) (opening_of g.S.RtdServer.state c.push_reserved.new.servers.items)
      (λ topic. ap (λ (ks : List (ServerParts g.row.S.Denot)). opening_of g.S.RtdServer.state ks topic) c.push_reserved.ensures ∙ opening-added g.S.RtdServer.state c.self.inside.servers.items c.server.inside.known c.server.invariant.1 topic));
  read = record {
    readers = λ topic cell. ap (λ (p : RtdParts g.row.S.Denot). (rtd_of g.S.RtdServer.state p).readers topic cell) c.self.view_is;
    reading = λ topic cell. ap (λ (p : RtdParts g.row.S.Denot). (rtd_of g.S.RtdServer.state p).reading topic cell) c.self.view_is;
  };
  round = ap (λ (p : RtdParts g.row.S.Denot). p.round) c.self.view_is;
}
