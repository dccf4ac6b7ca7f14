use Rattle.std.proofs.Common.{◌≡◌, Bool, Some, None, cond, false, [], ap, subst, sym, ◌∙◌}
use Rattle.std.specs.Prelude.{All, map}
use Rattle.rtd_topics.specs.Parts.{IsLinked, IsPreparedServer, RtdParts, known_of, opening_of, published_of, rtd_of, throttle_of, topic_has}
use Rattle.rtd_topics.specs.RtdState.{with_value_pulled}
use Rattle.rtd_topics.proofs.Connecting.{kept-readings, running-readings}
use Rattle.rtd_topics.proofs.Pulling.{has-pulled, known-pulled, linked-pulled, published-pulled, taken-after}
use Rattle.rtd_topics.proofs.RtdFacts.{none-runs}
use Rattle.topic_table.specs.Table.{has_read, has_reader}
use Rattle.workbook.specs.Pulling.{pulled_servers, pulled_throttle}
use Rattle.rtd_topics.proofs.topics.RtdTopics.take_pull.Goals as goal

pub invariant_of-self : goal.invariant_of-self
invariant_of-self g c =
    let rests : c.self.inside.is_running ≡ false = ap (λ p. p.is_running) c.self.view_is ∙ none-runs c.args.self.now.is_running _ c.requires.none in
    let prepared : All (IsPreparedServer g.S.RtdServer.state) c.self.inside.servers.items =
    subst (λ (p : RtdParts g.row.S.Denot). All (IsPreparedServer g.S.RtdServer.state) p.servers) (sym c.self.view_is) c.requires.prepared in (
      subst (λ (b : Bool). IsLinked g.S.RtdServer.state c.take_all.new.servers.items c.take_all.new.table c.self.inside.round b) (sym rests)
          (linked-pulled g.S.RtdServer.state c.self.inside.servers.items c.take_all.new.servers.items c.self.inside.table c.take_all.new.table c.self.inside.round
          c.take_all.ensures.servers c.take_all.ensures.topics c.take_all.ensures.others prepared
          (subst (λ (b : Bool). IsLinked g.S.RtdServer.state c.self.inside.servers.items c.self.inside.table c.self.inside.round b) rests c.self.invariant.0)),
      c.self.invariant.1,
    )

pub returns-clause-servers : goal.returns-clause-servers
returns-clause-servers g c = known-pulled c.self.inside.servers.items c.take_all.new.servers.items c.take_all.ensures.servers ∙ ap (λ p. pulled_servers (map known_of p.servers) []) c.self.view_is

pub returns-clause-published : goal.returns-clause-published
returns-clause-published g c topic =
    published-pulled g.S.RtdServer.state c.self.inside.servers.items c.take_all.new.servers.items c.take_all.ensures.servers topic
    ∙ ap (λ p. published_of g.S.RtdServer.state p.servers topic) c.self.view_is

pub returns-clause-throttle : goal.returns-clause-throttle
returns-clause-throttle g c = c.note_pull.ensures ∙ ap (λ p. pulled_throttle (throttle_of p.pacing) c.args.moment.now) c.self.view_is

pub returns-clause-taken : goal.returns-clause-taken
returns-clause-taken g c =
    let rests : c.self.inside.is_running ≡ false = ap (λ p. p.is_running) c.self.view_is ∙ none-runs c.args.self.now.is_running _ c.requires.none in
    let prepared : All (IsPreparedServer g.S.RtdServer.state) c.self.inside.servers.items =
    subst (λ (p : RtdParts g.row.S.Denot). All (IsPreparedServer g.S.RtdServer.state) p.servers) (sym c.self.view_is) c.requires.prepared in
    taken-after g.S.RtdServer.state (record { servers = c.self.inside.servers.items; table = c.self.inside.table; pacing = c.self.inside.throttle; round = c.self.inside.round; is_running = c.self.inside.is_running; room = 0 }) c.take_all.new.table.topics
    c.facts.ensures.rising c.self.invariant.0 prepared rests c.take_all.ensures.topics
    ∙ ap (λ p. with_value_pulled (rtd_of g.S.RtdServer.state p) (rtd_of g.S.RtdServer.state p).taken) c.self.view_is

pub returns-clause-opening : goal.returns-clause-opening
returns-clause-opening g c =
    let rests : c.self.inside.is_running ≡ false = ap (λ p. p.is_running) c.self.view_is ∙ none-runs c.args.self.now.is_running _ c.requires.none in
    ap (λ b. cond b (Some (opening_of g.S.RtdServer.state c.take_all.new.servers.items)) None) rests

pub returns-clause-read : goal.returns-clause-read
returns-clause-read g c = record {
  readers = λ topic cell.
      has-pulled (has_reader c.self.inside.table) (has_reader c.take_all.new.table) c.self.inside.servers.items c.self.inside.table.topics c.take_all.new.table.topics c.take_all.ensures.topics
      (kept-readings c.self.inside.table c.take_all.new.table c.take_all.ensures.others.readings) topic cell
      ∙ ap (λ p. topic_has (has_reader p.table) p.table.topics topic cell) c.self.view_is;
  reading = λ topic cell.
      has-pulled (has_read c.self.inside.table) (has_read c.take_all.new.table) c.self.inside.servers.items c.self.inside.table.topics c.take_all.new.table.topics c.take_all.ensures.topics
      (running-readings c.self.inside.table c.take_all.new.table c.take_all.ensures.others.readings) topic cell
      ∙ ap (λ p. topic_has (has_read p.table) p.table.topics topic cell) c.self.view_is;
}
