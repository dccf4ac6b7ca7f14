use Rattle.std.proofs.Common.{◌≡◌, ℕ, false, List, length, ap, subst, sym, ◌∙◌}
use Rattle.std.specs.Prelude.{All}
use Rattle.std.specs.List.{list_any}
use Rattle.known_servers.specs.Server.{ServerParts}
use Rattle.rtd_topics.specs.Parts.{IsPreparedServer, RtdParts, is_news, rtd_of}
use Rattle.rtd_topics.specs.RtdState.{reads_one, topics_changed}
use Rattle.rtd_topics.proofs.Telling.{told-changed, told-readers}
use Rattle.rtd_topics.proofs.RtdFacts.{none-runs}
use Rattle.topic_table.specs.Table.{has_reader}
use Rattle.rtd_topics.proofs.topics.RtdTopics.pull_news.Goals as goal

pub returns-clause-changed : goal.returns-clause-changed
returns-clause-changed g c =
    let rests : c.self.inside.is_running ≡ false = ap (λ p. p.is_running) c.self.view_is ∙ none-runs c.args.self.now.is_running _ c.requires.none in
    let prepared : All (IsPreparedServer g.S.RtdServer.state) c.self.inside.servers.items =
    subst (λ (p : RtdParts g.row.S.Denot). All (IsPreparedServer g.S.RtdServer.state) p.servers) (sym c.self.view_is) c.requires.prepared in
    c.len.ensures.len
    ∙ told-changed g.S.RtdServer.state (record { servers = c.self.inside.servers.items; table = c.self.inside.table; pacing = c.self.inside.throttle; round = c.self.inside.round; is_running = c.self.inside.is_running; room = 0 }) c.in_ok-ids.ids.keys
    c.facts.ensures.rising c.self.invariant.0 prepared rests c.len.ensures.unique
    (λ q. c.in_ok-ids.ensures q ∙ ap (λ (ks : List (ServerParts g.row.S.Denot)). is_news ks c.self.inside.table.topics q) c.deref.ensures.value)
    ∙ ap (λ p. length (topics_changed (rtd_of g.S.RtdServer.state p))) c.self.view_is

pub returns-clause-readers : goal.returns-clause-readers
returns-clause-readers g c cell =
    let rests : c.self.inside.is_running ≡ false = ap (λ p. p.is_running) c.self.view_is ∙ none-runs c.args.self.now.is_running _ c.requires.none in
    let prepared : All (IsPreparedServer g.S.RtdServer.state) c.self.inside.servers.items =
    subst (λ (p : RtdParts g.row.S.Denot). All (IsPreparedServer g.S.RtdServer.state) p.servers) (sym c.self.view_is) c.requires.prepared in
    c.in_ok-readers.ensures cell
    ∙ ap (list_any (λ (id : ℕ). has_reader c.self.inside.table id cell)) c.as_slice.ensures.keys
    ∙ told-readers g.S.RtdServer.state (record { servers = c.self.inside.servers.items; table = c.self.inside.table; pacing = c.self.inside.throttle; round = c.self.inside.round; is_running = c.self.inside.is_running; room = 0 }) c.in_ok-ids.ids.keys
    c.facts.ensures.rising c.facts.ensures.once c.self.invariant.0 prepared rests
    (λ q. c.in_ok-ids.ensures q ∙ ap (λ (ks : List (ServerParts g.row.S.Denot)). is_news ks c.self.inside.table.topics q) c.deref.ensures.value) cell
    ∙ ap (λ p. reads_one (rtd_of g.S.RtdServer.state p) (topics_changed (rtd_of g.S.RtdServer.state p)) cell) c.self.view_is
