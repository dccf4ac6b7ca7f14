use Rattle.std.proofs.Common.{◌≡◌, ◌||◌, Bool, cond, Option, None, Some, ap, sym, ◌∙◌}
use Rattle.std.specs.Prelude.{◌&&◌, is_some, map, position, unwrap_or}
use Rattle.std.specs.Option.{option_and_then}
use Rattle.cell_refs.specs.Cell.{same_cell}
use Rattle.cell_values.specs.declared.errors.ErrorKind.TheVariants as errors
use Rattle.cell_values.specs.declared.topics.Topic.{Topic}
use Rattle.cell_values.specs.declared.values.Value.{Value}
use Rattle.cell_values.specs.declared.values.Value.TheVariants as values
use Rattle.cell_values.specs.Topic.{same_topic}
use Rattle.known_servers.specs.Server.{ServerParts, has_name, view_of}
use Rattle.rtd_topics.specs.Parts.{known_of, opening_of, rtd_of}
use Rattle.rtd_topics.specs.RtdState.{knows_topic, source_of}
use Rattle.rtd_topics.proofs.Reading.{knows-found, noted-none, snapshot-absent}
use Rattle.rtd_topics.proofs.ServerLists.{none-named}
use Rattle.rtd_topics.proofs.topics.RtdTopics.read_unconnected.Goals as goal

pub returns-in_default-clause-value : goal.returns-in_default-clause-value
returns-in_default-clause-value g c =
    let none : position (has_name c.args.topic.now.server) c.args.self.now.servers ≡ None =
    ap (λ p. position (has_name c.args.topic.now.server) p.servers) (sym c.self.view_is) ∙ ap (position (has_name c.args.topic.now.server)) (sym c.deref.ensures.value) ∙ sym c.place_of.ensures ∙ c.in_default.is in
    sym (snapshot-absent g.S.RtdServer.state c.args.self.now c.args.topic.now c.requires.new
    ∙ ap (λ b. unwrap_or (option_and_then (λ (o : Topic → Option Value). o c.args.topic.now) (cond b (Some (opening_of g.S.RtdServer.state c.args.self.now.servers)) None)) (values.Error errors.Na)) c.requires.running
    ∙ ap (λ (o : Option (ServerParts g.row.S.Denot)). unwrap_or (option_and_then (λ (k : ServerParts g.row.S.Denot). (view_of g.S.RtdServer.state k).opening c.args.topic.now.strings) o) (values.Error errors.Na))
    (none-named c.args.self.now.servers c.args.topic.now.server none))

pub returns-in_default-clause-noted : goal.returns-in_default-clause-noted
returns-in_default-clause-noted g c t cell =
    let none : position (has_name c.args.topic.now.server) c.args.self.now.servers ≡ None =
    ap (λ p. position (has_name c.args.topic.now.server) p.servers) (sym c.self.view_is) ∙ ap (position (has_name c.args.topic.now.server)) (sym c.deref.ensures.value) ∙ sym c.place_of.ensures ∙ c.in_default.is in
    noted-none _ _ _
    (ap (λ b. is_some (cond b (Some (opening_of g.S.RtdServer.state c.args.self.now.servers)) None) && knows_topic (map known_of c.args.self.now.servers) c.args.topic.now) c.requires.running
    ∙ knows-found c.args.self.now.servers c.args.topic.now ∙ ap is_some (none-named c.args.self.now.servers c.args.topic.now.server none))

pub returns-clause-value : goal.returns-clause-value
returns-clause-value g c = c.in_ok-value.ensures ∙ ap (λ (f : Topic → Value). f c.args.topic.now) c.in_ok-id.ensures.values.snapshot

pub returns-clause-noted : goal.returns-clause-noted
returns-clause-noted g c t cell =
    c.in_ok-note_reader.ensures.noted t cell
    ∙ ap (λ (f : Topic → Bool). (f c.args.topic.now && (same_topic c.args.topic.now t && same_cell c.args.reader cell)) || (source_of (rtd_of g.S.RtdServer.state c.connect_topic.new.self)).has_read t cell) c.in_ok-id.ensures.values.served
    ∙ ap (λ b. ((source_of (rtd_of g.S.RtdServer.state c.args.self.now)).is_served c.args.topic.now && (same_topic c.args.topic.now t && same_cell c.args.reader cell)) || b) (c.in_ok-id.ensures.readers t cell)
