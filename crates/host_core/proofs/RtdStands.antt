-- What is kept of real-time data stands for a host's state after each command.
use Rattle.std.proofs.Common.{◌≡◌, ℕ, Bool, true, false, not, ◌&&◌, cond, List, [], ◌∷◌, ◌++◌, map, Option, Some, None, unwrap_or, refl, ap, sym, subst, ◌∙◌}
use Rattle.std.specs.List.{list_any}
use Rattle.std.specs.Map.{lookup}
use Rattle.std.specs.Option.{is_some, option_and_then, option_map_or, option_or}
use Rattle.cell_refs.specs.declared.grid.Cell.{Cell}
use Rattle.cell_refs.specs.Cell.{is_among}
use Rattle.cell_refs.proofs.PublicLaws.{found_among}
use Rattle.cell_values.specs.declared.topics.Topic.{Topic}
use Rattle.cell_values.specs.declared.values.Value.{Value}
use Rattle.cell_values.specs.Topic.{same_topic}
use Rattle.clean_cells.specs.Keeping.{opening_topics}
use Rattle.workbook.specs.declared.commands.Moment.{Moment}
use Rattle.workbook.specs.Book.{IsInOrder, formula_cells}
use Rattle.workbook.specs.Pulling.{after_pull, gives_values, is_named, pulled_servers, pulled_throttle, pulled_topics, pulled_value}
use Rattle.workbook.specs.Reads.{cell_reads}
use Rattle.workbook.specs.State.{HostTerms, State, completed_setting, not_available, setting_of, snapshot, snapshot_topics, topics_of_round}
use Rattle.workbook.specs.Step.{after_done, failed_topics, taken_at_end}
use Rattle.host_core.specs.HostKeeping.{IsOpening, StandsFor, is_known}
use Rattle.rtd_topics.specs.RtdState.{RtdState, SameOpening, TakesRead, knows_topic, rtd_snapshot, source_of, standing_of, value_pulled, with_value_pulled}
use Rattle.clean_cells.proofs.PublicLaws.{lookup-append, lookup-map_entries}
use Rattle.host_core.proofs.TopicRounds.{is_in_use, lookup-left, read_in_use, readers-done}

-- ---- what was published at the beginning
pub opening_same : (before after : Option (Topic → Option Value)) (running : Bool) (topics : List (Topic × Value)) → SameOpening before after → IsOpening running before topics → IsOpening running after topics
opening_same None None true topics same h = absurd (cc (h.1))
opening_same None None false topics same h = refl
opening_same None (Some g) running topics same h = absurd same
opening_same (Some f) None running topics same h = absurd same
opening_same (Some f) (Some g) false topics same h = absurd (cc)
opening_same (Some f) (Some g) true topics same h =
    let e : Some f ≡ Some h.0 = h.1 in
    let is : f ≡ h.0 = cc in
    (g, refl, λ t. same t ∙ ap (λ k. k t) is ∙ h.2 t)

-- a recalculation runs, or none
pub runs_round : (r : RtdState) (topics : List (Topic × Value)) → IsOpening true r.opening topics → is_some r.opening ≡ true
runs_round r topics h = ap is_some h.1

-- ---- the snapshot
or_nothing : {X : Type 0} (o : Option X) → o ≡ option_or o None
or_nothing None = refl
or_nothing (Some x) = refl

-- what is found of a topic
snapshot_found : (s : State) → failed_topics s ≡ [] → (t : Topic) → lookup (same_topic t) (snapshot_topics s) ≡ option_or (lookup (same_topic t) s.taken) (lookup (same_topic t) (opening_topics s))
snapshot_found s none t =
    elim s.running as (λ o. option_map_or (λ running. running.failed) o [] ≡ []
    → lookup (same_topic t) (option_map_or (topics_of_round s.taken) o s.taken) ≡ option_or (lookup (same_topic t) s.taken) (lookup (same_topic t) (option_map_or (λ running. running.opening) o []))) [
      | None ↦ λ _. or_nothing (lookup (same_topic t) s.taken)
      | Some r ↦ λ h.
          ap (λ topics. lookup (same_topic t) ((map (λ topic. (topic, not_available)) topics ++ s.taken) ++ r.opening)) h
          ∙ lookup-append s.taken r.opening t
    ] none

module _ (t : HostTerms) (r : RtdState) (s : State) where
  -- ---- what a recalculation gets of its topics
  module _ (h : StandsFor t (standing_of r) s true) where
    at_opening : (topic : Topic) → option_and_then (λ (opening : Topic → Option Value). opening topic) r.opening ≡ lookup (same_topic topic) (opening_topics s)
    at_opening topic = ap (option_and_then (λ (opening : Topic → Option Value). opening topic)) h.opening.1 ∙ h.opening.2 topic

    pub snapshot_is : failed_topics s ≡ [] → (topic : Topic) → rtd_snapshot r topic ≡ snapshot s topic
    snapshot_is none topic =
        ap (λ o. unwrap_or o (unwrap_or (option_and_then (λ (opening : Topic → Option Value). opening topic) r.opening) not_available)) (h.taken topic)
        ∙ ap (λ o. unwrap_or (lookup (same_topic topic) s.taken) (unwrap_or o not_available)) (at_opening topic)
        ∙ either (lookup (same_topic topic) s.taken)
        ∙ sym (ap (λ o. unwrap_or o not_available) (snapshot_found s none topic))
      where
        either : (o : Option Value) → unwrap_or o (unwrap_or (lookup (same_topic topic) (opening_topics s)) not_available) ≡ unwrap_or (option_or o (lookup (same_topic topic) (opening_topics s))) not_available
        either None = refl
        either (Some v) = refl

    pub served_is : (topic : Topic) → (is_some r.opening && knows_topic r.servers topic) ≡ is_known s.servers topic.server
    served_is topic = ap (λ b. b && knows_topic r.servers topic) (runs_round r (opening_topics s) h.opening) ∙ ap (λ servers. is_known servers topic.server) h.servers

  -- ---- a pull
  -- it takes the same values
  pub pulled_alike : (running : Bool) → StandsFor t (standing_of r) s running → (entry : Topic × Value) → value_pulled r entry ≡ pulled_value s.servers [] s.published entry
  pulled_alike running h entry =
      ap (λ servers. cond (gives_values servers [] entry.0.server) (unwrap_or (r.published entry.0) entry.1) entry.1) h.servers
      ∙ ap (λ o. cond (gives_values s.servers [] entry.0.server) (unwrap_or o entry.1) entry.1) (h.published entry.0)

  pub rtd-pulled : (after : RtdState) (moment : Moment) → after.servers ≡ pulled_servers r.servers [] → ((topic : Topic) → after.published topic ≡ r.published topic) → after.throttle ≡ pulled_throttle s.throttle moment
      → after.taken ≡ with_value_pulled r r.taken → after.opening ≡ None → ((topic : Topic) (cell : Cell) → after.readers topic cell ≡ r.readers topic cell)
      → StandsFor t (standing_of r) s false → StandsFor t (standing_of after) (after_pull t [] s moment) false
  rtd-pulled after moment same_servers same_published same_throttle now_taken none read h = record {
    servers = same_servers ∙ ap (λ servers. pulled_servers servers []) h.servers;
    published = λ topic. same_published topic ∙ h.published topic;
    taken = taken_pulled;
    throttle = same_throttle;
    opening = none;
    readers = λ topic cell.
        read topic cell ∙ h.readers topic cell
        ∙ ap (λ b. b && cell_reads (completed_setting t s) s.completed.book.contents cell topic) (sym (connected topic));
  }
    where
      pulled : Topic × Value → Value
      pulled = pulled_value s.servers [] s.published

      each : (topic : Topic) (o : Option Value) → option_map_or (λ v. Some (value_pulled r (topic, v))) o None ≡ option_map_or (λ v. Some (pulled (topic, v))) o None
      each topic None = refl
      each topic (Some v) = ap Some (pulled_alike false h (topic, v))

      taken_pulled : (topic : Topic) → lookup (same_topic topic) after.taken ≡ lookup (same_topic topic) (pulled_topics s.servers [] s.published s.taken)
      taken_pulled topic =
          ap (lookup (same_topic topic)) now_taken
          ∙ lookup-map_entries (value_pulled r) r.taken topic
          ∙ ap (λ o. option_map_or (λ v. Some (value_pulled r (topic, v))) o None) (h.taken topic)
          ∙ each topic (lookup (same_topic topic) s.taken)
          ∙ sym (lookup-map_entries pulled s.taken topic)

      connected : (topic : Topic) → is_some (lookup (same_topic topic) (pulled_topics s.servers [] s.published s.taken)) ≡ is_some (lookup (same_topic topic) s.taken)
      connected topic = ap is_some (lookup-map_entries pulled s.taken topic) ∙ still (lookup (same_topic topic) s.taken)
        where
          still : (o : Option Value) → is_some (option_map_or (λ v. Some (pulled (topic, v))) o None) ≡ is_some o
          still None = refl
          still (Some v) = refl

-- ---- the end of a recalculation
module _ (t : HostTerms) (r after : RtdState) (s : State) (none : failed_topics s ≡ []) (ordered : IsInOrder s.book.contents)
    (h : StandsFor t (standing_of r) s true)
    (read : (topic : Topic) (cell : Cell) → r.reading topic cell ≡ (cell_reads (setting_of t s) s.book.contents cell topic && is_known s.servers topic.server))
    (takes : TakesRead r after) where
  -- the topics that are read are taken with their values
  taken_after : (topic : Topic) → lookup (same_topic topic) after.taken ≡ lookup (same_topic topic) (taken_at_end t s)
  taken_after topic = by_use (is_in_use t s topic && is_known s.servers topic.server) refl ∙ sym (lookup-left t s none topic)
    where
      and_true : (a b : Bool) → (a && b) ≡ true → (a ≡ true) × (b ≡ true)
      and_true true b e = (refl, e)
      and_true false b e = cc

      unread : (is_in_use t s topic && is_known s.servers topic.server) ≡ false → (cell : Cell) → r.reading topic cell ≡ false
      unread unused cell = read topic cell ∙ by_both (cell_reads (setting_of t s) s.book.contents cell topic) (is_known s.servers topic.server) refl refl
        where
          by_both : (a b : Bool) → cell_reads (setting_of t s) s.book.contents cell topic ≡ a → is_known s.servers topic.server ≡ b → (a && b) ≡ false
          by_both true true reads known = absurd (cc (unused, read_in_use t s none ordered cell topic reads))
          by_both true false reads known = refl
          by_both false b reads known = refl

      by_use : (b : Bool) → (is_in_use t s topic && is_known s.servers topic.server) ≡ b → lookup (same_topic topic) after.taken ≡ cond (is_in_use t s topic && is_known s.servers topic.server) (Some (snapshot s topic)) None
      by_use true used =
          let both = and_true (is_in_use t s topic) (is_known s.servers topic.server) used in
          let found = found_among (λ cell. cell_reads (setting_of t s) s.book.contents cell topic) (formula_cells s.book.contents) both.0 in
          takes.read topic found.0 (read topic found.0 ∙ ap (λ b. b && is_known s.servers topic.server) found.2 ∙ both.1)
          ∙ ap Some (snapshot_is t r s h none topic)
          ∙ sym (ap (λ b. cond b (Some (snapshot s topic)) None) used)
      by_use false unused = takes.unread topic (unread unused) ∙ sym (ap (λ b. cond b (Some (snapshot s topic)) None) unused)

  pub rtd-done : after.servers ≡ r.servers → ((topic : Topic) → after.published topic ≡ r.published topic) → after.throttle ≡ r.throttle → after.opening ≡ None
      → ((topic : Topic) (cell : Cell) → after.readers topic cell ≡ r.reading topic cell)
      → StandsFor t (standing_of after) (after_done t s) false
  rtd-done same_servers same_published same_throttle ended now_readers = record {
    servers = same_servers ∙ h.servers;
    published = λ topic. same_published topic ∙ h.published topic;
    taken = taken_after;
    throttle = same_throttle ∙ h.throttle;
    opening = ended;
    readers = λ topic cell. now_readers topic cell ∙ read topic cell ∙ readers-done t s none ordered topic cell;
  }
