-- What a host keeps of real-time data, and how its calls change it.
use Rattle.std.specs.Prelude.{◌≡◌, ◌≤◌, ℕ, Bool, true, false, not, ◌&&◌, List, [], Option, Some, None, is_some, if◌then◌else◌, unwrap_or, map}
use Rattle.std.specs.List.{filter, list_any, IsDistinct}
use Rattle.std.specs.Map.{keys_of, lookup}
use Rattle.std.specs.Str.{bytes_eq}
use Rattle.std.specs.Option.{option_and_then}
use Rattle.cell_refs.specs.declared.grid.Cell.{Cell}
use Rattle.cell_values.specs.declared.topics.Topic.{Topic}
use Rattle.cell_values.specs.declared.values.Value.{Value}
use Rattle.cell_values.specs.SameValue.{same_value}
use Rattle.cell_values.specs.Topic.{same_topic}
use Rattle.throttle.specs.declared.pacing.Due.{Due as Pace}
use Rattle.throttle.specs.declared.pacing.Due.TheVariants as paces
use Rattle.topic_source.specs.Source.{RtdStanding, SourceState}
use Rattle.throttle.specs.declared.limits.TheConstants.{MAX_MOMENT}
use Rattle.workbook.specs.declared.commands.Moment.{Moment}
use Rattle.workbook.specs.declared.commands.Moment.TheVariants as moments
use Rattle.workbook.specs.Pulling.{Due, Now, Early, Manual, gives_values, is_named}
use Rattle.workbook.specs.State.{KnownServer, ThrottleState, not_available}

-- what a host keeps of real-time data
pub record RtdState : Type 0 where
  -- the known servers, in the order in which they were named
  pub servers : List KnownServer
  -- what is published for each topic
  pub published : Topic → Option Value
  -- the connected topics with the values that were taken last, but for those that were connected in the recalculation that runs
  pub taken : List (Topic × Value)
  pub throttle : ThrottleState
  -- where a recalculation runs, what was published for each topic when it began
  pub opening : Option (Topic → Option Value)
  -- the cells that read each topic in the last completed recalculation
  pub readers : Topic → Cell → Bool
  -- the cells that have read each topic in the recalculation that runs
  pub reading : Topic → Cell → Bool
  -- the number of the last recalculation that began
  pub round : ℕ

-- whether the server of a topic is known
abbrev pub knows_topic : List KnownServer → Topic → Bool
knows_topic servers topic = is_named (map (λ (server : KnownServer). server.name) servers) topic.server

-- the value of a topic in the recalculation that runs: the one that was taken last, where it is connected; else what was
-- published at the beginning
abbrev pub rtd_snapshot : RtdState → Topic → Value
rtd_snapshot s topic =
    unwrap_or (lookup (same_topic topic) s.taken) (unwrap_or (option_and_then (λ (opening : Topic → Option Value). opening topic) s.opening) not_available)

-- what stays as it is while a recalculation reads topics
abbrev pub standing_of : RtdState → RtdStanding
standing_of s = record {
  servers = s.servers;
  published = s.published;
  taken = s.taken;
  throttle = s.throttle;
  opening = s.opening;
  readers = s.readers;
  round = s.round;
}

-- what a recalculation gets of its topics: they are served where it runs and the server is known
abbrev pub source_of : RtdState → SourceState
source_of s = record {
  snapshot = rtd_snapshot s;
  is_served = λ topic. is_some s.opening && knows_topic s.servers topic;
  has_read = s.reading;
  standing = standing_of s;
}

-- what holds of each state: no server is known twice; something is published, read and taken of known servers alone; no
-- topic is taken twice; and only taken topics have readers
pub record IsRtdState (s : RtdState) : Type 0 where
  pub named_once : IsDistinct bytes_eq (map (λ (server : KnownServer). server.name) s.servers)
  pub published : (topic : Topic) → is_some (s.published topic) ≡ true → knows_topic s.servers topic ≡ true
  pub taken : (topic : Topic) → is_some (lookup (same_topic topic) s.taken) ≡ true → knows_topic s.servers topic ≡ true
  pub taken_once : IsDistinct same_topic (keys_of s.taken)
  pub readers : (topic : Topic) (cell : Cell) → s.readers topic cell ≡ true → is_some (lookup (same_topic topic) s.taken) ≡ true
  pub reading : (topic : Topic) (cell : Cell) → s.reading topic cell ≡ true → knows_topic s.servers topic ≡ true

-- the same values at the beginning, of each topic, where a recalculation runs, and it runs in both or in none
abbrev pub SameOpening : Option (Topic → Option Value) → Option (Topic → Option Value) → Type 0
SameOpening None None = Unit {0}
SameOpening (Some old) (Some new) = (topic : Topic) → new topic ≡ old topic
SameOpening None (Some new) = ⊥
SameOpening (Some old) None = ⊥

-- new has published what old has
abbrev pub SamePublished : RtdState → RtdState → Type 0
SamePublished old new = (topic : Topic) → new.published topic ≡ old.published topic

-- new has the readers that old has, of the last recalculation and of the one that runs
pub record SameReaders (old new : RtdState) : Type 0 where
  pub readers : (topic : Topic) (cell : Cell) → new.readers topic cell ≡ old.readers topic cell
  pub reading : (topic : Topic) (cell : Cell) → new.reading topic cell ≡ old.reading topic cell

-- new is as old, but for the servers, what is published, and the throttle
pub record SameTopics (old new : RtdState) : Type 0 where
  pub taken : new.taken ≡ old.taken
  pub opening : SameOpening old.opening new.opening
  pub read : SameReaders old new
  pub round : new.round ≡ old.round

-- new is as old
pub record SameRtd (old new : RtdState) : Type 0 where
  pub servers : new.servers ≡ old.servers
  pub published : SamePublished old new
  pub throttle : new.throttle ≡ old.throttle
  pub topics : SameTopics old new

-- a recalculation runs
abbrev pub RunsRound : RtdState → Type 0
RunsRound s = is_some s.opening ≡ true

-- none runs
abbrev pub RunsNone : RtdState → Type 0
RunsNone s = s.opening ≡ None

-- the value that a taken topic has after a pull: what is published, where its server is flagged and something is
-- published; else what it had
abbrev pub value_pulled : RtdState → Topic × Value → Value
value_pulled s entry = if gives_values s.servers [] entry.0.server then unwrap_or (s.published entry.0) entry.1 else entry.1

-- whether a pull changes the value of a taken topic
abbrev pub is_changed : RtdState → Topic × Value → Bool
is_changed s entry = not (same_value entry.1 (value_pulled s entry))

-- the taken topics whose value a pull changes
abbrev pub topics_changed : RtdState → List Topic
topics_changed s = keys_of (filter (is_changed s) s.taken)

-- whether a cell read one of these topics in the last completed recalculation
abbrev pub reads_one : RtdState → List Topic → Cell → Bool
reads_one s topics cell = list_any (λ topic. s.readers topic cell) topics

-- whether a pull is due, in the words of a host's state
abbrev pub due_as : Pace → Due
due_as paces.Now = Now
due_as (paces.Early wait) = Early wait
due_as paces.Manual = Manual

-- after a recalculation the topics that it read are taken with their values, and the others aren't
pub record TakesRead (old new : RtdState) : Type 0 where
  pub read : (topic : Topic) (cell : Cell) → old.reading topic cell ≡ true → lookup (same_topic topic) new.taken ≡ Some (rtd_snapshot old topic)
  pub unread : (topic : Topic) → ((cell : Cell) → old.reading topic cell ≡ false) → lookup (same_topic topic) new.taken ≡ None

-- the names of the known servers
abbrev pub names_known : RtdState → List (List ℕ)
names_known s = map (λ (server : KnownServer). server.name) s.servers

-- topics with their values after a pull
abbrev pub with_value_pulled : RtdState → List (Topic × Value) → List (Topic × Value)
with_value_pulled s taken = map (λ entry. (entry.0, value_pulled s entry)) taken

-- a moment that a pull may have
abbrev pub IsMoment : Moment → Type 0
IsMoment (moments.At moment) = moment ≤ MAX_MOMENT
IsMoment moments.Force = Unit {0}
