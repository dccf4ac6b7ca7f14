-- For the crate's own functions: the parts that a host's real-time data are kept in.
use Rattle.std.specs.Prelude.{◌≡◌, ℕ, ◌≤◌, Bool, true, false, not, ◌&&◌, List, [], ◌∷◌, Option, Some, None, is_some, if◌then◌else◌, nat_eq, map, find, filter, unwrap_or, All}
use Rattle.std.specs.Bool.{MatchBool}
use Rattle.std.specs.List.{AllZip, IsDistinct, list_any}
use Rattle.std.specs.Map.{lookup}
use Rattle.std.specs.Option.{option_and_then, option_map_or}
use Rattle.std.specs.Str.{bytes_eq}
use Rattle.cell_refs.specs.declared.grid.Cell.{Cell}
use Rattle.cell_values.specs.declared.errors.ErrorKind.TheVariants as errors
use Rattle.cell_values.specs.declared.topics.Topic.{Topic}
use Rattle.cell_values.specs.declared.values.Value.{Value}
use Rattle.cell_values.specs.declared.values.Value.TheVariants as values
use Rattle.known_servers.specs.Server.{IsCurrent, IsGathered, SameName, SameView, ServerParts, ViewConnects, ViewDisconnects, ViewOpens, ViewPublishes, has_name, view_of}
use Rattle.rtd_server.specs.Server.{ServerState}
use Rattle.rtd_server.specs.Strings.{Strings}
use Rattle.rtd_topics.specs.RtdState.{RtdState}
use Rattle.throttle.specs.Pacing.{Pacing}
use Rattle.topic_table.specs.Table.{ConnectedTopic, TableState, has_other_value, has_read, has_reader, id_of, topic_at}
use Rattle.workbook.specs.State.{KnownServer, ThrottleState}
use Rattle.workbook.specs.Step.{servers_with_flag}

-- the known servers, the table of connected topics, the throttle, the number of the last recalculation, whether it runs,
-- and how many servers can be added with the memory that was taken
pub record RtdParts (S : Type 0) : Type 0 where
  pub servers : List (ServerParts S)
  pub table : TableState
  pub pacing : Pacing
  pub round : ℕ
  pub is_running : Bool
  pub room : ℕ

-- the known server of a name
abbrev pub server_named : {S : Type 0} → List (ServerParts S) → List ℕ → Option (ServerParts S)
server_named servers name = find (has_name name) servers

-- what is published for a topic
abbrev pub published_of : {S : Type 0} → (S → ServerState) → List (ServerParts S) → Topic → Option Value
published_of {S} state servers topic =
    option_and_then (λ (k : ServerParts S). (view_of state k).published topic.strings) (server_named servers topic.server)

-- what was published for a topic when the recalculation began
abbrev pub opening_of : {S : Type 0} → (S → ServerState) → List (ServerParts S) → Topic → Option Value
opening_of {S} state servers topic =
    option_and_then (λ (k : ServerParts S). (view_of state k).opening topic.strings) (server_named servers topic.server)

-- the name and the flag of a server
abbrev pub known_of : {S : Type 0} → ServerParts S → KnownServer
known_of k = record { name = k.name; flag = k.flag }

-- whether a topic was connected in the recalculation that runs
abbrev pub is_of_round : Bool → ℕ → ConnectedTopic → Bool
is_of_round is_running round t = is_running && nat_eq round t.round

-- a connected topic with its value
abbrev pub with_value : ConnectedTopic → Topic × Value
with_value t = (t.topic, t.value)

-- whether a cell is among those that a connected topic has
abbrev pub topic_has : (ℕ → Cell → Bool) → List ConnectedTopic → Topic → Cell → Bool
topic_has has topics topic cell = option_map_or (λ (id : ℕ). has id cell) (id_of topics topic) false

-- the throttle, in the words of a host's state
abbrev pub throttle_of : Pacing → ThrottleState
throttle_of pacing = record { interval = pacing.interval; last = pacing.last }

-- what the parts stand for
abbrev pub rtd_of : {S : Type 0} → (S → ServerState) → RtdParts S → RtdState
rtd_of {S} state p = record {
  servers = map known_of p.servers;
  published = published_of state p.servers;
  taken = map with_value (filter (λ (t : ConnectedTopic). not (is_of_round p.is_running p.round t)) p.table.topics);
  throttle = throttle_of p.pacing;
  opening = if p.is_running then Some (opening_of state p.servers) else None;
  readers = topic_has (has_reader p.table) p.table.topics;
  reading = topic_has (has_read p.table) p.table.topics;
  round = p.round;
}

-- the strings with which the server of a name has an id connected
abbrev pub strings_for : List ConnectedTopic → List ℕ → ℕ → Option Strings
strings_for topics name id =
    option_and_then (λ (t : ConnectedTopic). if bytes_eq name t.topic.server then Some t.topic.strings else None) (topic_at topics id)

-- the names of servers
abbrev pub names_of : {S : Type 0} → List (ServerParts S) → List (List ℕ)
names_of {S} servers = map (λ (k : ServerParts S). k.name) servers

-- the servers have the topics of the table connected, and no others; a pull leaves each with what is published; and those
-- that were connected in the recalculation that runs have the value of its beginning, and no reader before it
pub record IsLinked {S : Type 0} (state : S → ServerState) (servers : List (ServerParts S)) (table : TableState) (round : ℕ) (is_running : Bool) : Type 0 where
  pub once : IsDistinct bytes_eq (names_of servers)
  pub connected : (name : List ℕ) (k : ServerParts S) → server_named servers name ≡ Some k
      → (id : ℕ) → (view_of state k).connected id ≡ strings_for table.topics name id
  pub served : (id : ℕ) (t : ConnectedTopic) → topic_at table.topics id ≡ Some t
      → is_some (server_named servers t.topic.server) ≡ true
  pub current : (id : ℕ) (t : ConnectedTopic) (k : ServerParts S) → topic_at table.topics id ≡ Some t
      → server_named servers t.topic.server ≡ Some k → IsCurrent (view_of state k) id t.topic.strings t.value
  pub rounds : All (λ (t : ConnectedTopic). t.round ≤ round) table.topics
  pub unread : (id : ℕ) (t : ConnectedTopic) (cell : Cell) → topic_at table.topics id ≡ Some t
      → is_of_round is_running round t ≡ true → has_reader table id cell ≡ false
  pub opened : (id : ℕ) (t : ConnectedTopic) → topic_at table.topics id ≡ Some t → is_of_round is_running round t ≡ true
      → t.value ≡ unwrap_or (opening_of state servers t.topic) (values.Error errors.Na)
  pub pended : (name : List ℕ) (k : ServerParts S) (id : ℕ) → server_named servers name ≡ Some k
      → is_some ((view_of state k).pending id) ≡ true → is_some ((view_of state k).connected id) ≡ true
  pub rest : is_running ≡ false → (id : ℕ) (cell : Cell) → has_read table id cell ≡ has_reader table id cell

-- where two look-ups find a server, this holds of both; else neither finds one
abbrev pub Both : {P : Type 0} → (P → P → Type 0) → Option P → Option P → Type 0
Both R None None = Unit {0}
Both R None (Some new) = ⊥
Both R (Some old) None = ⊥
Both R (Some old) (Some new) = R old new

-- the same names, and this holds of the servers of each name
pub record Follows {S : Type 0} (R : List ℕ → ServerParts S → ServerParts S → Type 0) (old new : List (ServerParts S)) : Type 0 where
  pub names : names_of new ≡ names_of old
  pub each : (name : List ℕ) → Both (R name) (server_named old name) (server_named new name)

-- new is old, opened
abbrev pub OpensServer : {S : Type 0} → (S → ServerState) → ServerParts S → ServerParts S → Type 0
OpensServer state old new = SameName old new × ViewOpens (view_of state old) (view_of state new)

-- new shows what old does
abbrev pub KeepsServer : {S : Type 0} → (S → ServerState) → ServerParts S → ServerParts S → Type 0
KeepsServer state old new = SameName old new × SameView (view_of state old) (view_of state new)

-- new is old with an id taken out where it has this name, and else old
abbrev pub DisconnectsServer : {S : Type 0} → (S → ServerState) → List ℕ → ℕ → List ℕ → ServerParts S → ServerParts S → Type 0
DisconnectsServer state name id at old new =
    SameName old new × MatchBool (bytes_eq name at) (ViewDisconnects (view_of state old) (view_of state new) id) (SameView (view_of state old) (view_of state new))

-- an id was taken out at the server of this name
pub record DisconnectsAt {S : Type 0} (state : S → ServerState) (old new : List (ServerParts S)) (name : List ℕ) (id : ℕ) : Type 0 where
  pub known : map known_of new ≡ map known_of old
  pub each : Follows (DisconnectsServer state name id) old new

-- nothing that shows was changed
pub record KeepsAt {S : Type 0} (state : S → ServerState) (old new : List (ServerParts S)) : Type 0 where
  pub known : map known_of new ≡ map known_of old
  pub each : Follows (λ at. KeepsServer state) old new

-- new published a value where it has this name, and else shows what old does
abbrev pub PublishesServer : {S : Type 0} → (S → ServerState) → List ℕ → Strings → Value → List ℕ → ServerParts S → ServerParts S → Type 0
PublishesServer state name strings value at old new =
    SameName old new × MatchBool (bytes_eq name at) (ViewPublishes (view_of state old) (view_of state new) strings value) (SameView (view_of state old) (view_of state new))

-- a value was published at the server of this name
pub record PublishesAt {S : Type 0} (state : S → ServerState) (old new : List (ServerParts S)) (name : List ℕ) (strings : Strings) (value : Value) : Type 0 where
  pub known : map known_of new ≡ map known_of old
  pub each : Follows (PublishesServer state name strings value) old new

-- new shows what old does, whatever its flag
abbrev pub ShowsSame : {S : Type 0} → (S → ServerState) → ServerParts S → ServerParts S → Type 0
ShowsSame state old new = (new.name ≡ old.name) × SameView (view_of state old) (view_of state new)

-- the flag of the server of this name is up, where there is one
pub record FlagsAt {S : Type 0} (state : S → ServerState) (old new : List (ServerParts S)) (name : List ℕ) : Type 0 where
  pub flags : IsDistinct bytes_eq (names_of old) → map known_of new ≡ servers_with_flag (map known_of old) name
  pub each : Follows (λ at. ShowsSame state) old new

-- the server of this name doesn't have this id connected
abbrev pub IsApart : {S : Type 0} → (S → ServerState) → List (ServerParts S) → List ℕ → ℕ → Type 0
IsApart {S} state servers name id = (k : ServerParts S) → server_named servers name ≡ Some k → (view_of state k).connected id ≡ None

-- what was published for strings of the server of a name at the opening, or #N/A
abbrev pub opening_or_na : {S : Type 0} → (S → ServerState) → List (ServerParts S) → List ℕ → Strings → Value
opening_or_na {S} state servers name strings =
    unwrap_or (option_and_then (λ (k : ServerParts S). (view_of state k).opening strings) (server_named servers name)) (values.Error errors.Na)

-- new has the id connected with these strings where it has this name, and else shows what old does
abbrev pub ConnectsServer : {S : Type 0} → (S → ServerState) → List ℕ → ℕ → Strings → Value → List ℕ → ServerParts S → ServerParts S → Type 0
ConnectsServer state name id strings value at old new =
    SameName old new × MatchBool (bytes_eq name at)
    (ViewConnects (view_of state old) (view_of state new) id strings × IsCurrent (view_of state new) id strings value)
    (SameView (view_of state old) (view_of state new))

-- an id was connected with strings at the server of this name
pub record ConnectsAt {S : Type 0} (state : S → ServerState) (old new : List (ServerParts S)) (name : List ℕ) (id : ℕ) (strings : Strings) (value : Value) : Type 0 where
  pub known : map known_of new ≡ map known_of old
  pub each : Follows (ConnectsServer state name id strings value) old new

-- where a server is flagged, all that a pull takes of it was given
abbrev pub IsPreparedServer : {S : Type 0} → (S → ServerState) → ServerParts S → Type 0
IsPreparedServer state k = k.flag ≡ true → IsGathered state k

-- all that a pull takes was given
abbrev pub IsPrepared : {S : Type 0} → (S → ServerState) → RtdParts S → Type 0
IsPrepared state p = All (IsPreparedServer state) p.servers

-- the news of an id that are sorted in
abbrev pub sorted_news : {S : Type 0} → ServerParts S → ℕ → Option Value
sorted_news k id = lookup (nat_eq id) k.news.sorted

-- whether news change the value of a topic
abbrev pub differs : List (ℕ × Value) → List ConnectedTopic → ℕ → Bool
differs news topics id = option_map_or (λ (value : Value). has_other_value topics id value) (lookup (nat_eq id) news) false

-- whether a server is flagged and has news that change the value of a topic
abbrev pub is_news_of_one : {S : Type 0} → ServerParts S → List ConnectedTopic → ℕ → Bool
is_news_of_one k topics id = k.flag && differs k.news.sorted topics id

-- whether one of these servers is and has
abbrev pub is_news : {S : Type 0} → List (ServerParts S) → List ConnectedTopic → ℕ → Bool
is_news {S} servers topics id = list_any (λ (k : ServerParts S). is_news_of_one k topics id) servers

-- topics, where those with news have them as values
abbrev pub topics_taken : (ℕ → Option Value) → List ConnectedTopic → List ConnectedTopic
topics_taken news topics = map (λ (t : ConnectedTopic). record t { value = unwrap_or (news t.id) t.value }) topics

-- new is old without news and with its flag down
abbrev pub TakesServer : {S : Type 0} → ServerParts S → ServerParts S → Type 0
TakesServer old new = (new.name ≡ old.name) × (new.flag ≡ false) × (new.server ≡ old.server) × (new.news.given ≡ old.news.given) × (old.flag ≡ true → new.news.sorted ≡ []) × (old.flag ≡ false → new.news.sorted ≡ old.news.sorted)

-- the table is the same, but for the values of topics
pub record KeepsReadings (old new : TableState) : Type 0 where
  pub readings : new.readings ≡ old.readings
  pub greatest : new.greatest ≡ old.greatest

-- topics with the news of a server, where it is flagged
abbrev pub topics_after_one : {S : Type 0} → ServerParts S → List ConnectedTopic → List ConnectedTopic
topics_after_one k topics = if k.flag then topics_taken (sorted_news k) topics else topics

-- the news of a server are taken into the table, where it is flagged
pub record TakesNews {S : Type 0} (old new : ServerParts S) (table table' : TableState) : Type 0 where
  pub server : TakesServer old new
  pub topics : table'.topics ≡ topics_after_one old table.topics
  pub others : KeepsReadings table table'

-- topics with the news of the flagged ones of these servers
abbrev pub topics_after : {S : Type 0} → List (ServerParts S) → List ConnectedTopic → List ConnectedTopic
topics_after [] topics = topics
topics_after (k ∷ ks) topics = topics_after ks (topics_after_one k topics)

-- the news of all flagged servers are taken into the table
pub record TakesAll {S : Type 0} (old new : List (ServerParts S)) (table table' : TableState) : Type 0 where
  pub servers : AllZip TakesServer old new
  pub topics : table'.topics ≡ topics_after old table.topics
  pub others : KeepsReadings table table'
