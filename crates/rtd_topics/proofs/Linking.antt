-- The servers and the table stay linked.
use Rattle.std.proofs.Common.{◌≡◌, ℕ, ◌<◌, ◌≤◌, Bool, true, false, List, Option, Some, ap, sym, subst, ◌∙◌, arith}
use Rattle.std.proofs.lemmas.List.Elements.{All-same, All-weaker}
use Rattle.std.specs.Prelude.{is_some, nat_eq, unwrap_or}
use Rattle.std.specs.List.{AllZip, IsDistinct}
use Rattle.std.specs.Str.{bytes_eq}
use Rattle.std.proofs.lemmas.Bool.{eqb-true}
use Rattle.cell_refs.specs.declared.grid.Cell.{Cell}
use Rattle.cell_values.specs.declared.topics.Topic.{Topic}
use Rattle.cell_values.specs.declared.values.Value.{Value}
use Rattle.cell_values.specs.declared.values.Value.TheVariants as values
use Rattle.cell_values.specs.declared.errors.ErrorKind.TheVariants as errors
use Rattle.known_servers.specs.Server.{ServerParts, view_of}
use Rattle.rtd_server.specs.Server.{ServerState}
use Rattle.rtd_server.specs.Strings.{Strings}
use Rattle.rtd_topics.specs.Parts.{Follows, IsLinked, OpensServer, names_of, opening_of, published_of, server_named, strings_for}
use Rattle.rtd_topics.proofs.ServerLists.{both-found, both-new, both-then, follows-zip}
use Rattle.rtd_topics.proofs.TableFacts.{all-found, strings-at}
use Rattle.rtd_topics.proofs.Views.{KeepsLink, current-kept}
use Rattle.topic_table.specs.Table.{ConnectedTopic, KeepsReaders, KeepsTopics, TableState, has_read, has_reader, topic_at}

-- names that stand once stay so where they are the same
pub once-kept : (ns ns' : List (List ℕ)) → ns' ≡ ns → IsDistinct bytes_eq ns → IsDistinct bytes_eq ns'
once-kept ns ns' same once = subst (IsDistinct bytes_eq) (sym same) once

-- what was published at the opening stays
pub opening-kept : {S : Type 0} (state : S → ServerState) (R : List ℕ → ServerParts S → ServerParts S → Type 0) (ks ks' : List (ServerParts S)) → Follows R ks ks'
    → ((m : List ℕ) (k k' : ServerParts S) → R m k k' → (s : Strings) → (view_of state k').opening s ≡ (view_of state k).opening s)
    → (topic : Topic) → opening_of state ks' topic ≡ opening_of state ks topic
opening-kept {S} state R ks ks' follows same topic =
    both-then (λ (k : ServerParts S). (view_of state k).opening topic.strings) (R topic.server) (server_named ks topic.server) (server_named ks' topic.server)
    (λ k k' r. same topic.server k k' r topic.strings) (follows.each topic.server)

-- what is published stays
pub published-kept : {S : Type 0} (state : S → ServerState) (R : List ℕ → ServerParts S → ServerParts S → Type 0) (ks ks' : List (ServerParts S)) → Follows R ks ks'
    → ((m : List ℕ) (k k' : ServerParts S) → R m k k' → (s : Strings) → (view_of state k').published s ≡ (view_of state k).published s)
    → (topic : Topic) → published_of state ks' topic ≡ published_of state ks topic
published-kept {S} state R ks ks' follows same topic =
    both-then (λ (k : ServerParts S). (view_of state k).published topic.strings) (R topic.server) (server_named ks topic.server) (server_named ks' topic.server)
    (λ k k' r. same topic.server k k' r topic.strings) (follows.each topic.server)

-- the servers change and the topics stay
pub linked-kept : {S : Type 0} (state : S → ServerState) (R : List ℕ → ServerParts S → ServerParts S → Type 0) (ks ks' : List (ServerParts S)) (table : TableState) (round : ℕ) (run : Bool)
    → Follows R ks ks' → ((m : List ℕ) (k k' : ServerParts S) → R m k k' → KeepsLink (view_of state k) (view_of state k'))
    → IsLinked state ks table round run → IsLinked state ks' table round run
linked-kept {S} state R ks ks' table round run follows keeps linked = record {
  once = once-kept (names_of ks) (names_of ks') follows.names linked.once;
  connected = λ name k' e' id.
      let old = both-new (R name) (server_named ks name) (server_named ks' name) k' (follows.each name) e' in
      (keeps name old.0 k' old.1.1).connected id ∙ linked.connected name old.0 old.1.0 id;
  served = λ id t at. both-found (R t.topic.server) (server_named ks t.topic.server) (server_named ks' t.topic.server) (follows.each t.topic.server) ∙ linked.served id t at;
  current = λ id t k' at e'.
      let old = both-new (R t.topic.server) (server_named ks t.topic.server) (server_named ks' t.topic.server) k' (follows.each t.topic.server) e' in
      (keeps t.topic.server old.0 k' old.1.1).current id t.topic.strings t.value
      (linked.connected t.topic.server old.0 old.1.0 id ∙ strings-at table.topics id t at) (linked.current id t old.0 at old.1.0);
  rounds = linked.rounds;
  unread = linked.unread;
  opened = λ id t at of. linked.opened id t at of ∙ ap (λ (o : Option Value). unwrap_or o (values.Error errors.Na)) (sym (opening-kept state R ks ks' follows (λ m k k' r. (keeps m k k' r).opening) t.topic));
  pended = λ name k' id e'.
      let old = both-new (R name) (server_named ks name) (server_named ks' name) k' (follows.each name) e' in
      (keeps name old.0 k' old.1.1).pended (λ q. linked.pended name old.0 q old.1.0) id;
  rest = linked.rest;
}

-- a topic of a later round isn't there yet
later : (round round' at : ℕ) → round < round' → at ≤ round → nat_eq round' at ≡ true → ⊥
later round round' at less within same = let e : round' ≡ at = eqb-true round' at same in absurd (omega arith)

-- a recalculation begins
pub linked-begun : {S : Type 0} (state : S → ServerState) (ks ks' : List (ServerParts S)) (table table' : TableState) (round round' : ℕ)
    → AllZip (OpensServer state) ks ks' → KeepsTopics table table' → KeepsReaders table table' → round < round'
    → IsLinked state ks table round false → IsLinked state ks' table' round' true
linked-begun {S} state ks ks' table table' round round' opens topics readers less linked =
    let R : List ℕ → ServerParts S → ServerParts S → Type 0 = λ m k k'. OpensServer state k k' in
    let follows = follows-zip (OpensServer state) R (λ k k' o. o.0.0) (λ m k k' o. o) ks ks' opens in
    let at-old : (id : ℕ) (t : ConnectedTopic) → topic_at table'.topics id ≡ Some t → topic_at table.topics id ≡ Some t = λ id t at. ap (λ ts. topic_at ts id) (sym topics.topics) ∙ at in
    record {
      once = once-kept (names_of ks) (names_of ks') follows.names linked.once;
      connected = λ name k' e' id.
          let old = both-new (R name) (server_named ks name) (server_named ks' name) k' (follows.each name) e' in
          old.1.1.1.2 id ∙ linked.connected name old.0 old.1.0 id ∙ ap (λ ts. strings_for ts name id) (sym topics.topics);
      served = λ id t at. both-found (R t.topic.server) (server_named ks t.topic.server) (server_named ks' t.topic.server) (follows.each t.topic.server) ∙ linked.served id t (at-old id t at);
      current = λ id t k' at e'.
          let old = both-new (R t.topic.server) (server_named ks t.topic.server) (server_named ks' t.topic.server) k' (follows.each t.topic.server) e' in
          current-kept (view_of state old.0) (view_of state k') id t.topic.strings t.value (old.1.1.1.0 t.topic.strings) (old.1.1.1.3 id) (linked.current id t old.0 (at-old id t at) old.1.0);
      rounds = All-same (λ (t : ConnectedTopic). t.round ≤ round') table'.topics table.topics topics.topics (All-weaker (λ (t : ConnectedTopic). t.round ≤ round) (λ (t : ConnectedTopic). t.round ≤ round') (λ t within. omega arith) table.topics linked.rounds);
      unread = λ id t cell at of. absurd (later round round' t.round less (all-found (λ (x : ConnectedTopic). x.round ≤ round) (λ (x : ConnectedTopic). nat_eq id x.id) table.topics t linked.rounds (at-old id t at)) of);
      opened = λ id t at of. absurd (later round round' t.round less (all-found (λ (x : ConnectedTopic). x.round ≤ round) (λ (x : ConnectedTopic). nat_eq id x.id) table.topics t linked.rounds (at-old id t at)) of);
      pended = λ name k' id e' some.
          let old = both-new (R name) (server_named ks name) (server_named ks' name) k' (follows.each name) e' in
          ap is_some (old.1.1.1.2 id) ∙ linked.pended name old.0 id old.1.0 (ap is_some (sym (old.1.1.1.3 id)) ∙ some);
      rest = λ off. absurd (cc off);
    }

-- a recalculation that ran ends; what cells have read is what they read before the next
pub linked-ended : {S : Type 0} (state : S → ServerState) (ks : List (ServerParts S)) (table table' : TableState) (round : ℕ) (run : Bool)
    → KeepsTopics table table' → ((id : ℕ) (cell : Cell) → has_read table' id cell ≡ has_reader table' id cell)
    → IsLinked state ks table round run → IsLinked state ks table' round false
linked-ended {S} state ks table table' round run topics same linked =
    let at-old : (id : ℕ) (t : ConnectedTopic) → topic_at table'.topics id ≡ Some t → topic_at table.topics id ≡ Some t = λ id t at. ap (λ ts. topic_at ts id) (sym topics.topics) ∙ at in
    record {
      once = linked.once;
      connected = λ name k e id. linked.connected name k e id ∙ ap (λ ts. strings_for ts name id) (sym topics.topics);
      served = λ id t at. linked.served id t (at-old id t at);
      current = λ id t k at e. linked.current id t k (at-old id t at) e;
      rounds = All-same (λ (t : ConnectedTopic). t.round ≤ round) table'.topics table.topics topics.topics linked.rounds;
      unread = λ id t cell at of. absurd (cc of);
      opened = λ id t at of. absurd (cc of);
      pended = linked.pended;
      rest = λ off. same;
    }
