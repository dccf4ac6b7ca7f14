-- Topics leave the table.
use Rattle.std.proofs.Common.{◌≡◌, ◌<◌, ◌≤◌, ℕ, Bool, true, false, cond, ◌||◌, List, [], ◌∷◌, Option, None, Some, length, refl, ap, sym, subst, ◌∙◌, rules}
use Rattle.std.specs.Prelude.{◌&&◌, All, IfNone, IfSome, filter, find, is_some, nat_eq, not}
use Rattle.std.specs.List.{list_any}
use Rattle.std.specs.Option.{option_and_then, option_map}
use Rattle.std.specs.Str.{bytes_eq}
use Rattle.std.proofs.lemmas.Bool.{eqb-true}
use Rattle.std.proofs.lemmas.List.Elements.{All-cons, All-filter, All-nil, All-same, All-weaker}
use Rattle.cell_refs.specs.declared.grid.Cell.{Cell}
use Rattle.cell_refs.specs.Cell.{is_among, same_cell}
use Rattle.cell_refs.proofs.PublicLaws.{same_cells}
use Rattle.cell_values.specs.declared.topics.Topic.{Topic}
use Rattle.known_servers.specs.Server.{IsCurrent, SameView, ServerParts, ViewDisconnects, view_of}
use Rattle.rtd_server.specs.Server.{ServerState}
use Rattle.rtd_server.specs.Strings.{Strings}
use Rattle.rtd_topics.specs.Dropping.{Drops, IsRead, Leaves}
use Rattle.rtd_topics.specs.Parts.{DisconnectsAt, DisconnectsServer, IsLinked, names_of, published_of, server_named, strings_for}
use Rattle.rtd_topics.proofs.Linking.{once-kept, published-kept}
use Rattle.rtd_topics.proofs.Publishing.{match-cases}
use Rattle.rtd_topics.proofs.ServerLists.{both-found, both-new}
use Rattle.rtd_topics.proofs.TableFacts.{filter-all, found-passes, id-found, without-at, without-found, without-shorter}
use Rattle.rtd_topics.proofs.Connecting.{linked-table}
use Rattle.rtd_topics.proofs.TopicFacts.{Rises, at-self, first-pairs, other-pairs}
use Rattle.rtd_topics.proofs.Views.{current-kept}
use Rattle.topic_table.specs.Table.{ConnectedTopic, KeepsTable, TableState, TakesOut, has_reader, is_no_cell, leaving, readers_of, topic_at, topics_without}

-- the connections of the server of the topic that leaves, and of another
leaves-strings : (b h : Bool) (c c' s s' : Option Strings) → c ≡ s → c' ≡ (cond h (cond b None c) c) → s' ≡ cond b None s → (b ≡ true → h ≡ false → s ≡ None) → c' ≡ s'
leaves-strings true true c c' s s' e put new none = put ∙ sym new
leaves-strings true false c c' s s' e put new none = put ∙ e ∙ none refl refl ∙ sym new
leaves-strings false true c c' s s' e put new none = put ∙ e ∙ sym new
leaves-strings false false c c' s s' e put new none = put ∙ e ∙ sym new

-- the strings of an id, after a topic has left
strings-left : (topics : List ConnectedTopic) (name : List ℕ) (id q : ℕ) → strings_for (topics_without topics id) name q ≡ cond (nat_eq id q) None (strings_for topics name q)
strings-left topics name id q =
    ap (option_and_then (λ (x : ConnectedTopic). cond (bytes_eq name x.topic.server) (Some x.topic.strings) None)) (without-at topics id q) ∙ step (nat_eq id q)
  where
    step : (b : Bool) → option_and_then (λ (x : ConnectedTopic). cond (bytes_eq name x.topic.server) (Some x.topic.strings) None) (cond b None (topic_at topics q))
        ≡ cond b None (option_and_then (λ (x : ConnectedTopic). cond (bytes_eq name x.topic.server) (Some x.topic.strings) None) (topic_at topics q))
    step true = refl
    step false = refl

-- something is taken only of a connected id, after one was taken out
left_pended : {X Y : Type 0} (b : Bool) (p : Option X) (c : Option Y) → (is_some p ≡ true → is_some c ≡ true) → is_some (cond b None p) ≡ true → is_some (cond b None c) ≡ true
left_pended true p c h some = some
left_pended false p c h some = h some

-- the servers and the table stay linked where a topic leaves
pub linked-left : {S : Type 0} (state : S → ServerState) (ks ks' : List (ServerParts S)) (table table' : TableState) (round id : ℕ) (t : ConnectedTopic)
    → topic_at table.topics id ≡ Some t → DisconnectsAt state ks ks' t.topic.server id → TakesOut table table' id
    → IsLinked state ks table round false → IsLinked state ks' table' round false
linked-left {S} state ks ks' table table' round id t at out takes linked =
    let n : List ℕ = t.topic.server in
    let R : List ℕ → ServerParts S → ServerParts S → Type 0 = DisconnectsServer state n id in
    let V : ServerParts S → ServerParts S → Type 0 = λ k k'. ViewDisconnects (view_of state k) (view_of state k') id in
    let W : ServerParts S → ServerParts S → Type 0 = λ k k'. SameView (view_of state k) (view_of state k') in
    let was : (q : ℕ) (x : ConnectedTopic) → topic_at table'.topics q ≡ Some x → (nat_eq id q ≡ false) × (topic_at table.topics q ≡ Some x) =
    λ q x e. without-found table.topics id q x (ap (λ ts. topic_at ts q) (sym takes.topics) ∙ e) in
    record {
      once = once-kept (names_of ks) (names_of ks') out.each.names linked.once;
      connected = λ name k' e' q.
          let old = both-new (R name) (server_named ks name) (server_named ks' name) k' (out.each.each name) e' in
          let put : (view_of state k').connected q ≡ cond (bytes_eq n name) (cond (nat_eq id q) None ((view_of state old.0).connected q)) ((view_of state old.0).connected q) =
          match-cases (bytes_eq n name) (V old.0 k') (W old.0 k')
          ((view_of state k').connected q ≡ cond (bytes_eq n name) (cond (nat_eq id q) None ((view_of state old.0).connected q)) ((view_of state old.0).connected q)) old.1.1.1
          (λ here gone. gone.1 q ∙ ap (λ b. cond b (cond (nat_eq id q) None ((view_of state old.0).connected q)) ((view_of state old.0).connected q)) (sym here))
          (λ other same. same.1 q ∙ ap (λ b. cond b (cond (nat_eq id q) None ((view_of state old.0).connected q)) ((view_of state old.0).connected q)) (sym other)) in
          leaves-strings (nat_eq id q) (bytes_eq n name) ((view_of state old.0).connected q) ((view_of state k').connected q) (strings_for table.topics name q) (strings_for table'.topics name q)
          (linked.connected name old.0 old.1.0 q) put (ap (λ ts. strings_for ts name q) takes.topics ∙ strings-left table.topics name id q)
          (λ here other. ap (λ i. strings_for table.topics name i) (sym (eqb-true id q here))
          ∙ ap (option_and_then (λ (x : ConnectedTopic). cond (bytes_eq name x.topic.server) (Some x.topic.strings) None)) at
          ∙ ap (λ b. cond b (Some t.topic.strings) None) (names-turned name n ∙ other));
      served = λ q x e. both-found (R x.topic.server) (server_named ks x.topic.server) (server_named ks' x.topic.server) (out.each.each x.topic.server) ∙ linked.served q x (was q x e).1;
      current = λ q x k' e e'.
          let old = both-new (R x.topic.server) (server_named ks x.topic.server) (server_named ks' x.topic.server) k' (out.each.each x.topic.server) e' in
          let there = was q x e in
          match-cases (bytes_eq n x.topic.server) (V old.0 k') (W old.0 k') (IsCurrent (view_of state k') q x.topic.strings x.value) old.1.1.1
          (λ here gone. current-kept (view_of state old.0) (view_of state k') q x.topic.strings x.value (gone.0.0 x.topic.strings)
          (gone.2 q ∙ ap (λ b. cond b None ((view_of state old.0).pending q)) there.0) (linked.current q x old.0 there.1 old.1.0))
          (λ other same. current-kept (view_of state old.0) (view_of state k') q x.topic.strings x.value (same.0.0 x.topic.strings) (same.2 q) (linked.current q x old.0 there.1 old.1.0));
      rounds = All-same (λ (x : ConnectedTopic). x.round ≤ round) table'.topics (topics_without table.topics id) takes.topics
          (All-filter (λ (x : ConnectedTopic). not (nat_eq id x.id)) (λ (x : ConnectedTopic). x.round ≤ round) table.topics linked.rounds);
      unread = λ q x cell e of. absurd (cc of);
      opened = λ q x e of. absurd (cc of);
      pended = λ name k' q e' some.
          let old = both-new (R name) (server_named ks name) (server_named ks' name) k' (out.each.each name) e' in
          match-cases (bytes_eq n name) (V old.0 k') (W old.0 k') (is_some ((view_of state k').connected q) ≡ true) old.1.1.1
          (λ here gone. ap is_some (gone.1 q) ∙ left_pended (nat_eq id q) ((view_of state old.0).pending q) ((view_of state old.0).connected q) (linked.pended name old.0 q old.1.0) (ap is_some (sym (gone.2 q)) ∙ some))
          (λ other same. ap is_some (same.1 q) ∙ linked.pended name old.0 q old.1.0 (ap is_some (sym (same.2 q)) ∙ some));
      rest = λ off q cell. takes.running q cell ∙ ap (λ b. not (nat_eq id q) && b) (linked.rest off q cell) ∙ sym (takes.readers q cell);
    }
  where
    names-turned : (a b : List ℕ) → bytes_eq a b ≡ bytes_eq b a
    names-turned a b = search (rules)

-- what is published stays where a topic leaves
pub published-left : {S : Type 0} (state : S → ServerState) (ks ks' : List (ServerParts S)) (n : List ℕ) (id : ℕ) → DisconnectsAt state ks ks' n id
    → (topic : Topic) → published_of state ks' topic ≡ published_of state ks topic
published-left state ks ks' n id out =
    published-kept state (DisconnectsServer state n id) ks ks' out.each
    (λ m k k' r s. match-cases (bytes_eq n m) (ViewDisconnects (view_of state k) (view_of state k') id) (SameView (view_of state k) (view_of state k')) ((view_of state k').published s ≡ (view_of state k).published s) r.1
    (λ here gone. gone.0.0 s) (λ other same. same.0.0 s))

-- one more topic is disconnected
pub drops-more : {S : Type 0} (state : S → ServerState) (ks ks' ks'' : List (ServerParts S)) (table table' table'' : TableState) (topic : Topic) (id : ℕ)
    → Drops state ks ks' table table' → Leaves table' table'' topic id → DisconnectsAt state ks' ks'' topic.server id → Drops state ks ks'' table table''
drops-more state ks ks' ks'' table table' table'' topic id drops leaves out = record {
  linked = λ round linked. linked-left state ks' ks'' table' table'' round id leaves.left leaves.at
      (subst (λ (x : Topic). DisconnectsAt state ks' ks'' x.server id) (sym leaves.same) out) leaves.out (drops.linked round linked);
  known = out.known ∙ drops.known;
  published = λ x. published-left state ks' ks'' topic.server id out x ∙ drops.published x;
}

-- nothing is disconnected
pub drops-none : {S : Type 0} (state : S → ServerState) (ks : List (ServerParts S)) (table : TableState) → Drops state ks ks table table
drops-none state ks table = record { linked = λ round linked. linked; known = refl; published = λ topic. refl }

-- what fails of all isn't found
fails_step : {P : Type 0} (p : P → Bool) (b c : Bool) (y x : P) (o o' : Option P) → p y ≡ b → (o ≡ None → o' ≡ Some x → p x ≡ false)
    → cond b (Some y) o ≡ None → cond c (Some y) o' ≡ Some x → p x ≡ false
fails_step p true c y x o o' is rest none e = absurd (cc none)
fails_step {P} p false true y x o o' is rest none e = ap p (sym (one y x e)) ∙ is
  where
    one : (a b : P) → Some a ≡ Some b → a ≡ b
    one a b h = cc h
fails_step p false false y x o o' is rest none e = rest none e

pub fails-all : {P : Type 0} (p q : P → Bool) (xs : List P) (x : P) → find p xs ≡ None → find q xs ≡ Some x → p x ≡ false
fails-all p q [] x none e = absurd (cc e)
fails-all {P} p q (y ∷ ys) x none e = fails_step p (p y) (q y) y x (find p ys) (find q ys) refl (fails-all p q ys x) none e

-- a list with a cell has one that is among it
some-cell : (cells : List Cell) → is_no_cell cells ≡ false → (c : Cell) × (is_among cells c ≡ true)
some-cell [] e = absurd (cc e)
some-cell (c ∷ cells) e = (c, ap (λ b. b || list_any (same_cell c) cells) (same_cells.refl c))

no-cell : (cells : List Cell) → is_no_cell cells ≡ true → (c : Cell) → is_among cells c ≡ false
no-cell [] e c = refl
no-cell (x ∷ cells) e c = absurd (cc e)

-- a topic with a reader
pub read-at : (table : TableState) (id : ℕ) (t : ConnectedTopic) → topic_at table.topics id ≡ Some t → find (λ (x : ConnectedTopic). is_no_cell (readers_of table x.id)) table.topics ≡ None → IsRead table id
read-at table id t at none =
    let some = some-cell (readers_of table id) (ap (λ i. is_no_cell (readers_of table i)) (sym (id-found table.topics id t at))
    ∙ fails-all (λ (x : ConnectedTopic). is_no_cell (readers_of table x.id)) (λ (x : ConnectedTopic). nat_eq id x.id) table.topics t none at) in
    record { reader = some.0; reads = some.1 }

-- the topic that leaves
pub leaves-found : (old new : TableState) (p : ConnectedTopic → Bool) (topic : Topic) (id : ℕ) → Rises old.topics → Some (topic, id) ≡ option_map leaving (find p old.topics) → TakesOut old new id
    → (t : ConnectedTopic) × ((find p old.topics ≡ Some t) × Leaves old new topic id)
leaves-found old new p topic id rises first out = at (find p old.topics) refl first
  where
    first-of : (a b : Topic × ℕ) → Some a ≡ Some b → a.0 ≡ b.0
    first-of a b h = cc h

    second-of : (a b : Topic × ℕ) → Some a ≡ Some b → a.1 ≡ b.1
    second-of a b h = cc h

    at : (o : Option ConnectedTopic) → find p old.topics ≡ o → Some (topic, id) ≡ option_map leaving o → (t : ConnectedTopic) × ((find p old.topics ≡ Some t) × Leaves old new topic id)
    at None is e = absurd (cc e)
    at (Some t) is e = (
      t,
      (
        is,
        record {
          left = t;
          at = ap (topic_at old.topics) (second-of (topic, id) (leaving t) e) ∙ at-self old.topics rises p t is;
          same = sym (first-of (topic, id) (leaving t) e);
          rises = rises;
          out = out;
        },
      ),
    )

-- no topic is the first
pub first-none : (topics : List ConnectedTopic) (p : ConnectedTopic → Bool) → None ≡ option_map leaving (find p topics) → find p topics ≡ None
first-none topics p e = at (find p topics) refl e
  where
    at : (o : Option ConnectedTopic) → find p topics ≡ o → None ≡ option_map leaving o → find p topics ≡ None
    at None is e = is
    at (Some t) is e = absurd (cc e)

-- the topic that leaves has no readers
pub unread-left : (table : TableState) (id : ℕ) (t : ConnectedTopic) → topic_at table.topics id ≡ Some t → is_no_cell (readers_of table t.id) ≡ true → (cell : Cell) → has_reader table id cell ≡ false
unread-left table id t at none cell = no-cell (readers_of table id) (ap (λ i. is_no_cell (readers_of table i)) (sym (id-found table.topics id t at)) ∙ none) cell

-- the topic that is given out leaves
pub popped-leaves : (r : Option (Topic × ℕ)) (old new : TableState) (p : ConnectedTopic → Bool) → Rises old.topics → r ≡ option_map leaving (find p old.topics) → IfSome r (λ (out : Topic × ℕ). TakesOut old new out.1)
    → IfSome r (λ (out : Topic × ℕ). Leaves old new out.0 out.1)
popped-leaves None old new p rises first out = tt
popped-leaves (Some o) old new p rises first out = (leaves-found old new p o.0 o.1 rises first out).1.1

-- it passes the test
pub popped-passes : (r : Option (Topic × ℕ)) (old new : TableState) (p : ConnectedTopic → Bool) → Rises old.topics → r ≡ option_map leaving (find p old.topics) → IfSome r (λ (out : Topic × ℕ). TakesOut old new out.1)
    → IfSome r (λ (out : Topic × ℕ). (t : ConnectedTopic) → topic_at old.topics out.1 ≡ Some t → p t ≡ true)
popped-passes None old new p rises first out = tt
popped-passes (Some o) old new p rises first out = λ t at.
    let x = leaves-found old new p o.0 o.1 rises first out in
    ap p (one t x.0 (sym at ∙ ap (topic_at old.topics) (sym (left-id x)) ∙ at-self old.topics rises p x.0 x.1.0)) ∙ found-passes p old.topics x.0 x.1.0
  where
    one : (a b : ConnectedTopic) → Some a ≡ Some b → a ≡ b
    one a b h = cc h

    left-id : (x : (t : ConnectedTopic) × ((find p old.topics ≡ Some t) × Leaves old new o.0 o.1)) → x.0.id ≡ o.1
    left-id x = second (leaving x.0) o (sym (first ∙ ap (option_map leaving) x.1.0))
      where
        second : (a b : Topic × ℕ) → Some a ≡ Some b → a.1 ≡ b.1
        second a b h = cc h

-- no reader of the topic that is given out
pub popped-unread : (r : Option (Topic × ℕ)) (table : TableState) → IfSome r (λ (out : Topic × ℕ). (t : ConnectedTopic) → topic_at table.topics out.1 ≡ Some t → is_no_cell (readers_of table t.id) ≡ true)
    → IfSome r (λ (out : Topic × ℕ). (t : ConnectedTopic) × (topic_at table.topics out.1 ≡ Some t)) → IfSome r (λ (out : Topic × ℕ). (cell : Cell) → has_reader table out.1 cell ≡ false)
popped-unread None table none there = tt
popped-unread (Some o) table none there = λ cell. unread-left table o.1 there.0 there.1 (none there.0 there.1) cell

-- where one leaves, it was there
pub leaves-there : (r : Option (Topic × ℕ)) (old new : TableState) → IfSome r (λ (out : Topic × ℕ). Leaves old new out.0 out.1) → IfSome r (λ (out : Topic × ℕ). (t : ConnectedTopic) × (topic_at old.topics out.1 ≡ Some t))
leaves-there None old new leaves = tt
leaves-there (Some o) old new leaves = (leaves.left, leaves.at)

-- where none is given out, none passes
pub none-popped : (r : Option (Topic × ℕ)) (topics : List ConnectedTopic) (p : ConnectedTopic → Bool) (P : Type 0) → r ≡ option_map leaving (find p topics) → (find p topics ≡ None → P) → IfNone r P
none-popped None topics p P first holds = holds (first-none topics p first)
none-popped (Some o) topics p P first holds = tt

-- all fail where none is found
pub none-all : {P : Type 0} (p : P → Bool) (xs : List P) → find p xs ≡ None → All (λ (x : P). p x ≡ false) xs
none-all {P} p [] none = All-nil (λ (x : P). p x ≡ false)
none-all {P} p (x ∷ xs) none =
    let parts = find_none (p x) x (find p xs) none in
    All-cons (λ (y : P). p y ≡ false) x xs parts.0 (none-all p xs parts.1)
  where
    find_none : (b : Bool) (x : P) (o : Option P) → cond b (Some x) o ≡ None → (b ≡ false) × (o ≡ None)
    find_none true x o e = absurd (cc e)
    find_none false x o e = (refl, e)

-- the readers stay where a topic without readers leaves
pub readers-left : (old new : TableState) (id : ℕ) → TakesOut old new id → ((cell : Cell) → has_reader old id cell ≡ false) → (q : ℕ) (cell : Cell) → has_reader new q cell ≡ has_reader old q cell
readers-left old new id out none q cell = out.readers q cell ∙ step (nat_eq id q) refl
  where
    step : (b : Bool) → nat_eq id q ≡ b → (not b && has_reader old q cell) ≡ has_reader old q cell
    step true here = sym (ap (λ i. has_reader old i cell) (sym (eqb-true id q here)) ∙ none cell)
    step false other = refl

-- another topic stays
pub stays-at : (old new : TableState) (id q : ℕ) → TakesOut old new id → nat_eq id q ≡ false → topic_at new.topics q ≡ topic_at old.topics q
stays-at old new id q out other = ap (λ ts. topic_at ts q) out.topics ∙ without-at old.topics id q ∙ ap (λ b. cond {A = Option ConnectedTopic} b None (topic_at old.topics q)) other

-- what is there now was there
pub was-at : (old new : TableState) (id q : ℕ) (t : ConnectedTopic) → TakesOut old new id → topic_at new.topics q ≡ Some t → topic_at old.topics q ≡ Some t
was-at old new id q t out at = (without-found old.topics id q t (ap (λ ts. topic_at ts q) (sym out.topics) ∙ at)).1

-- one topic less
pub fewer : (old new : TableState) (topic : Topic) (id : ℕ) → Leaves old new topic id → length new.topics < length old.topics
fewer old new topic id leaves = subst (λ (ts : List ConnectedTopic). length ts < length old.topics) (sym leaves.out.topics) (without-shorter old.topics id leaves.left leaves.at)

-- those that pass stay where one that fails leaves
pub filter-left : (topics : List ConnectedTopic) → Rises topics → (p : ConnectedTopic → Bool) (id : ℕ) (x : ConnectedTopic) → topic_at topics id ≡ Some x → p x ≡ false → filter p (topics_without topics id) ≡ filter p topics
filter-left [] rises p id x at fails = refl
filter-left (y ∷ ys) rises p id x at fails =
    filter_step (nat_eq id y.id) refl (topic_at ys id) refl at
    (filter-left ys (other-pairs (λ (a b : ConnectedTopic). a.id < b.id) y ys rises) p id x)
  where
    one : (a b : ConnectedTopic) → Some a ≡ Some b → a ≡ b
    one a b h = cc h

    apart : (a b : ℕ) → a < b → nat_eq a b ≡ false
    apart a b less = search (rules)

    filter_step : (b : Bool) → nat_eq id y.id ≡ b → (o : Option ConnectedTopic) → topic_at ys id ≡ o → cond b (Some y) o ≡ Some x → (topic_at ys id ≡ Some x → p x ≡ false → filter p (topics_without ys id) ≡ filter p ys)
        → filter p (cond (not b) (y ∷ topics_without ys id) (topics_without ys id)) ≡ cond (p y) (y ∷ filter p ys) (filter p ys)
    filter_step true here o is e rest =
        let gone : p y ≡ false = ap p (one y x e) ∙ fails in
        let none : topics_without ys id ≡ ys = filter-all (λ (z : ConnectedTopic). not (nat_eq id z.id)) ys
        (All-weaker (λ (z : ConnectedTopic). y.id < z.id) (λ (z : ConnectedTopic). not (nat_eq id z.id) ≡ true)
        (λ z less. ap not (ap (λ i. nat_eq i z.id) (eqb-true id y.id here) ∙ apart y.id z.id less)) ys (first-pairs (λ (a b : ConnectedTopic). a.id < b.id) y ys rises)) in
        ap (filter p) none ∙ ap (λ b. cond b (y ∷ filter p ys) (filter p ys)) (sym gone)
    filter_step false other o is e rest = ap (λ ts. cond (p y) (y ∷ ts) ts) (rest (is ∙ e) fails)

-- the same table, but for its room, after topics were disconnected
pub drops-kept : {S : Type 0} (state : S → ServerState) (ks ks' : List (ServerParts S)) (table table' table'' : TableState) → Drops state ks ks' table table' → KeepsTable table' table'' → Drops state ks ks' table table''
drops-kept state ks ks' table table' table'' drops same = record {
  linked = λ round linked. linked-table state ks' table' table'' round false same.topics.topics same.readers same.running (drops.linked round linked);
  known = drops.known;
  published = drops.published;
}
