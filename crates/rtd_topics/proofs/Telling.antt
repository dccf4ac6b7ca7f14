-- What is told of a pull: how many topics it changes, and the cells that read them.
use Rattle.std.proofs.Common.{◌≡◌, ◌<◌, ℕ, ◌==◌, Bool, true, false, cond, ◌||◌, List, [], ◌∷◌, Option, None, Some, get_or, length, refl, ap, sym, ◌∙◌, arith, rules}
use Rattle.std.specs.Prelude.{◌&&◌, All, filter, is_some, map, nat_eq, not, unwrap_or}
use Rattle.std.specs.List.{AllZip, IsDistinct, list_any}
use Rattle.std.specs.Map.{keys_of}
use Rattle.std.specs.Option.{option_map, option_map_or}
use Rattle.std.specs.Str.{bytes_eq}
use Rattle.std.specs.Bool.{beq}
use Rattle.std.proofs.lemmas.Bool.{eqb-true}
use Rattle.std.proofs.lemmas.Bool.Decides.{Decides-int_eq}
use Rattle.std.proofs.lemmas.Cmp.{nat_eq_equiv}
use Rattle.std.proofs.lemmas.List.{length-map}
use Rattle.std.proofs.lemmas.List.Elements.{All-filter, All-map, recursion_from_All}
use Rattle.std.proofs.lemmas.List.Folds.{list_any_none}
use Rattle.std.proofs.lemmas.List.Kept.{AllPairs-filter}
use Rattle.std.proofs.lemmas.Map.Made.{length-from_same_keys}
use Rattle.cell_refs.specs.declared.grid.Cell.{Cell}
use Rattle.cell_values.specs.declared.topics.Topic.{Topic}
use Rattle.cell_values.specs.declared.values.Value.{Value}
use Rattle.cell_values.specs.declared.values.Value.TheVariants as values
use Rattle.cell_values.specs.Error.{error_code}
use Rattle.cell_values.specs.SameValue.{same_value}
use Rattle.cell_values.proofs.PublicLaws.{same_topic-refl}
use Rattle.known_servers.specs.Server.{ServerParts}
use Rattle.rtd_server.specs.Server.{ServerState}
use Rattle.workbook.specs.Pulling.{gives_values}
use Rattle.rtd_topics.specs.Parts.{IsLinked, IsPrepared, IsPreparedServer, KeepsServer, RtdParts, is_news, is_news_of_one, opening_of, rtd_of, server_named, sorted_news, topic_has, with_value}
use Rattle.rtd_topics.specs.RtdState.{RtdState, SameRtd, is_changed, reads_one, topics_changed}
use Rattle.rtd_topics.proofs.Adding.{same-opening_added}
use Rattle.rtd_topics.proofs.Linking.{opening-kept, published-kept}
use Rattle.rtd_topics.proofs.Pulling.{all-apart, all-at, any-each, any-named, pulled-at}
use Rattle.rtd_topics.proofs.RtdFacts.{none-at_rest, taken-all}
use Rattle.rtd_topics.proofs.ServerLists.{follows-zip, itself, known-zip}
use Rattle.rtd_topics.proofs.TableFacts.{all-found, id-found}
use Rattle.rtd_topics.proofs.TopicFacts.{Rises, StandOnce, both-ways, find-at, first-pairs, other-pairs}
use Rattle.topic_table.specs.Table.{ConnectedTopic, TableState, has_other_value, has_reader, topic_at}

-- a value is the same as itself
pub value-itself : (v : Value) → same_value v v ≡ true
value-itself (values.Num m) = (Decides-int_eq m m).1 refl
value-itself (values.Text t) = itself t
value-itself (values.Bool b) = same b
  where
    same : (b : Bool) → beq b b ≡ true
    same true = refl
    same false = refl
value-itself (values.Error e) = same (error_code e)
  where
    same : (n : ℕ) → (n == n) ≡ true
    same n = search (rules)
value-itself values.Blank = refl

-- whether some server has news that change a topic, by its own server
pub news-at : {S : Type 0} (state : S → ServerState) (ks : List (ServerParts S)) (table : TableState) (round : ℕ) (run : Bool) (id : ℕ) (t : ConnectedTopic) (k : ServerParts S)
    → IsLinked state ks table round run → All (IsPreparedServer state) ks → topic_at table.topics id ≡ Some t → server_named ks t.topic.server ≡ Some k
    → is_news ks table.topics id ≡ is_news_of_one k table.topics id
news-at {S} state ks table round run id t k linked prepared at found =
    let apart = all-apart state ks table round run id t linked at prepared in
    any-each (λ (x : ServerParts S). is_news_of_one x table.topics id) (λ (x : ServerParts S). bytes_eq t.topic.server x.name && is_news_of_one x table.topics id) ks
    (λ j d below. own (get_or ks j d) (apart j d below) (bytes_eq t.topic.server (get_or ks j d).name) refl)
    ∙ any-named (λ (x : ServerParts S). is_news_of_one x table.topics id) t.topic.server ks linked.once
    ∙ ap (λ (o : Option (ServerParts S)). option_map_or (λ (x : ServerParts S). is_news_of_one x table.topics id) o false) found
  where
    none : (b : Bool) (o : Option Value) → (b ≡ true → o ≡ None) → (b && option_map_or (λ (v : Value). has_other_value table.topics id v) o false) ≡ false
    none true o gone = ap (λ (p : Option Value). option_map_or (λ (v : Value). has_other_value table.topics id v) p false) (gone refl)
    none false o gone = refl

    own : (x : ServerParts S) → (x.flag ≡ true → bytes_eq t.topic.server x.name ≡ false → sorted_news x id ≡ None) → (b : Bool) → bytes_eq t.topic.server x.name ≡ b
        → is_news_of_one x table.topics id ≡ (b && is_news_of_one x table.topics id)
    own x apart true here = refl
    own x apart false other = none x.flag (sorted_news x id) (λ on. apart on other)

-- a pull changes a connected topic where there are news that change it
pub changed-at : {S : Type 0} (state : S → ServerState) (p : RtdParts S) (id : ℕ) (t : ConnectedTopic) (k : ServerParts S)
    → IsLinked state p.servers p.table p.round p.is_running → IsPrepared state p → topic_at p.table.topics id ≡ Some t → server_named p.servers t.topic.server ≡ Some k
    → is_changed (rtd_of state p) (with_value t) ≡ is_news p.servers p.table.topics id
changed-at {S} state p id t k linked prepared at found =
    ap (λ (v : Value). not (same_value t.value v)) (pulled-at state p id t k linked prepared at found)
    ∙ differ k.flag (sorted_news k id)
    ∙ ap (λ (o : Option ConnectedTopic). k.flag && option_map_or (λ (v : Value). option_map_or (λ (x : ConnectedTopic). not (same_value x.value v)) o false) (sorted_news k id) false) (sym at)
    ∙ sym (news-at state p.servers p.table p.round p.is_running id t k linked prepared at found)
  where
    differ : (b : Bool) (o : Option Value) → not (same_value t.value (cond b (unwrap_or o t.value) t.value)) ≡ (b && option_map_or (λ (v : Value). not (same_value t.value v)) o false)
    differ true None = ap not (value-itself t.value)
    differ true (Some v) = refl
    differ false o = ap not (value-itself t.value)

-- there are news that change an id where its topic is changed
pub news-passing : {S : Type 0} (state : S → ServerState) (p : RtdParts S) → IsLinked state p.servers p.table p.round p.is_running → IsPrepared state p → (q : ℕ)
    → is_news p.servers p.table.topics q ≡ option_map_or (λ (t : ConnectedTopic). is_changed (rtd_of state p) (with_value t)) (topic_at p.table.topics q) false
news-passing {S} state p linked prepared q = by (topic_at p.table.topics q) refl
  where
    no_value : (o : Option Value) → option_map_or (λ (v : Value). false) o false ≡ false
    no_value None = refl
    no_value (Some v) = refl

    never : (b : Bool) → (b && false) ≡ false
    never true = refl
    never false = refl

    served : (t : ConnectedTopic) → topic_at p.table.topics q ≡ Some t → (o : Option (ServerParts S)) → server_named p.servers t.topic.server ≡ o → is_news p.servers p.table.topics q ≡ is_changed (rtd_of state p) (with_value t)
    served t at None found = absurd (cc (sym (linked.served q t at) ∙ ap is_some found))
    served t at (Some k) found = sym (changed-at state p q t k linked prepared at found)

    by : (o : Option ConnectedTopic) → topic_at p.table.topics q ≡ o → is_news p.servers p.table.topics q ≡ option_map_or (λ (t : ConnectedTopic). is_changed (rtd_of state p) (with_value t)) o false
    by None gone = list_any_none (λ (k : ServerParts S). is_news_of_one k p.table.topics q) p.servers
        (λ j d below.
        ap (λ (o : Option ConnectedTopic). (get_or p.servers j d).flag && option_map_or (λ (v : Value). option_map_or (λ (x : ConnectedTopic). not (same_value x.value v)) o false) (sorted_news (get_or p.servers j d) q) false) gone
        ∙ ap (λ b. (get_or p.servers j d).flag && b) (no_value (sorted_news (get_or p.servers j d) q)) ∙ never (get_or p.servers j d).flag)
    by (Some t) at = served t at (server_named p.servers t.topic.server) refl

-- the ids of topics
abbrev pub ids_of : List ConnectedTopic → List ℕ
ids_of topics = map (λ (t : ConnectedTopic). t.id) topics

-- an id is among those of the topics that pass where its topic passes
pub ids-passing : (p : ConnectedTopic → Bool) (topics : List ConnectedTopic) → Rises topics → (q : ℕ) → list_any (nat_eq q) (ids_of (filter p topics)) ≡ option_map_or p (topic_at topics q) false
ids-passing p [] rises q = refl
ids-passing p (t ∷ ts) rises q =
    step (p t) (nat_eq q t.id) refl refl (ids-passing p ts (other-pairs (λ (a b : ConnectedTopic). a.id < b.id) t ts rises) q)
    (λ here. gone (first-pairs (λ (a b : ConnectedTopic). a.id < b.id) t ts rises) (eqb-true q t.id here) (topic_at ts q) refl)
  where
    gone : All (λ (y : ConnectedTopic). t.id < y.id) ts → q ≡ t.id → (o : Option ConnectedTopic) → topic_at ts q ≡ o → o ≡ None
    gone later here None is = refl
    gone later here (Some y) is =
        let less : t.id < y.id = all-found (λ (y : ConnectedTopic). t.id < y.id) (λ (y : ConnectedTopic). nat_eq q y.id) ts y later is in
        let same : y.id ≡ q = id-found ts q y is in
        absurd (omega (arith, less, same, here))

    step : (b c : Bool) → p t ≡ b → nat_eq q t.id ≡ c → list_any (nat_eq q) (ids_of (filter p ts)) ≡ option_map_or p (topic_at ts q) false → (c ≡ true → topic_at ts q ≡ None)
        → list_any (nat_eq q) (ids_of (cond b (t ∷ filter p ts) (filter p ts))) ≡ option_map_or p (cond c (Some t) (topic_at ts q)) false
    step true true passes here rest none = ap (λ d. d || list_any (nat_eq q) (ids_of (filter p ts))) here ∙ sym passes
    step true false passes other rest none = ap (λ d. d || list_any (nat_eq q) (ids_of (filter p ts))) other ∙ rest
    step false true fails here rest none = rest ∙ ap (λ (o : Option ConnectedTopic). option_map_or p o false) (none refl) ∙ sym fails
    step false false fails other rest none = rest

-- ids that rise are distinct
pub ids-apart : (topics : List ConnectedTopic) → Rises topics → IsDistinct nat_eq (ids_of topics)
unfolding IsDistinct
ids-apart [] rises = tt
ids-apart (t ∷ ts) rises =
    let later = first-pairs (λ (a b : ConnectedTopic). a.id < b.id) t ts rises in (
      recursion_from_All (λ (n : ℕ). nat_eq t.id n ≡ false) (ids_of ts)
          (All-map (λ (n : ℕ). nat_eq t.id n ≡ false) (λ (y : ConnectedTopic). y.id) ts (λ j d below. differ t.id (get_or ts j d).id (later j d below))),
      ids-apart ts (other-pairs (λ (a b : ConnectedTopic). a.id < b.id) t ts rises),
    )
  where
    differ : (a b : ℕ) → a < b → nat_eq a b ≡ false
    differ a b less = search (rules)

-- the connected topics that a pull changes
abbrev pub changed_of : {S : Type 0} → (S → ServerState) → RtdParts S → List ConnectedTopic
changed_of state p = filter (λ (t : ConnectedTopic). is_changed (rtd_of state p) (with_value t)) p.table.topics

-- they are the topics whose value a pull changes
pub topics-changed : {S : Type 0} (state : S → ServerState) (p : RtdParts S) → p.is_running ≡ false → topics_changed (rtd_of state p) ≡ map (λ (t : ConnectedTopic). t.topic) (changed_of state p)
topics-changed {S} state p rests =
    ap (λ ts. keys_of (filter (is_changed (rtd_of state p)) (map with_value ts))) (taken-all p.is_running p.round p.table.topics (none-at_rest p.is_running p.round p.table.topics rests))
    ∙ each (is_changed (rtd_of state p)) p.table.topics
  where
    each : (f : Topic × Value → Bool) (ts : List ConnectedTopic) → keys_of (filter f (map with_value ts)) ≡ map (λ (t : ConnectedTopic). t.topic) (filter (λ (t : ConnectedTopic). f (with_value t)) ts)
    each f [] = refl
    each f (t ∷ ts) = step (f (with_value t)) (each f ts)
      where
        step : (b : Bool) → keys_of (filter f (map with_value ts)) ≡ map (λ (t : ConnectedTopic). t.topic) (filter (λ (t : ConnectedTopic). f (with_value t)) ts)
            → keys_of (cond b (with_value t ∷ filter f (map with_value ts)) (filter f (map with_value ts)))
            ≡ map (λ (t : ConnectedTopic). t.topic) (cond b (t ∷ filter (λ (t : ConnectedTopic). f (with_value t)) ts) (filter (λ (t : ConnectedTopic). f (with_value t)) ts))
        step true rest = ap (λ ts. t.topic ∷ ts) rest
        step false rest = rest

-- ids that stand for news are those of the changed topics
same-ids : {S : Type 0} (state : S → ServerState) (p : RtdParts S) (ids : List ℕ) → Rises p.table.topics → IsLinked state p.servers p.table p.round p.is_running → IsPrepared state p
    → ((q : ℕ) → list_any (nat_eq q) ids ≡ is_news p.servers p.table.topics q) → (q : ℕ) → list_any (nat_eq q) ids ≡ list_any (nat_eq q) (ids_of (changed_of state p))
same-ids {S} state p ids rises linked prepared told q =
    told q ∙ news-passing state p linked prepared q ∙ sym (ids-passing (λ (t : ConnectedTopic). is_changed (rtd_of state p) (with_value t)) p.table.topics rises q)

-- there are as many of them as topics that a pull changes
pub told-changed : {S : Type 0} (state : S → ServerState) (p : RtdParts S) (ids : List ℕ) → Rises p.table.topics → IsLinked state p.servers p.table p.round p.is_running → IsPrepared state p → p.is_running ≡ false
    → IsDistinct nat_eq ids → ((q : ℕ) → list_any (nat_eq q) ids ≡ is_news p.servers p.table.topics q) → length ids ≡ length (topics_changed (rtd_of state p))
told-changed {S} state p ids rises linked prepared rests once told =
    length-from_same_keys nat_eq_equiv ids (ids_of (changed_of state p)) once
    (ids-apart (changed_of state p) (AllPairs-filter (λ (a b : ConnectedTopic). a.id < b.id) (λ (t : ConnectedTopic). is_changed (rtd_of state p) (with_value t)) p.table.topics rises))
    (same-ids state p ids rises linked prepared told)
    ∙ length-map (changed_of state p) (λ (t : ConnectedTopic). t.id)
    ∙ sym (length-map (changed_of state p) (λ (t : ConnectedTopic). t.topic))
    ∙ ap length (sym (topics-changed state p rests))

-- where a number is among those that passes, one passes
member-passes : (f : ℕ → Bool) (q : ℕ) (ys : List ℕ) → f q ≡ true → list_any (nat_eq q) ys ≡ true → list_any f ys ≡ true
member-passes f q [] passes among = absurd (cc among)
member-passes f q (y ∷ ys) passes among = step (nat_eq q y) refl (member-passes f q ys passes) among
  where
    behind : (a b : Bool) → b ≡ true → (a || b) ≡ true
    behind true b h = refl
    behind false b h = h

    step : (b : Bool) → nat_eq q y ≡ b → (list_any (nat_eq q) ys ≡ true → list_any f ys ≡ true) → (b || list_any (nat_eq q) ys) ≡ true → (f y || list_any f ys) ≡ true
    step true here rest among = ap (λ b. b || list_any f ys) (ap f (sym (eqb-true q y here)) ∙ passes)
    step false other rest among = behind (f y) (list_any f ys) (rest among)

-- where one of some numbers passes, one of those passes among which they are
some-passes : (f : ℕ → Bool) (xs ys : List ℕ) → ((q : ℕ) → list_any (nat_eq q) xs ≡ true → list_any (nat_eq q) ys ≡ true) → list_any f xs ≡ true → list_any f ys ≡ true
some-passes f [] ys within passes = absurd (cc passes)
some-passes f (x ∷ xs) ys within passes =
    step (f x) refl (some-passes f xs ys (λ q among. within q (behind (nat_eq q x) (list_any (nat_eq q) xs) among))) passes
  where
    behind : (a b : Bool) → b ≡ true → (a || b) ≡ true
    behind true b h = refl
    behind false b h = h

    same : (n : ℕ) → nat_eq n n ≡ true
    same n = search (rules)

    step : (b : Bool) → f x ≡ b → (list_any f xs ≡ true → list_any f ys ≡ true) → (b || list_any f xs) ≡ true → list_any f ys ≡ true
    step true here rest passes = member-passes f x ys here (within x (ap (λ b. b || list_any (nat_eq x) xs) (same x)))
    step false other rest passes = rest passes

-- one passes of two lists that have the same numbers, or none
pub any-members : (f : ℕ → Bool) (xs ys : List ℕ) → ((q : ℕ) → list_any (nat_eq q) xs ≡ list_any (nat_eq q) ys) → list_any f xs ≡ list_any f ys
any-members f xs ys same =
    both-ways (list_any f xs) (list_any f ys) (some-passes f xs ys (λ q among. sym (same q) ∙ among)) (some-passes f ys xs (λ q among. same q ∙ among))

-- one of what is given passes
pub any-given : {X Y : Type 0} (f : Y → Bool) (g : X → Y) (xs : List X) → list_any f (map g xs) ≡ list_any (λ x. f (g x)) xs
any-given f g [] = refl
any-given f g (x ∷ xs) = ap (λ b. f (g x) || b) (any-given f g xs)

-- a cell reads one of the topics that a pull changes where it reads one of these ids
pub told-readers : {S : Type 0} (state : S → ServerState) (p : RtdParts S) (ids : List ℕ) → Rises p.table.topics → StandOnce p.table.topics → IsLinked state p.servers p.table p.round p.is_running → IsPrepared state p
    → p.is_running ≡ false → ((q : ℕ) → list_any (nat_eq q) ids ≡ is_news p.servers p.table.topics q)
    → (cell : Cell) → list_any (λ id. has_reader p.table id cell) ids ≡ reads_one (rtd_of state p) (topics_changed (rtd_of state p)) cell
told-readers {S} state p ids rises once linked prepared rests told cell =
    let has : ℕ → Bool = λ id. has_reader p.table id cell in
    let reads : Topic → Bool = λ topic. topic_has (has_reader p.table) p.table.topics topic cell in
    let there = all-at p.table.topics rises in
    any-members has ids (ids_of (changed_of state p)) (same-ids state p ids rises linked prepared told)
    ∙ any-given has (λ (t : ConnectedTopic). t.id) (changed_of state p)
    ∙ any-each (λ (t : ConnectedTopic). has t.id) (λ (t : ConnectedTopic). reads t.topic) (changed_of state p)
    (All-filter (λ (t : ConnectedTopic). is_changed (rtd_of state p) (with_value t)) (λ (t : ConnectedTopic). has t.id ≡ reads t.topic) p.table.topics
    (λ j d below. own (get_or p.table.topics j d) (there j d below)))
    ∙ sym (any-given reads (λ (t : ConnectedTopic). t.topic) (changed_of state p))
    ∙ ap (list_any reads) (sym (topics-changed state p rests))
  where
    own : (t : ConnectedTopic) → topic_at p.table.topics t.id ≡ Some t → has_reader p.table t.id cell ≡ topic_has (has_reader p.table) p.table.topics t.topic cell
    own t at =
        ap (λ (o : Option ConnectedTopic). option_map_or (λ (id : ℕ). has_reader p.table id cell) (option_map (λ (y : ConnectedTopic). y.id) o) false) (sym (find-at p.table.topics once t.topic t.id t at (same_topic-refl t.topic)))

-- a pull changes the same topics where all is the same
pub changed-kept : (old new : RtdState) → SameRtd old new → topics_changed new ≡ topics_changed old
changed-kept old new same =
    λ i. keys_of (filter (λ (entry : Topic × Value). not (same_value entry.1 (cond (gives_values (same.servers i) [] entry.0.server) (unwrap_or (same.published entry.0 i) entry.1) entry.1))) (same.topics.taken i))

-- a cell reads one of them where it did
pub reads-kept : (old new : RtdState) → SameRtd old new → (cell : Cell) → reads_one new (topics_changed new) cell ≡ reads_one old (topics_changed old) cell
reads-kept old new same cell = λ i. list_any (λ topic. same.topics.read.readers topic cell i) (changed-kept old new same i)

-- all shows the same where the servers do
pub same-gathered : {S : Type 0} (state : S → ServerState) (p : RtdParts S) (ks' : List (ServerParts S)) → AllZip (KeepsServer state) p.servers ks' → SameRtd (rtd_of state p) (rtd_of state (record p { servers = ks' }))
same-gathered {S} state p ks' keeps =
    let R : List ℕ → ServerParts S → ServerParts S → Type 0 = λ m. KeepsServer state in
    let follows = follows-zip (KeepsServer state) R (λ k k' r. r.0.0) (λ m k k' r. r) p.servers ks' keeps in
    record {
      servers = known-zip (KeepsServer state) (λ k k' r. r.0) p.servers ks' keeps;
      published = published-kept state R p.servers ks' follows (λ m k k' r. r.1.0.0);
      throttle = refl;
      topics = record {
        taken = refl;
        opening = same-opening_added p.is_running (opening_of state p.servers) (opening_of state ks') (opening-kept state R p.servers ks' follows (λ m k k' r. r.1.0.1));
        read = record { readers = λ topic cell. refl; reading = λ topic cell. refl };
        round = refl;
      };
    }
