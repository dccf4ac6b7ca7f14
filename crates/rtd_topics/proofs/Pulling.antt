-- What a pull takes: of each topic what its server published, where it is flagged.
use Rattle.std.proofs.Common.{◌≡◌, ◌<◌, ◌≤◌, ℕ, Bool, true, false, cond, ◌||◌, List, [], ◌∷◌, ◌++◌, Option, None, Some, get_or, refl, ap, sym, subst, ◌∙◌, rules}
use Rattle.std.specs.Prelude.{◌&&◌, All, filter, find, is_some, map, nat_eq, not, unwrap_or}
use Rattle.std.specs.List.{AllZip, IsDistinct, list_any}
use Rattle.std.specs.Map.{lookup}
use Rattle.std.specs.Option.{option_and_then, option_map, option_map_or}
use Rattle.std.specs.Str.{bytes_eq}
use Rattle.std.proofs.lemmas.List.Elements.{All-cons, All-head, All-map, All-nil, All-same, All-tail}
use Rattle.cell_refs.specs.declared.grid.Cell.{Cell}
use Rattle.cell_values.specs.declared.topics.Topic.{Topic}
use Rattle.cell_values.specs.declared.values.Value.{Value}
use Rattle.cell_values.specs.Topic.{same_topic}
use Rattle.known_servers.specs.Server.{IsCurrent, IsGathered, ServerParts, has_name, view_of}
use Rattle.rtd_server.specs.Server.{ServerState, news_of}
use Rattle.rtd_server.specs.Strings.{Strings}
use Rattle.workbook.specs.Pulling.{gives_values, pulled_servers}
use Rattle.rtd_topics.specs.Parts.{IsLinked, IsPrepared, IsPreparedServer, KeepsReadings, RtdParts, TakesServer, is_of_round, known_of, names_of, published_of, rtd_of, server_named, sorted_news, strings_for, topic_has, topics_after, topics_after_one, with_value}
use Rattle.rtd_topics.specs.RtdState.{value_pulled, with_value_pulled}
use Rattle.rtd_topics.proofs.Connecting.{kept-readings, not-so, running-readings}
use Rattle.rtd_topics.proofs.Linking.{once-kept, published-kept}
use Rattle.rtd_topics.proofs.RtdFacts.{none-at_rest, taken-all}
use Rattle.rtd_topics.proofs.ServerLists.{both-found, both-new, distinct-parts, equal_names, follows-zip, found-named, itself}
use Rattle.rtd_topics.proofs.TableFacts.{all-found, id-found}
use Rattle.rtd_topics.proofs.TopicFacts.{Rises, first-pairs, other-pairs}
use Rattle.topic_table.specs.Table.{ConnectedTopic, TableState, id_of, topic_at}

names-turned : (a b : List ℕ) → bytes_eq a b ≡ bytes_eq b a
names-turned a b = search (rules)

or_parts : (a b : Bool) → (a || b) ≡ false → (a ≡ false) × (b ≡ false)
or_parts true b h = absurd (cc h)
or_parts false b h = (refl, h)

-- what isn't there
pub is-none : {X : Type 0} (o : Option X) → is_some o ≡ false → o ≡ None
is-none None h = refl
is-none (Some x) h = absurd (cc h)

-- a name that isn't among those is none of them
none-of : {S : Type 0} (n : List ℕ) (ks : List (ServerParts S)) → list_any (bytes_eq n) (names_of ks) ≡ false → All (λ (k : ServerParts S). bytes_eq n k.name ≡ false) ks
none-of {S} n [] none = All-nil (λ (k : ServerParts S). bytes_eq n k.name ≡ false)
none-of {S} n (k ∷ ks) none =
    let parts = or_parts (bytes_eq n k.name) (list_any (bytes_eq n) (names_of ks)) none in
    All-cons (λ (k : ServerParts S). bytes_eq n k.name ≡ false) k ks parts.0 (none-of n ks parts.1)

-- where no name stands twice, each server is the one of its name
pub all-named : {S : Type 0} (ks : List (ServerParts S)) → IsDistinct bytes_eq (names_of ks) → All (λ (k : ServerParts S). server_named ks k.name ≡ Some k) ks
all-named {S} [] once = All-nil (λ (k : ServerParts S). server_named [] k.name ≡ Some k)
all-named {S} (k ∷ ks) once =
    let parts = distinct-parts bytes_eq k.name (names_of ks) once in
    let none = none-of k.name ks parts.0 in
    let rest = all-named ks parts.1 in
    All-cons (λ (x : ServerParts S). server_named (k ∷ ks) x.name ≡ Some x) k ks
    (ap (λ b. cond b (Some k) (server_named ks k.name)) (itself k.name))
    (λ j d below. ap (λ b. cond b (Some k) (server_named ks (get_or ks j d).name)) (names-turned (get_or ks j d).name k.name ∙ none j d below) ∙ rest j d below)

-- one of the servers has this name and passes where the one of the name passes
pub any-named : {S : Type 0} (f : ServerParts S → Bool) (n : List ℕ) (ks : List (ServerParts S)) → IsDistinct bytes_eq (names_of ks)
    → list_any (λ (k : ServerParts S). bytes_eq n k.name && f k) ks ≡ option_map_or f (server_named ks n) false
any-named f n [] once = refl
any-named {S} f n (k ∷ ks) once =
    let parts = distinct-parts bytes_eq k.name (names_of ks) once in
    let rest = any-named f n ks parts.1 in
    split (bytes_eq n k.name) rest
    (λ here. is-none (server_named ks n) (found-named ks n ∙ ap (λ m. list_any (bytes_eq m) (names_of ks)) (equal_names n k.name here) ∙ parts.0)) refl
  where
    last : (b : Bool) → (b || false) ≡ b
    last true = refl
    last false = refl

    split : (b : Bool) → list_any (λ (k : ServerParts S). bytes_eq n k.name && f k) ks ≡ option_map_or f (server_named ks n) false → (b ≡ true → server_named ks n ≡ None) → bytes_eq n k.name ≡ b
        → ((b && f k) || list_any (λ (k : ServerParts S). bytes_eq n k.name && f k) ks) ≡ option_map_or f (cond b (Some k) (server_named ks n)) false
    split true rest none is = ap (λ b. f k || b) (rest ∙ ap (λ (o : Option (ServerParts S)). option_map_or f o false) (none refl)) ∙ last (f k)
    split false rest none is = rest

-- one passes where one passes an equal test
pub any-each : {X : Type 0} (f g : X → Bool) (xs : List X) → All (λ x. f x ≡ g x) xs → list_any f xs ≡ list_any g xs
any-each f g [] same = refl
any-each f g (x ∷ xs) same = λ i. All-head (λ y. f y ≡ g y) x xs same i || any-each f g xs (All-tail (λ y. f y ≡ g y) x xs same) i

-- each becomes the same by two functions
pub map-each : {X Y : Type 0} (f g : X → Y) (xs : List X) → All (λ x. f x ≡ g x) xs → map f xs ≡ map g xs
map-each f g [] same = refl
map-each f g (x ∷ xs) same = λ i. All-head (λ y. f y ≡ g y) x xs same i ∷ map-each f g xs (All-tail (λ y. f y ≡ g y) x xs same) i

-- whether a pull takes values of the server of a name
pub gives-named : {S : Type 0} (n : List ℕ) (ks : List (ServerParts S)) → IsDistinct bytes_eq (names_of ks) → gives_values (map known_of ks) [] n ≡ option_map_or (λ (k : ServerParts S). k.flag) (server_named ks n) false
gives-named {S} n ks once = each ks ∙ any-named (λ (k : ServerParts S). k.flag) n ks once
  where
    both : (a b : Bool) → (a && (b && true)) ≡ (b && a)
    both true true = refl
    both true false = refl
    both false true = refl
    both false false = refl

    each : (ks : List (ServerParts S)) → gives_values (map known_of ks) [] n ≡ list_any (λ (k : ServerParts S). bytes_eq n k.name && k.flag) ks
    each [] = refl
    each (k ∷ ks) = λ i. both k.flag (bytes_eq n k.name) i || each ks i

-- of a server of which all was given, a pull takes what was sorted in
pub pending-gathered : {S : Type 0} (state : S → ServerState) (k : ServerParts S) → IsGathered state k → (id : ℕ) → (view_of state k).pending id ≡ sorted_news k id
pending-gathered state k gathered id =
    λ i. cond (list_any (nat_eq id) (gathered.0 i)) (Some (news_of (state k.server) id)) (lookup (nat_eq id) (gathered.1 i ++ k.news.sorted))

-- a flagged server of another name has no news for a topic
pub news-apart : {S : Type 0} (state : S → ServerState) (ks : List (ServerParts S)) (table : TableState) (round : ℕ) (run : Bool) (id : ℕ) (t : ConnectedTopic) (k : ServerParts S)
    → IsLinked state ks table round run → topic_at table.topics id ≡ Some t → server_named ks k.name ≡ Some k → IsPreparedServer state k → k.flag ≡ true → bytes_eq t.topic.server k.name ≡ false
    → sorted_news k id ≡ None
news-apart {S} state ks table round run id t k linked at named prepared flagged apart =
    let gathered : IsGathered state k = prepared flagged in
    let strings : strings_for table.topics k.name id ≡ None =
    ap (option_and_then (λ (x : ConnectedTopic). cond (bytes_eq k.name x.topic.server) (Some x.topic.strings) None)) at
    ∙ ap (λ b. cond b (Some t.topic.strings) None) (names-turned k.name t.topic.server ∙ apart) in
    sym (pending-gathered state k gathered id)
    ∙ is-none ((view_of state k).pending id)
    (not-so (is_some ((view_of state k).pending id)) (is_some ((view_of state k).connected id)) (linked.pended k.name k id named)
    (ap is_some (linked.connected k.name k named id ∙ strings)))

-- no news for a topic by a server of another name, of each server
pub all-apart : {S : Type 0} (state : S → ServerState) (ks : List (ServerParts S)) (table : TableState) (round : ℕ) (run : Bool) (id : ℕ) (t : ConnectedTopic)
    → IsLinked state ks table round run → topic_at table.topics id ≡ Some t → All (IsPreparedServer state) ks
    → All (λ (k : ServerParts S). k.flag ≡ true → bytes_eq t.topic.server k.name ≡ false → sorted_news k id ≡ None) ks
all-apart {S} state ks table round run id t linked at prepared =
    let named = all-named ks linked.once in
    λ j d below flagged apart. news-apart state ks table round run id t (get_or ks j d) linked at (named j d below) (prepared j d below) flagged apart

-- the value that a pull leaves a connected topic: the news of its server, where it is flagged
pub pulled-at : {S : Type 0} (state : S → ServerState) (p : RtdParts S) (id : ℕ) (t : ConnectedTopic) (k : ServerParts S)
    → IsLinked state p.servers p.table p.round p.is_running → IsPrepared state p → topic_at p.table.topics id ≡ Some t → server_named p.servers t.topic.server ≡ Some k
    → value_pulled (rtd_of state p) (with_value t) ≡ cond k.flag (unwrap_or (sorted_news k id) t.value) t.value
pulled-at {S} state p id t k linked prepared at found =
    (λ i. cond ((gives-named t.topic.server p.servers linked.once ∙ ap (λ (o : Option (ServerParts S)). option_map_or (λ (x : ServerParts S). x.flag) o false) found) i)
    (unwrap_or (ap (option_and_then (λ (x : ServerParts S). (view_of state x).published t.topic.strings)) found i) t.value) t.value)
    ∙ by k.flag (λ on. linked.current id t k at found ∙ ap (λ (o : Option Value). unwrap_or o t.value) (pending-gathered state k (all-found (IsPreparedServer state) (has_name t.topic.server) p.servers k prepared found on) id))
  where
    by : (b : Bool) → (b ≡ true → unwrap_or ((view_of state k).published t.topic.strings) t.value ≡ unwrap_or (sorted_news k id) t.value)
        → cond b (unwrap_or ((view_of state k).published t.topic.strings) t.value) t.value ≡ cond b (unwrap_or (sorted_news k id) t.value) t.value
    by true same = same refl
    by false same = refl

-- where ids rise, each topic is the one of its id
pub all-at : (topics : List ConnectedTopic) → Rises topics → All (λ (t : ConnectedTopic). topic_at topics t.id ≡ Some t) topics
all-at [] rises = All-nil (λ (t : ConnectedTopic). topic_at [] t.id ≡ Some t)
all-at (x ∷ xs) rises =
    let later = first-pairs (λ (a b : ConnectedTopic). a.id < b.id) x xs rises in
    let rest = all-at xs (other-pairs (λ (a b : ConnectedTopic). a.id < b.id) x xs rises) in
    All-cons (λ (t : ConnectedTopic). topic_at (x ∷ xs) t.id ≡ Some t) x xs
    (ap (λ b. cond b (Some x) (topic_at xs x.id)) (same x.id))
    (λ j d below. ap (λ b. cond b (Some x) (topic_at xs (get_or xs j d).id)) (differ (get_or xs j d).id x.id (later j d below)) ∙ rest j d below)
  where
    same : (n : ℕ) → nat_eq n n ≡ true
    same n = search (rules)

    differ : (a b : ℕ) → b < a → nat_eq a b ≡ false
    differ a b less = search (rules)

-- the value under an id with the news of the flagged ones of these servers
abbrev pub value_after : {S : Type 0} → List (ServerParts S) → ℕ → Value → Value
value_after [] id value = value
value_after (k ∷ ks) id value = value_after ks id (cond k.flag (unwrap_or (sorted_news k id) value) value)

-- a topic with that value
abbrev pub topic_after : {S : Type 0} → List (ServerParts S) → ConnectedTopic → ConnectedTopic
topic_after ks t = record t { value = value_after ks t.id t.value }

-- topics with the news of servers, one by one
pub each-after : {S : Type 0} (ks : List (ServerParts S)) (topics : List ConnectedTopic) → topics_after ks topics ≡ map (topic_after ks) topics
each-after [] topics = stays topics
  where
    stays : (ts : List ConnectedTopic) → ts ≡ map (λ (t : ConnectedTopic). t) ts
    stays [] = refl
    stays (t ∷ ts) = ap (λ us. t ∷ us) (stays ts)
each-after {S} (k ∷ ks) topics = each-after ks (topics_after_one k topics) ∙ one k.flag topics
  where
    one : (b : Bool) (ts : List ConnectedTopic)
        → map (topic_after ks) (cond b (map (λ (t : ConnectedTopic). record t { value = unwrap_or (sorted_news k t.id) t.value }) ts) ts)
        ≡ map (λ (t : ConnectedTopic). record t { value = value_after ks t.id (cond b (unwrap_or (sorted_news k t.id) t.value) t.value) }) ts
    one true [] = refl
    one true (t ∷ ts) = ap (λ us. record t { value = value_after ks t.id (unwrap_or (sorted_news k t.id) t.value) } ∷ us) (one true ts)
    one false ts = refl

-- the news of the server of a topic count, and no others
pub after-at : {S : Type 0} (n : List ℕ) (id : ℕ) (ks : List (ServerParts S)) → IsDistinct bytes_eq (names_of ks)
    → All (λ (k : ServerParts S). k.flag ≡ true → bytes_eq n k.name ≡ false → sorted_news k id ≡ None) ks
    → (value : Value) → value_after ks id value ≡ option_map_or (λ (k : ServerParts S). cond k.flag (unwrap_or (sorted_news k id) value) value) (server_named ks n) value
after-at n id [] once apart value = refl
after-at {S} n id (k ∷ ks) once apart value =
    let parts = distinct-parts bytes_eq k.name (names_of ks) once in
    let Q : ServerParts S → Type 0 = λ (k : ServerParts S). k.flag ≡ true → bytes_eq n k.name ≡ false → sorted_news k id ≡ None in
    after-at n id ks parts.1 (All-tail Q k ks apart) (cond k.flag (unwrap_or (sorted_news k id) value) value)
    ∙ split (bytes_eq n k.name)
    (λ here. is-none (server_named ks n) (found-named ks n ∙ ap (λ m. list_any (bytes_eq m) (names_of ks)) (equal_names n k.name here) ∙ parts.0))
    (λ other. stays k.flag (sorted_news k id) (λ on. All-head Q k ks apart on other))
  where
    stays : (b : Bool) (o : Option Value) → (b ≡ true → o ≡ None) → cond b (unwrap_or o value) value ≡ value
    stays true o none = ap (λ (p : Option Value). unwrap_or p value) (none refl)
    stays false o none = refl

    split : (b : Bool) → (b ≡ true → server_named ks n ≡ None) → (b ≡ false → cond k.flag (unwrap_or (sorted_news k id) value) value ≡ value)
        → option_map_or (λ (x : ServerParts S). cond x.flag (unwrap_or (sorted_news x id) (cond k.flag (unwrap_or (sorted_news k id) value) value)) (cond k.flag (unwrap_or (sorted_news k id) value) value)) (server_named ks n) (cond k.flag (unwrap_or (sorted_news k id) value) value)
        ≡ option_map_or (λ (x : ServerParts S). cond x.flag (unwrap_or (sorted_news x id) value) value) (cond b (Some k) (server_named ks n)) value
    split true none same =
        ap (λ (o : Option (ServerParts S)). option_map_or (λ (x : ServerParts S). cond x.flag (unwrap_or (sorted_news x id) (cond k.flag (unwrap_or (sorted_news k id) value) value)) (cond k.flag (unwrap_or (sorted_news k id) value) value)) o (cond k.flag (unwrap_or (sorted_news k id) value) value)) (none refl)
    split false none same =
        ap (λ (v : Value). option_map_or (λ (x : ServerParts S). cond x.flag (unwrap_or (sorted_news x id) v) v) (server_named ks n) v) (same refl)

-- the value of a connected topic after a pull, by its server
pub value-after_at : {S : Type 0} (state : S → ServerState) (ks : List (ServerParts S)) (table : TableState) (round : ℕ) (run : Bool) (id : ℕ) (t : ConnectedTopic) (k : ServerParts S)
    → IsLinked state ks table round run → All (IsPreparedServer state) ks → topic_at table.topics id ≡ Some t → server_named ks t.topic.server ≡ Some k
    → value_after ks id t.value ≡ cond k.flag (unwrap_or (sorted_news k id) t.value) t.value
value-after_at {S} state ks table round run id t k linked prepared at found =
    after-at t.topic.server id ks linked.once (all-apart state ks table round run id t linked at prepared) t.value
    ∙ ap (λ (o : Option (ServerParts S)). option_map_or (λ (x : ServerParts S). cond x.flag (unwrap_or (sorted_news x id) t.value) t.value) o t.value) found

-- the taken topics with their values after a pull
pub taken-pulled : {S : Type 0} (state : S → ServerState) (p : RtdParts S) → Rises p.table.topics → IsLinked state p.servers p.table p.round p.is_running → IsPrepared state p
    → map with_value (topics_after p.servers p.table.topics) ≡ map (λ (t : ConnectedTopic). (t.topic, value_pulled (rtd_of state p) (with_value t))) p.table.topics
taken-pulled {S} state p rises linked prepared =
    ap (map with_value) (each-after p.servers p.table.topics)
    ∙ map-twice p.table.topics
    ∙ map-each (λ (t : ConnectedTopic). (t.topic, value_after p.servers t.id t.value)) (λ (t : ConnectedTopic). (t.topic, value_pulled (rtd_of state p) (with_value t))) p.table.topics
    (λ j d below. same (get_or p.table.topics j d) (all-at p.table.topics rises j d below) (server_named p.servers (get_or p.table.topics j d).topic.server) refl)
  where
    map-twice : (ts : List ConnectedTopic) → map with_value (map (topic_after p.servers) ts) ≡ map (λ (t : ConnectedTopic). (t.topic, value_after p.servers t.id t.value)) ts
    map-twice [] = refl
    map-twice (t ∷ ts) = ap (λ es. (t.topic, value_after p.servers t.id t.value) ∷ es) (map-twice ts)

    same : (t : ConnectedTopic) → topic_at p.table.topics t.id ≡ Some t → (o : Option (ServerParts S)) → server_named p.servers t.topic.server ≡ o
        → ◌≡◌ {A = Topic × Value} (t.topic, value_after p.servers t.id t.value) (t.topic, value_pulled (rtd_of state p) (with_value t))
    same t at None found = absurd (cc (sym (linked.served t.id t at) ∙ ap is_some found))
    same t at (Some k) found =
        ap (λ (v : Value). (t.topic, v)) (value-after_at state p.servers p.table p.round p.is_running t.id t k linked prepared at found ∙ sym (pulled-at state p t.id t k linked prepared at found))

-- the topic of an id after a pull
topic-after_at : {S : Type 0} (ks : List (ServerParts S)) (topics : List ConnectedTopic) (id : ℕ) → topic_at (map (topic_after ks) topics) id ≡ option_map (topic_after ks) (topic_at topics id)
topic-after_at ks [] id = refl
topic-after_at ks (t ∷ ts) id = step (nat_eq id t.id) (topic-after_at ks ts id)
  where
    step : (b : Bool) → topic_at (map (topic_after ks) ts) id ≡ option_map (topic_after ks) (topic_at ts id)
        → cond b (Some (topic_after ks t)) (topic_at (map (topic_after ks) ts) id) ≡ option_map (topic_after ks) (cond b (Some t) (topic_at ts id))
    step true rest = refl
    step false rest = rest

-- a topic that is under an id after a pull was there
was-there : {S : Type 0} (ks : List (ServerParts S)) (topics topics' : List ConnectedTopic) (id : ℕ) (t' : ConnectedTopic) → topics' ≡ topics_after ks topics → topic_at topics' id ≡ Some t'
    → (t : ConnectedTopic) × ((topic_at topics id ≡ Some t) × (topic_after ks t ≡ t'))
was-there ks topics topics' id t' is at' =
    by (topic_at topics id) refl (sym (ap (λ ts. topic_at ts id) (is ∙ each-after ks topics) ∙ topic-after_at ks topics id) ∙ at')
  where
    one : (x y : ConnectedTopic) → Some x ≡ Some y → x ≡ y
    one x y e = cc e

    by : (o : Option ConnectedTopic) → topic_at topics id ≡ o → option_map (topic_after ks) o ≡ Some t' → (t : ConnectedTopic) × ((topic_at topics id ≡ Some t) × (topic_after ks t ≡ t'))
    by None at e = absurd (cc e)
    by (Some t) at e = (t, (at, one (topic_after ks t) t' e))

-- the strings with which ids are connected stay
strings-after : {S : Type 0} (ks : List (ServerParts S)) (topics topics' : List ConnectedTopic) (name : List ℕ) (id : ℕ) → topics' ≡ topics_after ks topics → strings_for topics' name id ≡ strings_for topics name id
strings-after ks topics topics' name id is =
    ap (option_and_then (λ (t : ConnectedTopic). cond (bytes_eq name t.topic.server) (Some t.topic.strings) None)) (ap (λ ts. topic_at ts id) (is ∙ each-after ks topics) ∙ topic-after_at ks topics id)
    ∙ by (topic_at topics id)
  where
    by : (o : Option ConnectedTopic) → option_and_then (λ (t : ConnectedTopic). cond (bytes_eq name t.topic.server) (Some t.topic.strings) None) (option_map (topic_after ks) o)
        ≡ option_and_then (λ (t : ConnectedTopic). cond (bytes_eq name t.topic.server) (Some t.topic.strings) None) o
    by None = refl
    by (Some t) = refl

-- what a pull took it doesn't take again
pending-pulled : {S : Type 0} (state : S → ServerState) (k k' : ServerParts S) → TakesServer k k' → IsPreparedServer state k → (id : ℕ)
    → (view_of state k').pending id ≡ cond k.flag None ((view_of state k).pending id)
pending-pulled {S} state k k' takes prepared id = by k.flag refl
  where
    by : (b : Bool) → k.flag ≡ b → (view_of state k').pending id ≡ cond b None ((view_of state k).pending id)
    by true on =
        let gathered : IsGathered state k = prepared on in
        (λ i. cond (list_any (nat_eq id) ((ap (λ (s : S). (state s).due) takes.2 ∙ gathered.0) i)) (Some (news_of (state (takes.2 i)) id)) (lookup (nat_eq id) ((takes.3 ∙ gathered.1) i ++ takes.4 on i)))
    by false off = λ i. cond (list_any (nat_eq id) (state (takes.2 i)).due) (Some (news_of (state (takes.2 i)) id)) (lookup (nat_eq id) (takes.3 i ++ takes.5 off i))

-- a topic stays current over a pull
current-pulled : {S : Type 0} (state : S → ServerState) (k k' : ServerParts S) (id : ℕ) (strings : Strings) (value : Value) → TakesServer k k' → IsPreparedServer state k
    → IsCurrent (view_of state k) id strings value → IsCurrent (view_of state k') id strings (cond k.flag (unwrap_or (sorted_news k id) value) value)
current-pulled {S} state k k' id strings value takes prepared current =
    ap (λ (s : S). unwrap_or ((state s).published strings) (cond k.flag (unwrap_or (sorted_news k id) value) value)) takes.2
    ∙ by k.flag (λ on. current ∙ ap (λ (o : Option Value). unwrap_or o value) (pending-gathered state k (prepared on) id))
    ∙ ap (λ (o : Option Value). unwrap_or o (cond k.flag (unwrap_or (sorted_news k id) value) value)) (sym (pending-pulled state k k' takes prepared id))
  where
    twice : (o : Option Value) → unwrap_or o (unwrap_or o value) ≡ unwrap_or o value
    twice None = refl
    twice (Some v) = refl

    by : (b : Bool) → (b ≡ true → unwrap_or ((view_of state k).published strings) value ≡ unwrap_or (sorted_news k id) value)
        → unwrap_or ((view_of state k).published strings) (cond b (unwrap_or (sorted_news k id) value) value)
        ≡ unwrap_or (cond b None ((view_of state k).pending id)) (cond b (unwrap_or (sorted_news k id) value) value)
    by true same = ap (unwrap_or ((view_of state k).published strings)) (sym (same refl)) ∙ twice ((view_of state k).published strings) ∙ same refl
    by false same = current

-- the servers and the table stay linked over a pull
pub linked-pulled : {S : Type 0} (state : S → ServerState) (ks ks' : List (ServerParts S)) (table table' : TableState) (round : ℕ)
    → AllZip TakesServer ks ks' → table'.topics ≡ topics_after ks table.topics → KeepsReadings table table' → All (IsPreparedServer state) ks
    → IsLinked state ks table round false → IsLinked state ks' table' round false
linked-pulled {S} state ks ks' table table' round takes topics others prepared linked =
    let R : List ℕ → ServerParts S → ServerParts S → Type 0 = λ m k k'. TakesServer k k' in
    let follows = follows-zip TakesServer R (λ k k' r. r.0) (λ m k k' r. r) ks ks' takes in
    record {
      once = once-kept (names_of ks) (names_of ks') follows.names linked.once;
      connected = λ name k' e' id.
          let old = both-new (R name) (server_named ks name) (server_named ks' name) k' (follows.each name) e' in
          ap (λ (s : S). (state s).connected id) old.1.1.2 ∙ linked.connected name old.0 old.1.0 id ∙ sym (strings-after ks table.topics table'.topics name id topics);
      served = λ id t' at'.
          let t = was-there ks table.topics table'.topics id t' topics at' in
          both-found (R t'.topic.server) (server_named ks t'.topic.server) (server_named ks' t'.topic.server) (follows.each t'.topic.server)
          ∙ ap (λ (x : ConnectedTopic). is_some (server_named ks x.topic.server)) (sym t.1.1) ∙ linked.served id t.0 t.1.0;
      current = λ id t' k' at' e'.
          let t = was-there ks table.topics table'.topics id t' topics at' in
          let old = both-new (R t'.topic.server) (server_named ks t'.topic.server) (server_named ks' t'.topic.server) k' (follows.each t'.topic.server) e' in
          let found : server_named ks t.0.topic.server ≡ Some old.0 = ap (λ (x : ConnectedTopic). server_named ks x.topic.server) t.1.1 ∙ old.1.0 in
          let here : t.0.id ≡ id = id-found table.topics id t.0 t.1.0 in
          let value : value_after ks t.0.id t.0.value ≡ cond old.0.flag (unwrap_or (sorted_news old.0 id) t.0.value) t.0.value =
          ap (λ n. value_after ks n t.0.value) here ∙ value-after_at state ks table round false id t.0 old.0 linked prepared t.1.0 found in
          subst (λ (x : ConnectedTopic). IsCurrent (view_of state k') id x.topic.strings x.value) t.1.1
          (subst (λ (v : Value). IsCurrent (view_of state k') id t.0.topic.strings v) (sym value)
          (current-pulled state old.0 k' id t.0.topic.strings t.0.value old.1.1 (all-found (IsPreparedServer state) (has_name t'.topic.server) ks old.0 prepared old.1.0)
          (linked.current id t.0 old.0 t.1.0 found)));
      rounds = All-same (λ (t : ConnectedTopic). t.round ≤ round) table'.topics (map (topic_after ks) table.topics) (topics ∙ each-after ks table.topics)
          (All-map (λ (t : ConnectedTopic). t.round ≤ round) (topic_after ks) table.topics linked.rounds);
      unread = λ id t cell at of. absurd (cc of);
      opened = λ id t at of. absurd (cc of);
      pended = λ name k' id e' some.
          let old = both-new (R name) (server_named ks name) (server_named ks' name) k' (follows.each name) e' in
          ap (λ (s : S). is_some ((state s).connected id)) old.1.1.2
          ∙ linked.pended name old.0 id old.1.0
          (pends old.0.flag ((view_of state old.0).pending id) (ap is_some (sym (pending-pulled state old.0 k' old.1.1 (all-found (IsPreparedServer state) (has_name name) ks old.0 prepared old.1.0) id)) ∙ some));
      rest = λ off id cell. running-readings table table' others.readings id cell ∙ linked.rest off id cell ∙ sym (kept-readings table table' others.readings id cell);
    }
  where
    pends : (b : Bool) (o : Option Value) → is_some (cond b None o) ≡ true → is_some o ≡ true
    pends true o h = absurd (cc h)
    pends false o h = h

-- the flags of all are down after a pull
pub known-pulled : {S : Type 0} (ks ks' : List (ServerParts S)) → AllZip TakesServer ks ks' → map known_of ks' ≡ pulled_servers (map known_of ks) []
known-pulled [] [] takes = refl
known-pulled [] (k' ∷ ks') takes = absurd takes
known-pulled (k ∷ ks) [] takes = absurd takes
known-pulled {S} (k ∷ ks) (k' ∷ ks') takes =
    let rest = known-pulled ks ks' takes.1 in
    let flag : k'.flag ≡ (k.flag && false) = takes.0.1 ∙ sym (never k.flag) in
    λ i. record { name = takes.0.0 i; flag = flag i } ∷ rest i
  where
    never : (b : Bool) → (b && false) ≡ false
    never true = refl
    never false = refl

-- what is published stays over a pull
pub published-pulled : {S : Type 0} (state : S → ServerState) (ks ks' : List (ServerParts S)) → AllZip TakesServer ks ks' → (topic : Topic) → published_of state ks' topic ≡ published_of state ks topic
published-pulled {S} state ks ks' takes =
    let R : List ℕ → ServerParts S → ServerParts S → Type 0 = λ m k k'. TakesServer k k' in
    published-kept state R ks ks' (follows-zip TakesServer R (λ k k' r. r.0) (λ m k k' r. r) ks ks' takes) (λ m k k' r s. ap (λ (x : S). (state x).published s) r.2)

-- the taken topics after a pull
pub taken-after : {S : Type 0} (state : S → ServerState) (p : RtdParts S) (topics' : List ConnectedTopic) → Rises p.table.topics → IsLinked state p.servers p.table p.round p.is_running → IsPrepared state p
    → p.is_running ≡ false → topics' ≡ topics_after p.servers p.table.topics
    → map with_value (filter (λ (t : ConnectedTopic). not (is_of_round p.is_running p.round t)) topics') ≡ with_value_pulled (rtd_of state p) (rtd_of state p).taken
taken-after {S} state p topics' rises linked prepared rests is =
    ap (map with_value) (taken-all p.is_running p.round topics' (none-at_rest p.is_running p.round topics' rests) ∙ is)
    ∙ taken-pulled state p rises linked prepared
    ∙ each p.table.topics
    ∙ ap (λ ts. with_value_pulled (rtd_of state p) (map with_value ts)) (sym (taken-all p.is_running p.round p.table.topics (none-at_rest p.is_running p.round p.table.topics rests)))
  where
    each : (ts : List ConnectedTopic) → map (λ (t : ConnectedTopic). (t.topic, value_pulled (rtd_of state p) (with_value t))) ts ≡ with_value_pulled (rtd_of state p) (map with_value ts)
    each [] = refl
    each (t ∷ ts) = ap (λ es. (t.topic, value_pulled (rtd_of state p) (with_value t)) ∷ es) (each ts)

-- the id of a topic stays over a pull
id-after : {S : Type 0} (ks : List (ServerParts S)) (topics : List ConnectedTopic) (topic : Topic) → id_of (map (topic_after ks) topics) topic ≡ id_of topics topic
id-after ks [] topic = refl
id-after ks (t ∷ ts) topic = step (same_topic topic t.topic) (id-after ks ts topic)
  where
    step : (b : Bool) → id_of (map (topic_after ks) ts) topic ≡ id_of ts topic
        → option_map (λ (y : ConnectedTopic). y.id) (cond b (Some (topic_after ks t)) (find (λ (y : ConnectedTopic). same_topic topic y.topic) (map (topic_after ks) ts)))
        ≡ option_map (λ (y : ConnectedTopic). y.id) (cond b (Some t) (find (λ (y : ConnectedTopic). same_topic topic y.topic) ts))
    step true rest = refl
    step false rest = rest

-- what each topic has stays over a pull
pub has-pulled : {S : Type 0} (has has' : ℕ → Cell → Bool) (ks : List (ServerParts S)) (topics topics' : List ConnectedTopic) → topics' ≡ topics_after ks topics → ((q : ℕ) (cell : Cell) → has' q cell ≡ has q cell)
    → (topic : Topic) (cell : Cell) → topic_has has' topics' topic cell ≡ topic_has has topics topic cell
has-pulled has has' ks topics topics' is same topic cell =
    ap (λ (o : Option ℕ). option_map_or (λ (id : ℕ). has' id cell) o false) (ap (λ ts. id_of ts topic) (is ∙ each-after ks topics) ∙ id-after ks topics topic)
    ∙ ap (λ (f : ℕ → Bool). option_map_or f (id_of topics topic) false) (λ i id. same id cell i)
