-- A topic is read.
use Rattle.std.proofs.Common.{◌≡◌, ℕ, Bool, true, false, cond, ◌||◌, List, Option, None, Some, refl, ap, sym, ◌∙◌, rules}
use Rattle.std.specs.Prelude.{◌&&◌, find, is_some, map, nat_eq, not, unwrap_or}
use Rattle.std.proofs.lemmas.Bool.{eqb-true}
use Rattle.std.specs.List.{list_any}
use Rattle.std.specs.Option.{option_and_then, option_map_or}
use Rattle.std.specs.Str.{bytes_eq}
use Rattle.cell_refs.specs.declared.grid.Cell.{Cell}
use Rattle.cell_refs.specs.Cell.{same_cell}
use Rattle.cell_refs.proofs.PublicLaws.{same_cells}
use Rattle.cell_values.specs.declared.errors.ErrorKind.TheVariants as errors
use Rattle.cell_values.specs.declared.topics.Topic.{Topic}
use Rattle.cell_values.specs.declared.values.Value.{Value}
use Rattle.cell_values.specs.declared.values.Value.TheVariants as values
use Rattle.cell_values.specs.Topic.{same_topic}
use Rattle.cell_values.proofs.PublicLaws.{same_topics}
use Rattle.known_servers.specs.Server.{ServerParts}
use Rattle.rtd_server.specs.Server.{ServerState}
use Rattle.rtd_server.specs.Strings.{same_strings_is}
use Rattle.rtd_topics.specs.Parts.{IsLinked, RtdParts, is_of_round, known_of, opening_of, rtd_of, server_named, topic_has}
use Rattle.rtd_topics.specs.RtdState.{knows_topic, rtd_snapshot, source_of}
use Rattle.rtd_topics.proofs.ServerLists.{equal_names, found-named, names-known}
use Rattle.rtd_topics.proofs.TopicFacts.{Rises, StandOnce, and_first, at-self, found-equal, id-absent, id-there, value-absent, value-kept}
use Rattle.topic_table.specs.Table.{ConnectedTopic, id_of, topic_at}

and_second : (b c : Bool) → (b && c) ≡ true → c ≡ true
and_second true c h = h
and_second false c h = absurd (cc h)

-- topics that are the same are equal
pub equal_topics : (a b : Topic) → same_topic a b ≡ true → a ≡ b
equal_topics a b h =
    let server : a.server ≡ b.server = equal_names a.server b.server (and_first _ _ h) in
    let strings : a.strings ≡ b.strings = same_strings_is a.strings b.strings (and_second _ _ h) in
    λ i. record { server = server i; strings = strings i }

-- the value of a connected topic is the one that it has
snapshot_step : (of : Bool) (value : Value) (opening : Value) → (of ≡ true → value ≡ opening) → unwrap_or (cond (not of) (Some value) None) opening ≡ value
snapshot_step true value opening h = sym (h refl)
snapshot_step false value opening h = refl

pub snapshot-at : {S : Type 0} (state : S → ServerState) (p : RtdParts S) (topic : Topic) (t : ConnectedTopic) → StandOnce p.table.topics → Rises p.table.topics
    → IsLinked state p.servers p.table p.round p.is_running → find (λ (y : ConnectedTopic). same_topic topic y.topic) p.table.topics ≡ Some t
    → rtd_snapshot (rtd_of state p) topic ≡ t.value
snapshot-at {S} state p topic t once rises linked found =
    let na : Value = values.Error errors.Na in
    let opened : Value = unwrap_or (option_and_then (λ (o : Topic → Option Value). o topic) (cond p.is_running (Some (opening_of state p.servers)) None)) na in
    let same : t.topic ≡ topic = sym (equal_topics topic t.topic (found-equal topic p.table.topics t found)) in
    ap (λ (o : Option Value). unwrap_or o opened) (value-kept (λ (y : ConnectedTopic). not (is_of_round p.is_running p.round y)) topic p.table.topics t once found)
    ∙ snapshot_step (is_of_round p.is_running p.round t) t.value opened
    (λ of. linked.opened t.id t (at-self p.table.topics rises (λ (y : ConnectedTopic). same_topic topic y.topic) t found) of
    ∙ ap (λ (x : Topic). unwrap_or (opening_of state p.servers x) na) same
    ∙ ap (λ b. unwrap_or (option_and_then (λ (o : Topic → Option Value). o topic) (cond b (Some (opening_of state p.servers)) None)) na) (sym (and_first p.is_running (nat_eq p.round t.round) of)))

-- the value of a topic that isn't connected
pub snapshot-absent : {S : Type 0} (state : S → ServerState) (p : RtdParts S) (topic : Topic) → id_of p.table.topics topic ≡ None
    → rtd_snapshot (rtd_of state p) topic ≡ unwrap_or (option_and_then (λ (o : Topic → Option Value). o topic) (cond p.is_running (Some (opening_of state p.servers)) None)) (values.Error errors.Na)
snapshot-absent {S} state p topic absent =
    ap (λ (o : Option Value). unwrap_or o (unwrap_or (option_and_then (λ (f : Topic → Option Value). f topic) (cond p.is_running (Some (opening_of state p.servers)) None)) (values.Error errors.Na)))
    (value-absent (λ (y : ConnectedTopic). not (is_of_round p.is_running p.round y)) topic p.table.topics (id-absent p.table.topics topic absent))

-- two topics under one id are the same, and the same topic has one id
pub same-id : (topics : List ConnectedTopic) → Rises topics → (a b : Topic) (m n : ℕ) → id_of topics a ≡ Some m → id_of topics b ≡ Some n → nat_eq m n ≡ same_topic a b
same-id topics rises a b m n am bn = split (same_topic a b) refl
  where
    one : (x y : ℕ) → Some x ≡ Some y → x ≡ y
    one x y e = cc e

    equal : (x y : ℕ) → x ≡ y → nat_eq x y ≡ true
    equal x y e = search (rules)

    there : (x y : ConnectedTopic) → Some x ≡ Some y → x ≡ y
    there x y e = cc e

    split : (s : Bool) → same_topic a b ≡ s → nat_eq m n ≡ s
    split true same = equal m n (one m n (sym am ∙ ap (id_of topics) (equal_topics a b same) ∙ bn))
    split false other = apart (nat_eq m n) refl
      where
        apart : (c : Bool) → nat_eq m n ≡ c → c ≡ false
        apart false h = refl
        apart true h =
            let x = id-there topics a m am in
            let y = id-there topics b n bn in
            let m=n : m ≡ n = eqb-true m n h in
            let at-x : topic_at topics x.0.id ≡ Some x.0 = at-self topics rises (λ (z : ConnectedTopic). same_topic a z.topic) x.0 x.1.0 in
            let at-y : topic_at topics y.0.id ≡ Some y.0 = at-self topics rises (λ (z : ConnectedTopic). same_topic b z.topic) y.0 y.1.0 in
            let same : x.0 ≡ y.0 = there x.0 y.0 (sym at-x ∙ ap (topic_at topics) (x.1.1 ∙ m=n ∙ sym y.1.1) ∙ at-y) in
            let a-x : same_topic a x.0.topic ≡ true = found-equal a topics x.0 x.1.0 in
            let b-x : same_topic b x.0.topic ≡ true = ap (λ (z : ConnectedTopic). same_topic b z.topic) same ∙ found-equal b topics y.0 y.1.0 in
            absurd (cc (sym other ∙ same_topics.symm a b ∙ same_topics.congr b x.0.topic a b-x ∙ same_topics.symm x.0.topic a ∙ a-x))

-- a connected topic, by its id
pub there-at : (topics : List ConnectedTopic) → Rises topics → (topic : Topic) (id : ℕ) → id_of topics topic ≡ Some id
    → (t : ConnectedTopic) × ((find (λ (y : ConnectedTopic). same_topic topic y.topic) topics ≡ Some t) × (topic_at topics id ≡ Some t))
there-at topics rises topic id e =
    let x = id-there topics topic id e in
    (x.0, (x.1.0, ap (topic_at topics) (sym x.1.1) ∙ at-self topics rises (λ (z : ConnectedTopic). same_topic topic z.topic) x.0 x.1.0))

-- the same topics are under one id
pub same-found : (topics : List ConnectedTopic) (a b : Topic) → same_topic a b ≡ true → id_of topics b ≡ id_of topics a
same-found topics a b same = sym (ap (id_of topics) (equal_topics a b same))

-- a reader is noted for a connected topic
pub noted-at : (has has' : ℕ → Cell → Bool) (topics : List ConnectedTopic) → Rises topics → (topic : Topic) (id : ℕ) (reader : Cell) (served : Bool) → id_of topics topic ≡ Some id → served ≡ true
    → ((q : ℕ) (c : Cell) → has' q c ≡ ((nat_eq id q && same_cell c reader) || has q c))
    → (t : Topic) (cell : Cell) → topic_has has' topics t cell ≡ ((served && (same_topic topic t && same_cell reader cell)) || topic_has has topics t cell)
noted-at has has' topics rises topic id reader served at yes' puts t cell = split (id_of topics t) refl
  where
    none : (s b : Bool) → s ≡ false → false ≡ ((s && b) || false)
    none true b h = absurd (cc h)
    none false b h = refl

    differ : (s : Bool) → same_topic topic t ≡ s → id_of topics t ≡ None → s ≡ false
    differ true same absent = absurd (cc (sym absent ∙ same-found topics topic t same ∙ at))
    differ false other absent = refl

    split : (o : Option ℕ) → id_of topics t ≡ o
        → option_map_or (λ (q : ℕ). has' q cell) o false ≡ ((served && (same_topic topic t && same_cell reader cell)) || option_map_or (λ (q : ℕ). has q cell) o false)
    split None absent =
        none (same_topic topic t) (same_cell reader cell) (differ (same_topic topic t) refl absent)
        ∙ ap (λ b. (b && (same_topic topic t && same_cell reader cell)) || false) (sym yes')
    split (Some q) there =
        puts q cell
        ∙ ap (λ b. (b && same_cell cell reader) || has q cell) (same-id topics rises topic t id q at there)
        ∙ ap (λ b. (same_topic topic t && b) || has q cell) (same_cells.symm cell reader)
        ∙ ap (λ b. (b && (same_topic topic t && same_cell reader cell)) || has q cell) (sym yes')

-- nothing is noted for a topic that isn't served
pub noted-none : (served b has : Bool) → served ≡ false → has ≡ ((served && b) || has)
noted-none true b has h = absurd (cc h)
noted-none false b has h = refl

-- a topic's server is known where it is found
pub knows-found : {S : Type 0} (ks : List (ServerParts S)) (topic : Topic) → knows_topic (map known_of ks) topic ≡ is_some (server_named ks topic.server)
knows-found ks topic = ap (list_any (bytes_eq topic.server)) (names-known ks) ∙ sym (found-named ks topic.server)

-- a connected topic is served where a recalculation runs
pub served-at : {S : Type 0} (state : S → ServerState) (p : RtdParts S) (topic : Topic) (t : ConnectedTopic) → Rises p.table.topics
    → IsLinked state p.servers p.table p.round p.is_running → find (λ (y : ConnectedTopic). same_topic topic y.topic) p.table.topics ≡ Some t → p.is_running ≡ true
    → (source_of (rtd_of state p)).is_served topic ≡ true
served-at {S} state p topic t rises linked found running =
    let same : t.topic ≡ topic = sym (equal_topics topic t.topic (found-equal topic p.table.topics t found)) in
    let known : is_some (server_named p.servers topic.server) ≡ true =
    ap (λ (x : Topic). is_some (server_named p.servers x.server)) (sym same) ∙ linked.served t.id t (at-self p.table.topics rises (λ (y : ConnectedTopic). same_topic topic y.topic) t found) in
    ap (λ b. is_some (cond b (Some (opening_of state p.servers)) None) && knows_topic (map known_of p.servers) topic) running ∙ knows-found p.servers topic ∙ known
