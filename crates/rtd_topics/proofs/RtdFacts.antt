-- What a host keeps of real-time data, where its parts change.
use Rattle.std.proofs.Common.{◌≡◌, ℕ, ◌<◌, ◌≤◌, Bool, true, false, cond, ◌||◌, List, [], ◌∷◌, Option, None, Some, get_or, refl, ap, sym, subst, ◌∙◌, arith, rules}
use Rattle.std.specs.Prelude.{◌&&◌, All, filter, is_some, nat_eq, not}
use Rattle.std.specs.List.{AllZip, list_any}
use Rattle.std.specs.Option.{option_map_or}
use Rattle.std.proofs.lemmas.Bool.{eqb-true}
use Rattle.std.proofs.lemmas.List.Elements.{All-weaker}
use Rattle.cell_refs.specs.declared.grid.Cell.{Cell}
use Rattle.cell_values.specs.declared.topics.Topic.{Topic}
use Rattle.cell_values.specs.declared.values.Value.{Value}
use Rattle.known_servers.specs.Server.{ServerParts, view_of}
use Rattle.rtd_server.specs.Server.{IsNewServer, KeepsAll, ServerState}
use Rattle.rtd_topics.specs.RtdState.{RtdState, SameOpening, SameRtd}
use Rattle.rtd_topics.specs.Parts.{OpensServer, RtdParts, is_of_round, opening_of, published_of, rtd_of, server_named, topic_has}
use Rattle.rtd_topics.proofs.ServerLists.{both-then_other, follows-zip}
use Rattle.rtd_topics.proofs.TableFacts.{filter-all}
use Rattle.topic_table.specs.Table.{ConnectedTopic, id_of}

-- where nothing runs
pub none-runs : {X : Type 0} (b : Bool) (x : X) → cond b (Some x) None ≡ None → b ≡ false
none-runs true x h = absurd (cc h)
none-runs false x h = refl

-- where something runs
pub one-runs : {X : Type 0} (b : Bool) (x : X) → is_some (cond b (Some x) None) ≡ true → b ≡ true
one-runs true x h = refl
one-runs false x h = absurd (cc h)

-- what is published when a recalculation begins is what was published
pub opening-begun : {S : Type 0} (state : S → ServerState) (ks ks' : List (ServerParts S)) → AllZip (OpensServer state) ks ks' → (topic : Topic) → opening_of state ks' topic ≡ published_of state ks topic
opening-begun {S} state ks ks' opens topic =
    let R : List ℕ → ServerParts S → ServerParts S → Type 0 = λ m k k'. OpensServer state k k' in
    let follows = follows-zip (OpensServer state) R (λ k k' o. o.0.0) (λ m k k' o. o) ks ks' opens in
    both-then_other (λ (k : ServerParts S). (view_of state k).published topic.strings) (λ (k : ServerParts S). (view_of state k).opening topic.strings) (R topic.server)
    (server_named ks topic.server) (server_named ks' topic.server) (λ k k' o. o.1.1 topic.strings) (follows.each topic.server)

-- the topics that are taken, where none was connected in the recalculation
pub taken-all : (run : Bool) (round : ℕ) (topics : List ConnectedTopic) → All (λ (t : ConnectedTopic). is_of_round run round t ≡ false) topics
    → filter (λ (t : ConnectedTopic). not (is_of_round run round t)) topics ≡ topics
taken-all run round topics none =
    filter-all (λ (t : ConnectedTopic). not (is_of_round run round t)) topics
    (All-weaker (λ (t : ConnectedTopic). is_of_round run round t ≡ false) (λ (t : ConnectedTopic). not (is_of_round run round t) ≡ true) (λ t h. ap not h) topics none)

-- none was connected in a recalculation that begins
pub none-since : (round round' : ℕ) (topics : List ConnectedTopic) → round < round' → All (λ (t : ConnectedTopic). t.round ≤ round) topics
    → All (λ (t : ConnectedTopic). is_of_round true round' t ≡ false) topics
none-since round round' topics less within =
    All-weaker (λ (t : ConnectedTopic). t.round ≤ round) (λ (t : ConnectedTopic). is_of_round true round' t ≡ false) (λ t at. differ t.round (omega arith)) topics within
  where
    differ : (at : ℕ) → at < round' → nat_eq round' at ≡ false
    differ at below = split (nat_eq round' at) refl
      where
        split : (b : Bool) → nat_eq round' at ≡ b → b ≡ false
        split true h = absurd (let e : round' ≡ at = eqb-true round' at h in omega arith)
        split false h = refl

-- none where nothing runs
pub none-at_rest : (run : Bool) (round : ℕ) (topics : List ConnectedTopic) → run ≡ false → All (λ (t : ConnectedTopic). is_of_round run round t ≡ false) topics
none-at_rest run round topics rest = λ k d below. ap (λ b. b && nat_eq round (get_or topics k d).round) rest

-- what each topic has stays
pub has-kept : (has has' : ℕ → Cell → Bool) (topics topics' : List ConnectedTopic) → topics' ≡ topics → ((id : ℕ) (cell : Cell) → has' id cell ≡ has id cell)
    → (topic : Topic) (cell : Cell) → topic_has has' topics' topic cell ≡ topic_has has topics topic cell
has-kept has has' topics topics' is same topic cell =
    ap (λ ts. topic_has has' ts topic cell) is ∙ ap (λ (f : ℕ → Bool). option_map_or f (id_of topics topic) false) (λ i id. same id cell i)

-- what each topic has, but for some cells
pub has-but : (has has' : ℕ → Cell → Bool) (topics topics' : List ConnectedTopic) (gone : Cell → Bool) → topics' ≡ topics
    → ((id : ℕ) (cell : Cell) → has' id cell ≡ (has id cell && not (gone cell)))
    → (topic : Topic) (cell : Cell) → topic_has has' topics' topic cell ≡ (topic_has has topics topic cell && not (gone cell))
has-but has has' topics topics' gone is same topic cell = ap (λ ts. topic_has has' ts topic cell) is ∙ at (id_of topics topic)
  where
    at : (o : Option ℕ) → option_map_or (λ id. has' id cell) o false ≡ (option_map_or (λ id. has id cell) o false && not (gone cell))
    at None = refl
    at (Some id) = same id cell

-- the opening stays
pub same-opening : (o : Option (Topic → Option Value)) → SameOpening o o
same-opening None = tt
same-opening (Some f) = λ topic. refl

-- all stays as it is
pub same-itself : (s : RtdState) → SameRtd s s
same-itself s = record {
  servers = refl;
  published = λ topic. refl;
  throttle = refl;
  topics = record { taken = refl; opening = same-opening s.opening; read = record { readers = λ topic cell. refl; reading = λ topic cell. refl }; round = refl };
}

-- a server that was started holds what it held, nothing
pub started : (old new : ServerState) → KeepsAll old new → IsNewServer old → IsNewServer new
started old new kept fresh = (
  λ s. kept.0.0 s ∙ fresh.0 s,
  λ s. kept.0.1 s ∙ fresh.1 s,
  λ s. kept.0.2 s ∙ fresh.2 s,
  λ id. kept.1 id ∙ fresh.3 id,
  none_due new.due (λ id. kept.2 id ∙ ap (λ (ids : List ℕ). list_any (nat_eq id) ids) fresh.4),
)
  where
    none_due : (ids : List ℕ) → ((id : ℕ) → list_any (nat_eq id) ids ≡ false) → ids ≡ []
    none_due [] none = refl
    none_due (x ∷ ids) none = absurd (cc (sym (none x) ∙ ap (λ b. b || list_any (nat_eq x) ids) (same x)))
      where
        same : (x : ℕ) → nat_eq x x ≡ true
        same x = search (rules)

-- all stays where the parts do, whatever the room
pub same-parts : {S : Type 0} (state : S → ServerState) (p p' : RtdParts S) → p'.servers ≡ p.servers → p'.table ≡ p.table → p'.pacing ≡ p.pacing → p'.round ≡ p.round → p'.is_running ≡ p.is_running
    → SameRtd (rtd_of state p) (rtd_of state p')
same-parts {S} state p p' servers table pacing round running =
    let path : rtd_of state p' ≡ rtd_of state p = λ i. rtd_of state (record { servers = servers i; table = table i; pacing = pacing i; round = round i; is_running = running i; room = p.room }) in
    subst (λ (s : RtdState). SameRtd (rtd_of state p) s) (sym path) (same-itself (rtd_of state p))
