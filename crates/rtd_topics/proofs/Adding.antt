-- A server comes.
use Rattle.std.proofs.Common.{◌≡◌, ℕ, Bool, true, false, cond, List, [], ◌∷◌, ◌++◌, ◌⊎◌, inl, inr, Option, None, Some, refl, ap, sym, subst, ◌∙◌}
use Rattle.std.specs.Prelude.{is_some, unwrap_or}
use Rattle.std.specs.List.{IsDistinct, list_any}
use Rattle.std.specs.Option.{option_and_then, option_or}
use Rattle.std.specs.Str.{bytes_eq}
use Rattle.std.proofs.lemmas.Cmp.{nat_list_eq_equiv}
use Rattle.std.proofs.lemmas.List.Folds.{find-append}
use Rattle.std.proofs.lemmas.Map.Keys.{IsDistinct-push}
use Rattle.cell_values.specs.declared.errors.ErrorKind.TheVariants as errors
use Rattle.cell_values.specs.declared.topics.Topic.{Topic}
use Rattle.cell_values.specs.declared.values.Value.{Value}
use Rattle.cell_values.specs.declared.values.Value.TheVariants as values
use Rattle.known_servers.specs.Server.{IsNewView, ServerParts, has_name, view_of}
use Rattle.rtd_server.specs.Server.{ServerState}
use Rattle.rtd_topics.specs.Parts.{IsLinked, names_of, opening_of, published_of, server_named, strings_for}
use Rattle.rtd_topics.specs.RtdState.{SameOpening}
use Rattle.rtd_topics.proofs.ServerLists.{equal_names}
use Rattle.topic_table.specs.Table.{ConnectedTopic, TableState, topic_at}

-- a server of a name, after one came
added-at : {S : Type 0} (ks : List (ServerParts S)) (k : ServerParts S) (m : List ℕ) → server_named (ks ++ k ∷ []) m ≡ option_or (server_named ks m) (cond (bytes_eq m k.name) (Some k) None)
added-at ks k m = find-append (has_name m) ks (k ∷ [])

-- it was there, or it is the new one
pub added-cases : {P : Type 0} (o : Option P) (b : Bool) (k k' : P) → option_or o (cond b (Some k) None) ≡ Some k' → (o ≡ Some k') ⊎ ((o ≡ None) × ((b ≡ true) × (k ≡ k')))
added-cases None true k k' e = inr (refl, (refl, one k k' e))
  where
    one : {P : Type 0} (x y : P) → Some x ≡ Some y → x ≡ y
    one x y h = cc h
added-cases None false k k' e = absurd (cc e)
added-cases (Some x) b k k' e = inl e

-- which of them it is
added-which : {S : Type 0} (ks : List (ServerParts S)) (k k' : ServerParts S) (m : List ℕ) → server_named (ks ++ k ∷ []) m ≡ Some k'
    → (server_named ks m ≡ Some k') ⊎ ((server_named ks m ≡ None) × ((bytes_eq m k.name ≡ true) × (k ≡ k')))
added-which ks k k' m e = added-cases (server_named ks m) (bytes_eq m k.name) k k' (sym (added-at ks k m) ∙ e)

-- what was there stays
pub added-found : {P : Type 0} (o p : Option P) → is_some o ≡ true → option_or o p ≡ o
added-found None p h = absurd (cc h)
added-found (Some x) p h = refl

-- no topic is connected at a name that no server has
unserved : {S : Type 0} (ks : List (ServerParts S)) (topics : List ConnectedTopic) (name : List ℕ) (id : ℕ) → server_named ks name ≡ None
    → ((t : ConnectedTopic) → topic_at topics id ≡ Some t → is_some (server_named ks t.topic.server) ≡ true) → strings_for topics name id ≡ None
unserved {S} ks topics name id none served = at (topic_at topics id) refl
  where
    named : (t : ConnectedTopic) → is_some (server_named ks t.topic.server) ≡ true → (b : Bool) → bytes_eq name t.topic.server ≡ b → cond b (Some t.topic.strings) None ≡ None
    named t found true here = absurd (cc (sym found ∙ ap (λ m. is_some (server_named ks m)) (sym (equal_names name t.topic.server here)) ∙ ap is_some none))
    named t found false other = refl

    at : (o : Option ConnectedTopic) → topic_at topics id ≡ o → option_and_then (λ (t : ConnectedTopic). cond (bytes_eq name t.topic.server) (Some t.topic.strings) None) o ≡ None
    at None is = refl
    at (Some t) is = named t (served t is) (bytes_eq name t.topic.server) refl

-- what follows from a new server is nothing, so it is what was before
added-then : {P X : Type 0} (f : P → Option X) (o : Option P) (b : Bool) (k : P) → f k ≡ None → option_and_then f (option_or o (cond b (Some k) None)) ≡ option_and_then f o
added-then f None true k none = none
added-then f None false k none = refl
added-then f (Some x) b k none = refl

-- what is published stays where a server comes
pub published-added : {S : Type 0} (state : S → ServerState) (ks : List (ServerParts S)) (k : ServerParts S) → IsNewView (view_of state k) → (topic : Topic)
    → published_of state (ks ++ k ∷ []) topic ≡ published_of state ks topic
published-added {S} state ks k new topic =
    ap (option_and_then (λ (x : ServerParts S). (view_of state x).published topic.strings)) (added-at ks k topic.server)
    ∙ added-then (λ (x : ServerParts S). (view_of state x).published topic.strings) (server_named ks topic.server) (bytes_eq topic.server k.name) k (new.0 topic.strings)

-- what was published at the opening stays where a server comes
pub opening-added : {S : Type 0} (state : S → ServerState) (ks : List (ServerParts S)) (k : ServerParts S) → IsNewView (view_of state k) → (topic : Topic)
    → opening_of state (ks ++ k ∷ []) topic ≡ opening_of state ks topic
opening-added {S} state ks k new topic =
    ap (option_and_then (λ (x : ServerParts S). (view_of state x).opening topic.strings)) (added-at ks k topic.server)
    ∙ added-then (λ (x : ServerParts S). (view_of state x).opening topic.strings) (server_named ks topic.server) (bytes_eq topic.server k.name) k (new.1 topic.strings)

-- it is so of each topic where a recalculation runs
pub same-opening_added : (run : Bool) (f g : Topic → Option Value) → ((topic : Topic) → g topic ≡ f topic) → SameOpening (cond run (Some f) None) (cond run (Some g) None)
same-opening_added true f g same = same
same-opening_added false f g same = tt

names-added : {S : Type 0} (ks : List (ServerParts S)) (k : ServerParts S) → names_of (ks ++ k ∷ []) ≡ names_of ks ++ k.name ∷ []
names-added [] k = refl
names-added (x ∷ ks) k = ap (λ ns. x.name ∷ ns) (names-added ks k)

-- the servers and the table stay linked where a server comes
pub linked-added : {S : Type 0} (state : S → ServerState) (ks : List (ServerParts S)) (k : ServerParts S) (table : TableState) (round : ℕ) (run : Bool)
    → IsNewView (view_of state k) → list_any (bytes_eq k.name) (names_of ks) ≡ false → IsLinked state ks table round run → IsLinked state (ks ++ k ∷ []) table round run
linked-added {S} state ks k table round run new unknown linked = record {
  once = subst (IsDistinct bytes_eq) (sym (names-added ks k)) (IsDistinct-push nat_list_eq_equiv (names_of ks) k.name linked.once unknown);
  connected = λ name k' e id. elim (added-which ks k k' name e) [
    | inl old ↦ linked.connected name k' old id
    | inr came ↦ ap (λ (x : ServerParts S). (view_of state x).connected id) (sym came.1.1) ∙ new.2 id ∙ sym (unserved ks table.topics name id came.0 (λ t at. linked.served id t at))
  ];
  served = λ id t at. ap is_some (added-at ks k t.topic.server ∙ added-found (server_named ks t.topic.server) (cond (bytes_eq t.topic.server k.name) (Some k) None) (linked.served id t at)) ∙ linked.served id t at;
  current = λ id t k' at e. elim (added-which ks k k' t.topic.server e) [
    | inl old ↦ linked.current id t k' at old
    | inr came ↦ absurd (cc (sym (linked.served id t at) ∙ ap is_some came.0))
  ];
  rounds = linked.rounds;
  unread = linked.unread;
  opened = λ id t at of. linked.opened id t at of ∙ ap (λ (o : Option Value). unwrap_or o (values.Error errors.Na)) (sym (opening-added state ks k new t.topic));
  pended = λ name k' id e some. elim (added-which ks k k' name e) [
    | inl old ↦ linked.pended name k' id old some
    | inr came ↦ absurd (cc (sym some ∙ ap (λ (x : ServerParts S). is_some ((view_of state x).pending id)) (sym came.1.1) ∙ ap is_some (new.3 id)))
  ];
  rest = linked.rest;
}
