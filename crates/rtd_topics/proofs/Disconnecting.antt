-- An id is taken out at a server.
use Rattle.std.proofs.Common.{◌≡◌, ◌<◌, ℕ, zero, suc, Bool, true, false, cond, ◌||◌, List, [], ◌∷◌, arith, length, None, Some, get_or, set, refl, ap, sym, subst, ◌∙◌}
use Rattle.std.specs.Prelude.{is_some, map, position}
use Rattle.std.specs.List.{IsDistinct, list_any}
use Rattle.std.proofs.lemmas.List.Quantifiers.{position-Some}
use Rattle.std.specs.Bool.{MatchBool}
use Rattle.std.specs.Str.{bytes_eq}
use Rattle.known_servers.specs.Server.{IsCurrent, SameName, SameView, ServerParts, ViewConnects, ViewDisconnects, ViewPublishes, has_name, view_of}
use Rattle.cell_values.specs.declared.values.Value.{Value}
use Rattle.rtd_server.specs.Server.{ServerState}
use Rattle.rtd_server.specs.Strings.{Strings}
use Rattle.rtd_topics.specs.Parts.{ConnectsAt, ConnectsServer, DisconnectsAt, DisconnectsServer, FlagsAt, KeepsAt, KeepsServer, PublishesAt, PublishesServer, ShowsSame, known_of, names_of, server_named}
use Rattle.workbook.specs.Step.{servers_with_flag}
use Rattle.rtd_topics.proofs.ServerLists.{distinct-parts, follows-none, follows-set, equal_names, find-first, found-named, itself, known-item, none-named}
use Rattle.rtd_topics.proofs.Views.{keeps-itself}

-- where the test is true, the first
pub matched-true : (b : Bool) (V W : Type 0) → b ≡ true → V → MatchBool b V W
matched-true true V W h v = v
matched-true false V W h v = absurd (cc h)

-- where it is false, the second
pub matched-false : (b : Bool) (V W : Type 0) → b ≡ false → W → MatchBool b V W
matched-false true V W h w = absurd (cc h)
matched-false false V W h w = w

-- a server of another name stays
other-stays : {S : Type 0} (state : S → ServerState) (n : List ℕ) (id : ℕ) (m : List ℕ) (k : ServerParts S) → bytes_eq n m ≡ false → DisconnectsServer state n id m k k
other-stays state n id m k other =
    let stays = keeps-itself state k in
    (stays.0, matched-false (bytes_eq n m) (ViewDisconnects (view_of state k) (view_of state k) id) (SameView (view_of state k) (view_of state k)) other stays.1)

-- an id is taken out at the place of a name
pub disconnects-item : {S : Type 0} (state : S → ServerState) (ks : List (ServerParts S)) (n : List ℕ) (i : ℕ) (d k' : ServerParts S) (id : ℕ)
    → position (has_name n) ks ≡ Some i → SameName (get_or ks i d) k' → ViewDisconnects (view_of state (get_or ks i d)) (view_of state k') id
    → DisconnectsAt state ks (set ks i k') n id
disconnects-item state ks n i d k' id at name out = record {
  known = known-item ks i d k' name;
  each = follows-set (DisconnectsServer state n id) ks n i k' d at name.0
      (name, matched-true (bytes_eq n n) (ViewDisconnects (view_of state (get_or ks i d)) (view_of state k') id) (SameView (view_of state (get_or ks i d)) (view_of state k')) (itself n) out)
      (other-stays state n id);
}

-- no server has the name
pub disconnects-none : {S : Type 0} (state : S → ServerState) (ks : List (ServerParts S)) (n : List ℕ) (id : ℕ)
    → position (has_name n) ks ≡ None → DisconnectsAt state ks ks n id
disconnects-none state ks n id none = record {
  known = refl;
  each = follows-none (DisconnectsServer state n id) ks n none (other-stays state n id);
}

-- a value is published at the place of a name
pub publishes-item : {S : Type 0} (state : S → ServerState) (ks : List (ServerParts S)) (n : List ℕ) (i : ℕ) (d k' : ServerParts S) (strings : Strings) (value : Value)
    → position (has_name n) ks ≡ Some i → SameName (get_or ks i d) k' → ViewPublishes (view_of state (get_or ks i d)) (view_of state k') strings value
    → PublishesAt state ks (set ks i k') n strings value
publishes-item state ks n i d k' strings value at name out = record {
  known = known-item ks i d k' name;
  each = follows-set (PublishesServer state n strings value) ks n i k' d at name.0
      (name, matched-true (bytes_eq n n) (ViewPublishes (view_of state (get_or ks i d)) (view_of state k') strings value) (SameView (view_of state (get_or ks i d)) (view_of state k')) (itself n) out)
      (λ m k other. ((keeps-itself state k).0, matched-false (bytes_eq n m) (ViewPublishes (view_of state k) (view_of state k) strings value) (SameView (view_of state k) (view_of state k)) other (keeps-itself state k).1));
}

-- an id is connected at the place of a name
pub connects-item : {S : Type 0} (state : S → ServerState) (ks : List (ServerParts S)) (n : List ℕ) (i : ℕ) (d k' : ServerParts S) (id : ℕ) (strings : Strings) (value : Value)
    → position (has_name n) ks ≡ Some i → SameName (get_or ks i d) k' → ViewConnects (view_of state (get_or ks i d)) (view_of state k') id strings → IsCurrent (view_of state k') id strings value
    → ConnectsAt state ks (set ks i k') n id strings value
connects-item state ks n i d k' id strings value at name out current = record {
  known = known-item ks i d k' name;
  each = follows-set (ConnectsServer state n id strings value) ks n i k' d at name.0
      (name, matched-true (bytes_eq n n) (ViewConnects (view_of state (get_or ks i d)) (view_of state k') id strings × IsCurrent (view_of state k') id strings value) (SameView (view_of state (get_or ks i d)) (view_of state k')) (itself n) (out, current))
      (λ m k other. ((keeps-itself state k).0, matched-false (bytes_eq n m) (ViewConnects (view_of state k) (view_of state k) id strings × IsCurrent (view_of state k) id strings value) (SameView (view_of state k) (view_of state k)) other (keeps-itself state k).1));
}

-- nothing that shows is changed at a place
pub keeps-item : {S : Type 0} (state : S → ServerState) (ks : List (ServerParts S)) (n : List ℕ) (i : ℕ) (d k' : ServerParts S)
    → position (has_name n) ks ≡ Some i → SameName (get_or ks i d) k' → SameView (view_of state (get_or ks i d)) (view_of state k')
    → KeepsAt state ks (set ks i k')
keeps-item {S} state ks n i d k' at name same = record {
  known = known-item ks i d k' name;
  each = follows-set (λ at'. KeepsServer state) ks n i k' d at name.0 (name, same) (λ m k other. keeps-itself state k);
}

-- no flag is raised where none has the name
flag-none : {S : Type 0} (ks : List (ServerParts S)) (n : List ℕ) → list_any (bytes_eq n) (names_of ks) ≡ false → map known_of ks ≡ servers_with_flag (map known_of ks) n
flag-none [] n none = refl
flag-none (k ∷ ks) n none =
    let parts = or_parts (bytes_eq n k.name) (list_any (bytes_eq n) (names_of ks)) none in
    λ i. cond-is (bytes_eq n k.name) (record (known_of k) { flag = true }) (known_of k) parts.0 i ∷ flag-none ks n parts.1 i
  where
    or_parts : (a b : Bool) → (a || b) ≡ false → (a ≡ false) × (b ≡ false)
    or_parts true b h = absurd (cc h)
    or_parts false b h = (refl, h)

    cond-is : {X : Type 0} (b : Bool) (x y : X) → b ≡ false → y ≡ cond b x y
    cond-is true x y h = absurd (cc h)
    cond-is false x y h = refl

-- the first of a name has its flag raised
flag-set : {S : Type 0} (ks : List (ServerParts S)) (n : List ℕ) (i : ℕ) (d k' : ServerParts S) → i < length ks → has_name n (get_or ks i d) ≡ true
    → ((j : ℕ) → j < i → has_name n (get_or ks j d) ≡ false) → IsDistinct bytes_eq (names_of ks) → k' ≡ record (get_or ks i d) { flag = true }
    → map known_of (set ks i k') ≡ servers_with_flag (map known_of ks) n
flag-set [] n i d k' below passes before once is = absurd (omega arith)
flag-set {S} (k ∷ ks) n zero d k' below passes before once is =
    let none : list_any (bytes_eq n) (names_of ks) ≡ false = ap (λ m. list_any (bytes_eq m) (names_of ks)) (equal_names n k.name passes) ∙ (distinct-parts bytes_eq k.name (names_of ks) once).0 in
    λ i. (ap (known_of {S = S}) is ∙ cond-true (bytes_eq n k.name) (record (known_of k) { flag = true }) (known_of k) passes) i ∷ flag-none ks n none i
  where
    cond-true : {X : Type 0} (b : Bool) (x y : X) → b ≡ true → x ≡ cond b x y
    cond-true true x y h = refl
    cond-true false x y h = absurd (cc h)
flag-set {S} (k ∷ ks) n (suc i) d k' below passes before once is =
    let rest = flag-set ks n i d k' (omega arith) passes (λ j h. before (suc j) (omega arith)) (distinct-parts bytes_eq k.name (names_of ks) once).1 is in
    λ t. cond-false (bytes_eq n k.name) (record (known_of k) { flag = true }) (known_of k) (before 0 (omega arith)) t ∷ rest t
  where
    cond-false : {X : Type 0} (b : Bool) (x y : X) → b ≡ false → y ≡ cond b x y
    cond-false true x y h = absurd (cc h)
    cond-false false x y h = refl

-- the flag of the server at the place of a name is raised
pub flags-item : {S : Type 0} (state : S → ServerState) (ks : List (ServerParts S)) (n : List ℕ) (i : ℕ) (d k' : ServerParts S)
    → position (has_name n) ks ≡ Some i → k' ≡ record (get_or ks i d) { flag = true } → FlagsAt state ks (set ks i k') n
flags-item {S} state ks n i d k' at is =
    let found = position-Some (has_name n) ks i d at in
    record {
      flags = λ once. flag-set ks n i d k' found.0 found.1 found.2 once is;
      each = follows-set (λ at'. ShowsSame state) ks n i k' d at (ap (λ (k : ServerParts S). k.name) is)
          (subst (λ (k : ServerParts S). ShowsSame state (get_or ks i d) k) (sym is) (refl, ((λ s. refl, λ s. refl), λ id. refl, λ id. refl)))
          (λ m k other. (refl, ((λ s. refl, λ s. refl), λ id. refl, λ id. refl)));
    }

-- no server has the name
pub flags-none : {S : Type 0} (state : S → ServerState) (ks : List (ServerParts S)) (n : List ℕ) → position (has_name n) ks ≡ None → FlagsAt state ks ks n
flags-none {S} state ks n none = record {
  flags = λ once. flag-none ks n (sym (found-named ks n) ∙ ap is_some (none-named ks n none));
  each = follows-none (λ at'. ShowsSame state) ks n none (λ m k other. (refl, ((λ s. refl, λ s. refl), λ id. refl, λ id. refl)));
}

-- the server at the place of a name is the one of the name
pub placed : {S : Type 0} (ks : List (ServerParts S)) (n : List ℕ) (i : ℕ) (d : ServerParts S) → position (has_name n) ks ≡ Some i → server_named ks n ≡ Some (get_or ks i d)
placed ks n i d at =
    let found = position-Some (has_name n) ks i d at in
    find-first (has_name n) ks i d found.0 found.1 found.2
