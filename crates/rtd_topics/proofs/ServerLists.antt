-- Lists of servers: one is changed, each is changed, one comes.
use Rattle.std.proofs.Common.{◌≡◌, ℕ, zero, suc, ◌+◌, ◌<◌, Bool, true, false, cond, ◌||◌, List, [], ◌∷◌, ◌++◌, Option, None, Some, length, get_or, set, refl, ap, sym, subst, ◌∙◌, arith, rules}
use Rattle.std.specs.Prelude.{◌≢◌, ◌≤◌, ◌⊎◌, All, drop, find, is_some, map, position}
use Rattle.std.specs.List.{AllByRecursion, AllZip, IsDistinct, list_any, position_from}
use Rattle.std.specs.Option.{option_and_then}
use Rattle.std.specs.Str.{bytes_eq}
use Rattle.std.proofs.lemmas.List.{drop_all, take_all}
use Rattle.std.proofs.Common.{append-nil, take, inl, inr, get_or-set_same, get_or-set_other}
use Rattle.std.proofs.lemmas.Bool.{cases_order}
use Rattle.std.proofs.lemmas.List.Elements.{All-from_get_or, All-nil}
use Rattle.std.proofs.lemmas.List.Folds.{find_past}
use Rattle.std.proofs.lemmas.Iterator.Adapters.{position_from-zero}
use Rattle.std.proofs.lemmas.List.Quantifiers.{position-Some}
use Rattle.std.proofs.lemmas.Slice.Eq.{bytes_eq-Decides}
use Rattle.known_servers.specs.Server.{SameName, ServerParts, has_name}
use Rattle.workbook.specs.State.{KnownServer}
use Rattle.rtd_topics.specs.Parts.{Both, Follows, known_of, names_of, server_named}

-- none passes where each fails
none-any : {X : Type 0} (p : X → Bool) (xs : List X) → AllByRecursion (λ x. p x ≡ false) xs → list_any p xs ≡ false
none-any p [] all = refl
none-any p (x ∷ xs) all = ap (λ b. b || list_any p xs) all.0 ∙ none-any p xs all.1

-- the first of distinct ones isn't among the others, and these are distinct
pub distinct-parts : {X : Type 0} (eq : X → X → Bool) (x : X) (xs : List X) → IsDistinct eq (x ∷ xs) → (list_any (eq x) xs ≡ false) × IsDistinct eq xs
unfolding IsDistinct
distinct-parts eq x xs once = (none-any (eq x) xs once.0, once.1)

-- equal bytes are equal
pub equal_names : (a b : List ℕ) → bytes_eq a b ≡ true → a ≡ b
equal_names a b h = (bytes_eq-Decides a b).0 h

-- a name is equal to itself
pub itself : (a : List ℕ) → bytes_eq a a ≡ true
itself a = (bytes_eq-Decides a a).1 refl

-- what was found with what is found now
pub both-new : {P : Type 0} (R : P → P → Type 0) (o o' : Option P) (k' : P) → Both R o o' → o' ≡ Some k' → (k : P) × ((o ≡ Some k) × R k k')
both-new R None None k' b e = absurd (cc e)
both-new R None (Some x) k' b e = absurd b
both-new R (Some k) None k' b e = absurd b
both-new {P} R (Some k) (Some x) k' b e = (k, (refl, subst (λ (y : P). R k y) (one_found x k' e) b))
  where
    one_found : (x y : P) → Some x ≡ Some y → x ≡ y
    one_found x y e = cc e

-- one is found where the other is
pub both-found : {P : Type 0} (R : P → P → Type 0) (o o' : Option P) → Both R o o' → is_some o' ≡ is_some o
both-found R None None b = refl
both-found R None (Some x) b = absurd b
both-found R (Some k) None b = absurd b
both-found R (Some k) (Some x) b = refl

-- what follows from both is the same, where it is the same of one and the other
pub both-then : {P X : Type 0} (f : P → Option X) (R : P → P → Type 0) (o o' : Option P) → ((k k' : P) → R k k' → f k' ≡ f k) → Both R o o'
    → option_and_then f o' ≡ option_and_then f o
both-then f R None None same b = refl
both-then f R None (Some x) same b = absurd b
both-then f R (Some k) None same b = absurd b
both-then f R (Some k) (Some x) same b = same k x b

-- each is related to itself
pub both-same : {P : Type 0} (R : P → P → Type 0) → ((k : P) → R k k) → (o : Option P) → Both R o o
both-same R same None = tt
both-same R same (Some k) = same k

-- what each gives stays where one is written that gives the same
pub map-set_same : {P X : Type 0} (f : P → X) (ks : List P) (i : ℕ) (k' d : P) → f k' ≡ f (get_or ks i d) → map f (set ks i k') ≡ map f ks
map-set_same f [] i k' d same = refl
map-set_same f (k ∷ ks) zero k' d same = ap (λ x. x ∷ map f ks) same
map-set_same f (k ∷ ks) (suc i) k' d same = ap (λ xs. f k ∷ xs) (map-set_same f ks i k' d same)

-- one that is written at the place of the first that passes is found
pub find-written : {P : Type 0} (p : P → Bool) (ks : List P) (i : ℕ) (k' d : P) → i < length ks → p k' ≡ true → ((j : ℕ) → j < i → p (get_or ks j d) ≡ false) → find p (set ks i k') ≡ Some k'
find-written p [] i k' d below passes before = absurd (omega arith)
find-written p (k ∷ ks) zero k' d below passes before = ap (λ b. cond b (Some k') (find p ks)) passes
find-written p (k ∷ ks) (suc i) k' d below passes before =
    ap (λ b. cond b (Some k) (find p (set ks i k'))) (before 0 (omega arith))
    ∙ find-written p ks i k' d (omega arith) passes (λ j h. before (suc j) (omega arith))

-- the first that passes is found
pub find-first : {P : Type 0} (p : P → Bool) (ks : List P) (i : ℕ) (d : P) → i < length ks → p (get_or ks i d) ≡ true → ((j : ℕ) → j < i → p (get_or ks j d) ≡ false) → find p ks ≡ Some (get_or ks i d)
find-first p [] i d below passes before = absurd (omega arith)
find-first p (k ∷ ks) zero d below passes before = ap (λ b. cond b (Some k) (find p ks)) passes
find-first p (k ∷ ks) (suc i) d below passes before =
    ap (λ b. cond b (Some k) (find p ks)) (before 0 (omega arith))
    ∙ find-first p ks i d (omega arith) passes (λ j h. before (suc j) (omega arith))

-- the servers at each name, after one was written at its place
set-each : {S : Type 0} (R : List ℕ → ServerParts S → ServerParts S → Type 0) (ks : List (ServerParts S)) (n : List ℕ) (i : ℕ) (k' d : ServerParts S)
    → position (has_name n) ks ≡ Some i → k'.name ≡ n → R n (get_or ks i d) k' → ((m : List ℕ) (k : ServerParts S) → bytes_eq n m ≡ false → R m k k)
    → (m : List ℕ) (b : Bool) → bytes_eq n m ≡ b → Both (R m) (server_named ks m) (server_named (set ks i k') m)
set-each {S} R ks n i k' d at name related same m true here =
    let found = position-Some (has_name n) ks i d at in
    let old : server_named ks n ≡ Some (get_or ks i d) = find-first (has_name n) ks i d found.0 found.1 found.2 in
    let new : server_named (set ks i k') n ≡ Some k' = find-written (has_name n) ks i k' d found.0 (ap (bytes_eq n) name ∙ itself n) found.2 in
    let P : List ℕ → Type 0 = λ q. Both (R q) (server_named ks q) (server_named (set ks i k') q) in
    subst P (equal_names n m here) (both-at (R n) (get_or ks i d) k' (server_named ks n) (server_named (set ks i k') n) old new related)
  where
    both-at : {P : Type 0} (R : P → P → Type 0) (k k' : P) (o o' : Option P) → o ≡ Some k → o' ≡ Some k' → R k k' → Both R o o'
    both-at {P} R k k' o o' e e' r = subst (λ (x : Option P). Both R x o') (sym e) (subst (λ (x : Option P). Both R (Some k) x) (sym e') r)
set-each {S} R ks n i k' d at name related same m false other =
    let found = position-Some (has_name n) ks i d at in
    let named : (get_or ks i d).name ≡ n = sym (equal_names n (get_or ks i d).name found.1) in
    let apart : bytes_eq m n ≡ false = turned n m other in
    let stays : server_named (set ks i k') m ≡ server_named ks m = find_past (has_name m) ks i k' d (ap (bytes_eq m) named ∙ apart) (ap (bytes_eq m) name ∙ apart) in
    subst (λ (x : Option (ServerParts S)). Both (R m) (server_named ks m) x) (sym stays) (both-same (R m) (λ k. same m k other) (server_named ks m))
  where
    turned : (a b : List ℕ) → bytes_eq a b ≡ false → bytes_eq b a ≡ false
    turned a b h = search (rules)

-- one server is written at its place
pub follows-set : {S : Type 0} (R : List ℕ → ServerParts S → ServerParts S → Type 0) (ks : List (ServerParts S)) (n : List ℕ) (i : ℕ) (k' d : ServerParts S)
    → position (has_name n) ks ≡ Some i → k'.name ≡ (get_or ks i d).name → R n (get_or ks i d) k' → ((m : List ℕ) (k : ServerParts S) → bytes_eq n m ≡ false → R m k k)
    → Follows R ks (set ks i k')
follows-set {S} R ks n i k' d at name related same =
    let found = position-Some (has_name n) ks i d at in
    record {
      names = map-set_same (λ (k : ServerParts S). k.name) ks i k' d name;
      each = λ m. set-each R ks n i k' d at (name ∙ sym (equal_names n (get_or ks i d).name found.1)) related same m (bytes_eq n m) refl;
    }

-- two that have one name are found alike
step-each : {S : Type 0} (R : ServerParts S → ServerParts S → Type 0) (b b' : Bool) (k k' : ServerParts S) (o o' : Option (ServerParts S))
    → b' ≡ b → R k k' → Both R o o' → Both R (cond b (Some k) o) (cond b' (Some k') o')
step-each R true true k k' o o' e r both = r
step-each R true false k k' o o' e r both = absurd (cc e)
step-each R false true k k' o o' e r both = absurd (cc e)
step-each R false false k k' o o' e r both = both

-- each server is related to the one in its place
pub follows-zip : {S : Type 0} (Z : ServerParts S → ServerParts S → Type 0) (R : List ℕ → ServerParts S → ServerParts S → Type 0)
    → ((k k' : ServerParts S) → Z k k' → k'.name ≡ k.name) → ((m : List ℕ) (k k' : ServerParts S) → Z k k' → R m k k')
    → (ks ks' : List (ServerParts S)) → AllZip Z ks ks' → Follows R ks ks'
follows-zip Z R name relates [] [] zip = record { names = refl; each = λ m. tt }
follows-zip Z R name relates [] (k' ∷ ks') zip = absurd zip
follows-zip Z R name relates (k ∷ ks) [] zip = absurd zip
follows-zip Z R name relates (k ∷ ks) (k' ∷ ks') zip =
    let rest = follows-zip Z R name relates ks ks' zip.1 in
    record {
      names = λ i. name k k' zip.0 i ∷ rest.names i;
      each = λ m. step-each (R m) (bytes_eq m k.name) (bytes_eq m k'.name) k k' (server_named ks m) (server_named ks' m) (ap (bytes_eq m) (name k k' zip.0)) (relates m k k' zip.0) (rest.each m);
    }

-- a server is found exactly where its name is among the names
pub found-named : {S : Type 0} (ks : List (ServerParts S)) (m : List ℕ) → is_some (server_named ks m) ≡ list_any (bytes_eq m) (names_of ks)
found-named [] m = refl
found-named (k ∷ ks) m = found_step (bytes_eq m k.name) k (server_named ks m) (list_any (bytes_eq m) (names_of ks)) (found-named ks m)
  where
    found_step : {P : Type 0} (b : Bool) (k : P) (o : Option P) (c : Bool) → is_some o ≡ c → is_some (cond b (Some k) o) ≡ (b || c)
    found_step true k o c h = refl
    found_step false k o c h = h

-- lists that are related in each place
pub zip-from_each : {P : Type 0} (Z : P → P → Type 0) (ks ks' : List P) → length ks' ≡ length ks → ((j : ℕ) (d : P) → j < length ks → Z (get_or ks j d) (get_or ks' j d)) → AllZip Z ks ks'
zip-from_each Z [] [] long each = tt
zip-from_each Z [] (k' ∷ ks') long each = absurd (omega (arith, long))
zip-from_each Z (k ∷ ks) [] long each = absurd (omega (arith, long))
zip-from_each Z (k ∷ ks) (k' ∷ ks') long each =
    (each 0 k (omega arith), zip-from_each Z ks ks' (omega (arith, long)) (λ j d below. each (suc j) d (omega arith)))

-- an element of a list doesn't depend on what stands for one past its end
pub get-any : {P : Type 0} (ls : List P) (i : ℕ) (d e : P) → i < length ls → get_or ls i d ≡ get_or ls i e
get-any [] i d e below = absurd (omega arith)
get-any (k ∷ ls) zero d e below = refl
get-any (k ∷ ls) (suc i) d e below = get-any ls i d e (omega arith)

-- an element that was written, and those that weren't
pub at-written : {P : Type 0} (ls : List P) (i j : ℕ) (k' d : P) → i < length ls → j ≡ i → get_or (set ls i k') j d ≡ k'
at-written {P} ls i j k' d below here = let Q : ℕ → Type 0 = λ n. get_or (set ls i k') n d ≡ k' in subst Q (sym here) (get_or-set_same ls i k' d below)

-- those below a place and at it
below-or_at : (i j : ℕ) → j < i + 1 → (j < i) ⊎ (j ≡ i)
below-or_at i j below = elim (cases_order j i) [ inl e ↦ inr e | inr o ↦ elim o [ inl l ↦ inl l | inr g ↦ absurd (omega arith) ] ]

-- one more element is done
pub each-more : {P : Type 0} (Z : P → P → Type 0) (fs ls : List P) (i : ℕ) (x k' : P) → i < length ls → length ls ≡ length fs → x ≡ get_or ls i x
    → ((j : ℕ) (d : P) → j < i → Z (get_or fs j d) (get_or ls j d)) → ((j : ℕ) (d : P) → i ≤ j → get_or ls j d ≡ get_or fs j d) → Z x k'
    → (j : ℕ) (d : P) → j < i + 1 → Z (get_or fs j d) (get_or (set ls i k') j d)
each-more {P} Z fs ls i x k' below long item done rest related j d at = elim (below-or_at i j at) [
  | inl before ↦ let ne : j ≢ i = omega arith in subst (λ (y : P). Z (get_or fs j d) y) (sym (get_or-set_other ls i j k' d ne)) (done j d before)
  | inr here ↦
      let same : x ≡ get_or fs j d = item ∙ get-any ls i x d below ∙ rest i d (omega arith) ∙ ap (λ n. get_or fs n d) (sym here) in
      subst (λ (y : P). Z (get_or fs j d) y) (sym (at-written ls i j k' d below here)) (subst (λ (y : P). Z y k') same related)
]

-- the elements behind stay
pub each-rest : {P : Type 0} (fs ls : List P) (i : ℕ) (k' : P) → ((j : ℕ) (d : P) → i ≤ j → get_or ls j d ≡ get_or fs j d)
    → (j : ℕ) (d : P) → i + 1 ≤ j → get_or (set ls i k') j d ≡ get_or fs j d
each-rest fs ls i k' rest j d at = let ne : j ≢ i = omega arith in get_or-set_other ls i j k' d ne ∙ rest j d (omega arith)

-- each element stays related, where one is written that is related to what stood there
pub each-kept : {P : Type 0} (Z : P → P → Type 0) (fs ls : List P) (i : ℕ) (x k' : P) → i < length ls → x ≡ get_or ls i x → ((a b c : P) → Z a b → Z b c → Z a c)
    → ((j : ℕ) (d : P) → Z (get_or fs j d) (get_or ls j d)) → Z x k' → (j : ℕ) (d : P) → Z (get_or fs j d) (get_or (set ls i k') j d)
each-kept {P} Z fs ls i x k' below item trans kept related j d = elim (cases_order j i) [
  | inl here ↦
      let same : x ≡ get_or ls j d = item ∙ get-any ls i x d below ∙ ap (λ n. get_or ls n d) (sym here) in
      subst (λ (y : P). Z (get_or fs j d) y) (sym (at-written ls i j k' d below here)) (trans (get_or fs j d) (get_or ls j d) k' (kept j d) (subst (λ (y : P). Z y k') same related))
  | inr apart ↦
      let ne : j ≢ i = elim apart [ inl l ↦ (λ e. absurd (omega arith)) | inr g ↦ (λ e. absurd (omega arith)) ] in
      subst (λ (y : P). Z (get_or fs j d) y) (sym (get_or-set_other ls i j k' d ne)) (kept j d)
]

-- a fact of each element below, and of the one that is written
pub all-more : {P : Type 0} (Q : P → Type 0) (ls : List P) (i : ℕ) (k' : P) → i < length ls
    → ((j : ℕ) (d : P) → j < i → Q (get_or ls j d)) → Q k' → (j : ℕ) (d : P) → j < i + 1 → Q (get_or (set ls i k') j d)
all-more {P} Q ls i k' below done new j d at = elim (below-or_at i j at) [
  | inl before ↦ let ne : j ≢ i = omega arith in subst Q (sym (get_or-set_other ls i j k' d ne)) (done j d before)
  | inr here ↦ subst Q (sym (at-written ls i j k' d below here)) new
]

-- what holds of each element
pub all-from_each : {P : Type 0} (Q : P → Type 0) (ls : List P) → ((j : ℕ) (d : P) → j < length ls → Q (get_or ls j d)) → All Q ls
all-from_each {P} Q [] each = All-nil Q
all-from_each {P} Q (k ∷ ls) each = All-from_get_or Q (k ∷ ls) k (λ j below. each j k below)

-- the names and the flags stay where one is written that has the same
pub known-item : {S : Type 0} (ks : List (ServerParts S)) (i : ℕ) (d k' : ServerParts S) → SameName (get_or ks i d) k' → map known_of (set ks i k') ≡ map known_of ks
known-item {S} ks i d k' same = map-set_same (known_of {S = S}) ks i k' d (λ t. record { name = same.0 t; flag = same.1 t })

-- none is found where there is no place
none_step : {P : Type 0} (b : Bool) (x : P) (i : ℕ) (o : Option P) (p : Option ℕ) → (p ≡ None → o ≡ None) → cond b (Some i) p ≡ None → cond b (Some x) o ≡ None
none_step true x i o p h e = absurd (cc e)
none_step false x i o p h e = h e

none-from : {P : Type 0} (test : P → Bool) (i : ℕ) (ks : List P) → position_from test i ks ≡ None → find test ks ≡ None
none-from test i [] h = refl
none-from test i (k ∷ ks) h = none_step (test k) k i (find test ks) (position_from test (i + 1) ks) (none-from test (i + 1) ks) h

-- no server has a name that has no place
pub none-named : {S : Type 0} (ks : List (ServerParts S)) (n : List ℕ) → position (has_name n) ks ≡ None → server_named ks n ≡ None
none-named ks n h = none-from (has_name n) 0 ks (sym (position_from-zero (has_name n) ks) ∙ h)

-- nothing is written where there is no place
pub follows-none : {S : Type 0} (R : List ℕ → ServerParts S → ServerParts S → Type 0) (ks : List (ServerParts S)) (n : List ℕ)
    → position (has_name n) ks ≡ None → ((m : List ℕ) (k : ServerParts S) → bytes_eq n m ≡ false → R m k k) → Follows R ks ks
follows-none {S} R ks n none same = record { names = refl; each = λ m. none-each m (bytes_eq n m) refl }
  where
    none-each : (m : List ℕ) (b : Bool) → bytes_eq n m ≡ b → Both (R m) (server_named ks m) (server_named ks m)
    none-each m true here =
        subst (λ (o : Option (ServerParts S)). Both (R m) o o) (sym (ap (server_named ks) (sym (equal_names n m here)) ∙ none-named ks n none)) tt
    none-each m false other = both-same (R m) (λ k. same m k other) (server_named ks m)

-- a list that was written as a whole
pub whole : {P : Type 0} (n : ℕ) (xs ys : List P) → n ≡ length xs → length ys ≡ length xs → take n (ys ++ drop (length ys) xs) ≡ ys
whole n xs ys e f =
    ap (λ zs. take n (ys ++ zs)) (drop_all (length ys) xs (omega arith)) ∙ ap (take n) (append-nil ys) ∙ take_all n ys (omega arith)

-- what follows from both is the same, by two functions
pub both-then_other : {P X : Type 0} (f g : P → Option X) (R : P → P → Type 0) (o o' : Option P) → ((k k' : P) → R k k' → g k' ≡ f k) → Both R o o'
    → option_and_then g o' ≡ option_and_then f o
both-then_other f g R None None same b = refl
both-then_other f g R None (Some x) same b = absurd b
both-then_other f g R (Some k) None same b = absurd b
both-then_other f g R (Some k) (Some x) same b = same k x b

-- the names and the flags stay
pub known-zip : {S : Type 0} (Z : ServerParts S → ServerParts S → Type 0) → ((k k' : ServerParts S) → Z k k' → SameName k k') → (ks ks' : List (ServerParts S)) → AllZip Z ks ks' → map known_of ks' ≡ map known_of ks
known-zip Z same [] [] zip = refl
known-zip Z same [] (k' ∷ ks') zip = absurd zip
known-zip Z same (k ∷ ks) [] zip = absurd zip
known-zip Z same (k ∷ ks) (k' ∷ ks') zip =
    let rest = known-zip Z same ks ks' zip.1 in
    let here = same k k' zip.0 in
    λ i. record { name = here.0 i; flag = here.1 i } ∷ rest i

-- one step of a search for a place
placed_step : (b : Bool) (i : ℕ) (o : Option ℕ) (c : Bool) → is_some o ≡ c → is_some (cond b (Some i) o) ≡ (b || c)
placed_step true i o c h = refl
placed_step false i o c h = h

placed-from : {S : Type 0} (m : List ℕ) (i : ℕ) (xs : List (ServerParts S)) → is_some (position_from (has_name m) i xs) ≡ list_any (bytes_eq m) (names_of xs)
placed-from m i [] = refl
placed-from m i (k ∷ xs) = placed_step (bytes_eq m k.name) i (position_from (has_name m) (i + 1) xs) (list_any (bytes_eq m) (names_of xs)) (placed-from m (i + 1) xs)

-- a server is placed exactly where its name is among the names
pub placed-named : {S : Type 0} (ks : List (ServerParts S)) (m : List ℕ) → is_some (position (has_name m) ks) ≡ list_any (bytes_eq m) (names_of ks)
placed-named {S} ks m = ap is_some (position_from-zero (has_name m) ks) ∙ placed-from m 0 ks

-- the names of servers, and of what is told of them
pub names-known : {S : Type 0} (ks : List (ServerParts S)) → map (λ (s : KnownServer). s.name) (map known_of ks) ≡ names_of ks
names-known [] = refl
names-known (k ∷ ks) = ap (λ ns. k.name ∷ ns) (names-known ks)

-- a server of a name is flagged or not, as it is told
pub any-known : {S : Type 0} (ks : List (ServerParts S)) → list_any (λ (s : KnownServer). s.flag) (map known_of ks) ≡ list_any (λ (k : ServerParts S). k.flag) ks
any-known [] = refl
any-known (k ∷ ks) = ap (λ b. k.flag || b) (any-known ks)

-- a name is among those that are told where it has a place
pub known-placed : {S : Type 0} (ks : List (ServerParts S)) (m : List ℕ) (r : Option ℕ) → r ≡ position (has_name m) ks
    → is_some r ≡ list_any (bytes_eq m) (map (λ (s : KnownServer). s.name) (map known_of ks))
known-placed ks m r at = ap is_some at ∙ placed-named ks m ∙ ap (list_any (bytes_eq m)) (sym (names-known ks))
