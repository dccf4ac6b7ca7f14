-- The table of topics: a topic and its id.
use Rattle.std.proofs.Common.{◌≡◌, ℕ, suc, ◌<◌, ◌≤◌, Bool, true, false, cond, List, [], ◌∷◌, Option, None, Some, length, refl, ap, sym, subst, ◌∙◌, arith, rules}
use Rattle.std.specs.Prelude.{All, filter, find, nat_eq, not}
use Rattle.std.specs.Option.{option_and_then}
use Rattle.std.proofs.lemmas.Bool.{eqb-true}
use Rattle.std.proofs.lemmas.List.Elements.{All-head, All-tail}
use Rattle.rtd_topics.proofs.ServerLists.{itself}
use Rattle.rtd_topics.specs.Parts.{strings_for}
use Rattle.std.specs.Str.{bytes_eq}
use Rattle.topic_table.specs.Table.{ConnectedTopic, topic_at, topics_without}

pub turned : (a b : ℕ) → nat_eq a b ≡ nat_eq b a
turned a b = search (rules)

one_found : {P : Type 0} (a b : P) → Some a ≡ Some b → a ≡ b
one_found a b h = cc h

-- one step of a search for what passes
found_step : {P : Type 0} (Q : P → Type 0) (b : Bool) (y x : P) (o : Option P) → (b ≡ true → Q y) → (o ≡ Some x → Q x) → cond b (Some y) o ≡ Some x → Q x
found_step Q true y x o here rest e = subst Q (one_found y x e) (here refl)
found_step Q false y x o here rest e = rest e

-- what was found passes the test
pub found-passes : {P : Type 0} (p : P → Bool) (xs : List P) (x : P) → find p xs ≡ Some x → p x ≡ true
found-passes {P} p [] x e = absurd (cc e)
found-passes {P} p (y ∷ ys) x e = found_step (λ (z : P). p z ≡ true) (p y) y x (find p ys) (λ h. h) (found-passes p ys x) e

-- what is found is as all are
pub all-found : {P : Type 0} (Q : P → Type 0) (p : P → Bool) (xs : List P) (x : P) → All Q xs → find p xs ≡ Some x → Q x
all-found {P} Q p [] x all e = absurd (cc e)
all-found {P} Q p (y ∷ ys) x all e = found_step Q (p y) y x (find p ys) (λ h. All-head Q y ys all) (all-found Q p ys x (All-tail Q y ys all)) e

-- all are kept where all pass
pub filter-all : {P : Type 0} (p : P → Bool) (xs : List P) → All (λ x. p x ≡ true) xs → filter p xs ≡ xs
filter-all p [] all = refl
filter-all p (x ∷ xs) all = ap (λ b. cond b (x ∷ filter p xs) (filter p xs)) (All-head (λ y. p y ≡ true) x xs all) ∙ ap (λ ys. x ∷ ys) (filter-all p xs (All-tail (λ y. p y ≡ true) x xs all))

-- the id of what is found under an id
pub id-found : (topics : List ConnectedTopic) (id : ℕ) (t : ConnectedTopic) → topic_at topics id ≡ Some t → t.id ≡ id
id-found topics id t at = sym (eqb-true id t.id (found-passes (λ (x : ConnectedTopic). nat_eq id x.id) topics t at))

-- the strings with which a topic is connected at its server
pub strings-at : (topics : List ConnectedTopic) (id : ℕ) (t : ConnectedTopic) → topic_at topics id ≡ Some t → strings_for topics t.topic.server id ≡ Some t.topic.strings
strings-at topics id t at =
    ap (option_and_then (λ (x : ConnectedTopic). cond (bytes_eq t.topic.server x.topic.server) (Some x.topic.strings) None)) at
    ∙ ap (λ b. cond b (Some t.topic.strings) None) (itself t.topic.server)

-- the topic of an id, after one was taken out
pub without-at : (topics : List ConnectedTopic) (id q : ℕ) → topic_at (topics_without topics id) q ≡ cond (nat_eq id q) None (topic_at topics q)
without-at [] id q = none (nat_eq id q)
  where
    none : (b : Bool) → None ≡ cond {A = Option ConnectedTopic} b None None
    none true = refl
    none false = refl
without-at (t ∷ ts) id q =
    first (nat_eq id t.id) t (topics_without ts id)
    ∙ one (nat_eq id t.id) (nat_eq q t.id) (nat_eq id q) t (topic_at (topics_without ts id) q) (topic_at ts q)
    (λ out. ap (nat_eq q) (sym (eqb-true id t.id out)) ∙ turned q id)
    (λ stays here. ap (nat_eq id) (eqb-true q t.id here) ∙ stays)
    (without-at ts id q)
  where
    first : (b : Bool) (t : ConnectedTopic) (ts : List ConnectedTopic) → topic_at (cond (not b) (t ∷ ts) ts) q ≡ cond (not b) (cond (nat_eq q t.id) (Some t) (topic_at ts q)) (topic_at ts q)
    first true t ts = refl
    first false t ts = refl

    one : (p a d : Bool) (t : ConnectedTopic) (kept all : Option ConnectedTopic) → (p ≡ true → a ≡ d) → (p ≡ false → a ≡ true → d ≡ false) → kept ≡ cond d None all
        → cond (not p) (cond a (Some t) kept) kept ≡ cond d None (cond a (Some t) all)
    one true true true t kept all same other h = h
    one true true false t kept all same other h = absurd (cc (same refl))
    one true false true t kept all same other h = h
    one true false false t kept all same other h = h
    one false true true t kept all same other h = absurd (cc (other refl refl))
    one false true false t kept all same other h = refl
    one false false d t kept all same other h = h

-- a topic that is found after one was taken out is another, and was there
pub without-found : (topics : List ConnectedTopic) (id q : ℕ) (t : ConnectedTopic) → topic_at (topics_without topics id) q ≡ Some t
    → (nat_eq id q ≡ false) × (topic_at topics q ≡ Some t)
without-found topics id q t at = split (nat_eq id q) refl
  where
    split : (b : Bool) → nat_eq id q ≡ b → (nat_eq id q ≡ false) × (topic_at topics q ≡ Some t)
    split true here = absurd (cc (sym (ap (λ b. cond {A = Option ConnectedTopic} b None (topic_at topics q)) here) ∙ sym (without-at topics id q) ∙ at))
    split false other = (other, sym (ap (λ b. cond {A = Option ConnectedTopic} b None (topic_at topics q)) other) ∙ sym (without-at topics id q) ∙ at)

-- no more topics
without-at_most : (topics : List ConnectedTopic) (id : ℕ) → length (topics_without topics id) ≤ length topics
without-at_most [] id = omega arith
without-at_most (y ∷ ys) id = at_most_step (nat_eq id y.id) y (topics_without ys id) (length ys) (without-at_most ys id)
  where
    at_most_step : (b : Bool) (y : ConnectedTopic) (ts : List ConnectedTopic) (n : ℕ) → length ts ≤ n → length (cond (not b) (y ∷ ts) ts) ≤ suc n
    at_most_step true y ts n h = omega arith
    at_most_step false y ts n h = omega arith

-- one step of taking one out
shorter_step : (b : Bool) (y t : ConnectedTopic) (ts : List ConnectedTopic) (n : ℕ) (o : Option ConnectedTopic) → length ts ≤ n → (o ≡ Some t → length ts < n) → cond b (Some y) o ≡ Some t
    → length (cond (not b) (y ∷ ts) ts) < suc n
shorter_step true y t ts n o at_most less e = omega arith
shorter_step false y t ts n o at_most less e = let h : length ts < n = less e in omega arith

-- one topic less
pub without-shorter : (topics : List ConnectedTopic) (id : ℕ) (t : ConnectedTopic) → topic_at topics id ≡ Some t → length (topics_without topics id) < length topics
without-shorter [] id t at = absurd (cc at)
without-shorter (x ∷ xs) id t at =
    shorter_step (nat_eq id x.id) x t (topics_without xs id) (length xs) (topic_at xs id) (without-at_most xs id) (without-shorter xs id t) at
