-- News are taken into the table.
use Rattle.std.proofs.Common.{◌≡◌, ℕ, Bool, true, false, cond, List, [], ◌∷◌, ◌++◌, Option, None, Some, refl, ap, sym, ◌∙◌, rules}
use Rattle.std.specs.Prelude.{nat_eq, unwrap_or}
use Rattle.std.specs.Map.{lookup}
use Rattle.cell_values.specs.declared.values.Value.{Value}
use Rattle.rtd_topics.specs.Parts.{topics_taken}
use Rattle.topic_table.specs.Table.{ConnectedTopic, topics_with_value}

-- a look-up where one more stands behind
lookup-last : (test : ℕ → Bool) (front : List (ℕ × Value)) (id : ℕ) (v w : Value) → unwrap_or (lookup test (front ++ (id, v) ∷ [])) w ≡ unwrap_or (lookup test front) (cond (test id) v w)
lookup-last test [] id v w = one (test id)
  where
    one : (b : Bool) → unwrap_or (cond b (Some v) None) w ≡ cond b v w
    one true = refl
    one false = refl
lookup-last test (e ∷ front) id v w = step (test e.0) e.1 (lookup test (front ++ (id, v) ∷ [])) (lookup test front) (lookup-last test front id v w)
  where
    step : (b : Bool) (x : Value) (o p : Option Value) → unwrap_or o w ≡ unwrap_or p (cond (test id) v w) → unwrap_or (cond b (Some x) o) w ≡ unwrap_or (cond b (Some x) p) (cond (test id) v w)
    step true x o p h = refl
    step false x o p h = h

-- a topic with the value, where it has the id
one_topic : (news : ℕ → Option Value) (id : ℕ) (v : Value) (t : ConnectedTopic) (b : Bool)
    → (record (cond b (record t { value = v }) t) { value = unwrap_or (news (cond b (record t { value = v }) t).id) (cond b (record t { value = v }) t).value })
    ≡ record t { value = unwrap_or (news t.id) (cond b v t.value) }
one_topic news id v t true = refl
one_topic news id v t false = refl

-- the last of the news is taken first
pub taken-last : (sorted front : List (ℕ × Value)) (id : ℕ) (v : Value) (topics : List ConnectedTopic) → sorted ≡ front ++ (id, v) ∷ []
    → topics_taken (λ q. lookup (nat_eq q) front) (topics_with_value topics id v) ≡ topics_taken (λ q. lookup (nat_eq q) sorted) topics
taken-last sorted front id v topics is = each topics ∙ ap (λ (s : List (ℕ × Value)). topics_taken (λ q. lookup (nat_eq q) s) topics) (sym is)
  where
    turned : (a b : ℕ) → nat_eq a b ≡ nat_eq b a
    turned a b = search (rules)

    each : (ts : List ConnectedTopic) → topics_taken (λ q. lookup (nat_eq q) front) (topics_with_value ts id v) ≡ topics_taken (λ q. lookup (nat_eq q) (front ++ (id, v) ∷ [])) ts
    each [] = refl
    each (t ∷ ts) =
        let here : (record (cond (nat_eq id t.id) (record t { value = v }) t) { value = unwrap_or (lookup (nat_eq (cond (nat_eq id t.id) (record t { value = v }) t).id) front) (cond (nat_eq id t.id) (record t { value = v }) t).value }) ≡ record t { value = unwrap_or (lookup (nat_eq t.id) (front ++ (id, v) ∷ [])) t.value } =
        one_topic (λ q. lookup (nat_eq q) front) id v t (nat_eq id t.id)
        ∙ ap (λ w. record t { value = w }) (ap (λ b. unwrap_or (lookup (nat_eq t.id) front) (cond b v t.value)) (turned id t.id) ∙ sym (lookup-last (nat_eq t.id) front id v t.value)) in
        λ i. here i ∷ each ts i

-- nothing is taken where there are no news
pub taken-none : (topics : List ConnectedTopic) → topics_taken (λ q. None) topics ≡ topics
taken-none [] = refl
taken-none (t ∷ ts) = ap (λ xs. t ∷ xs) (taken-none ts)
