-- What holds of each table, and what a new row, an emptied place and a cleaning leave.
use Rattle.std.proofs.Common.{◌≡◌, ℕ, zero, suc, ◌+◌, ◌<◌, ◌≤◌, Bool, true, false, cond, not, ◌&&◌, ◌||◌, List, [], ◌∷◌, ◌++◌, Option, None, Some, is_some, map, length, take, refl, ap, sym, subst, ◌∙◌, true≢false, arith}
use Rattle.std.specs.Prelude.{nat_eq, find, filter, slice_get, AllPairs}
use Rattle.std.specs.List.{AllByRecursion, list_any}
use Rattle.std.specs.Map.{lookup, values_of}
use Rattle.std.specs.Option.{option_map, option_map_or}
use Rattle.std.proofs.lemmas.Bool.{eq-eqb, eqb-true}
use Rattle.std.proofs.lemmas.List.{append_assoc, map-append}
use Rattle.std.proofs.lemmas.List.Elements.{All-from_recursion}
use Rattle.std.proofs.lemmas.List.Kept.{AllPairs-cons}
use Rattle.std.proofs.lemmas.Option.{none-some, same_Some}
use Rattle.indexmap.specs.IndexMap.{set_value_at}
use Rattle.cell_refs.specs.declared.grid.Cell.{Cell}
use Rattle.cell_refs.specs.Cell.{is_among}
use Rattle.cell_values.specs.declared.topics.Topic.{Topic}
use Rattle.cell_values.specs.declared.values.Value.{Value}
use Rattle.cell_values.specs.Topic.{same_topic}
use Rattle.cell_values.proofs.PublicLaws.{same_topics}
use Rattle.topic_table.specs.declared.places.Row.{Row}
use Rattle.topic_table.specs.Rows.{EachPlace, IsOnce, IsRising, connected, is_since_place, is_topic_place, is_unread_place, kept_in, live, live_entry, row_at, running_in, table_of, topic_in}
use Rattle.topic_table.specs.Table.{ConnectedTopic, IsTable, Readings, TakesOut, has_read, has_reader, id_of, is_no_cell, leaving, readers_of, topic_at, topics_with_value, topics_without}
use Rattle.topic_table.specs.TopicKey.{same_topic_is}
use Rattle.topic_table.proofs.RowLaws.{connected_at, place_of, readers-at, running-at, topic-at}

no_loop : (a b : ℕ) → a ≡ b → a < b → ⊥
no_loop a b same below = omega arith

apart_numbers : (a b : ℕ) → a < b → nat_eq a b ≡ false
apart_numbers a b below = elim (nat_eq a b) as (λ t. nat_eq a b ≡ t → t ≡ false) [
  | true ↦ λ same. absurd (no_loop a b (eqb-true a b same) below)
  | false ↦ λ apart. refl
] refl

apart_back : (a b : ℕ) → a < b → nat_eq b a ≡ false
apart_back a b below = elim (nat_eq b a) as (λ t. nat_eq b a ≡ t → t ≡ false) [
  | true ↦ λ same. absurd (no_loop a b (sym (eqb-true b a same)) below)
  | false ↦ λ apart. refl
] refl

same_turned : (a b : ℕ) → nat_eq a b ≡ true → nat_eq b a ≡ true
same_turned a b same = eq-eqb b a (sym (eqb-true a b same))

-- what holds of each item gives what follows from it
all-gives : {X : Type 0} (P Q : X → Type 0) → ((x : X) → P x → Q x) → (xs : List X) → AllByRecursion P xs → AllByRecursion Q xs
all-gives P Q gives [] all = tt
all-gives P Q gives (x ∷ xs) all = (gives x all.0, all-gives P Q gives xs all.1)

all-both : {X : Type 0} (P Q S : X → Type 0) → ((x : X) → P x → Q x → S x) → (xs : List X) → AllByRecursion P xs → AllByRecursion Q xs → AllByRecursion S xs
all-both P Q S gives [] all both = tt
all-both P Q S gives (x ∷ xs) all both = (gives x all.0 both.0, all-both P Q S gives xs all.1 both.1)

-- the ids of rows lie between the bounds
between : (es : List (ℕ × Option Row)) (low high : ℕ) → IsRising low es high → AllByRecursion (λ (e : ℕ × Option Row). low < e.0) es
between [] low high rising = tt
between (e ∷ es) low high rising = (rising.0, all-gives (λ (f : ℕ × Option Row). e.0 < f.0) (λ (f : ℕ × Option Row). low < f.0) (λ f above. omega (arith, above, rising.0)) es (between es e.0 high rising.1))

least : (es : List (ℕ × Option Row)) (low high : ℕ) → IsRising low es high → low ≤ high
least [] low high rising = rising
least (e ∷ es) low high rising = omega (arith, rising.0, least es e.0 high rising.1)

-- what holds of each row's id holds of each topic's
ids-live : (P : ℕ → Type 0) (es : List (ℕ × Option Row)) → AllByRecursion (λ (e : ℕ × Option Row). P e.0) es → AllByRecursion (λ (t : ConnectedTopic). P t.id) (map connected (live es))
ids-live P [] all = tt
ids-live P (e ∷ es) all = by e.1 (ids-live P es all.1)
  where
    by : (place : Option Row) → AllByRecursion (λ (t : ConnectedTopic). P t.id) (map connected (live es)) → AllByRecursion (λ (t : ConnectedTopic). P t.id) (map connected (live_entry e.0 place ++ live es))
    by None rest = rest
    by (Some row) rest = (all.0, rest)

within-high : (es : List (ℕ × Option Row)) (low high : ℕ) → IsRising low es high → AllByRecursion (λ (e : ℕ × Option Row). (1 ≤ e.0) × (e.0 ≤ high)) es
within-high [] low high rising = tt
within-high (e ∷ es) low high rising = ((omega (arith, rising.0), least es e.0 high rising.1), within-high es e.0 high rising.1)

rising-pairs : (es : List (ℕ × Option Row)) (low high : ℕ) → IsRising low es high → AllPairs (λ (a b : ConnectedTopic). a.id < b.id) (map connected (live es))
rising-pairs [] low high rising = λ i j d lt within. absurd (omega arith)
rising-pairs (e ∷ es) low high rising = by e.1 (rising-pairs es e.0 high rising.1) (ids-live (λ id. e.0 < id) es (between es e.0 high rising.1))
  where
    by : (place : Option Row) → AllPairs (λ (a b : ConnectedTopic). a.id < b.id) (map connected (live es)) → AllByRecursion (λ (t : ConnectedTopic). e.0 < t.id) (map connected (live es))
        → AllPairs (λ (a b : ConnectedTopic). a.id < b.id) (map connected (live_entry e.0 place ++ live es))
    by None rest above = rest
    by (Some row) rest above =
        AllPairs-cons (λ (a b : ConnectedTopic). a.id < b.id) (connected (e.0, row)) (map connected (live es))
        (All-from_recursion (λ (t : ConnectedTopic). e.0 < t.id) (map connected (live es)) above) rest

-- a test that passes nowhere fails everywhere
fails_everywhere : {X : Type 0} (p : X → Bool) (xs : List X) → list_any p xs ≡ false → AllByRecursion (λ x. p x ≡ false) xs
fails_everywhere p [] none = tt
fails_everywhere p (x ∷ xs) none = (first (p x) (list_any p xs) none, fails_everywhere p xs (second (p x) (list_any p xs) none))
  where
    first : (a b : Bool) → (a || b) ≡ false → a ≡ false
    first true b h = absurd (true≢false h)
    first false b h = refl

    second : (a b : Bool) → (a || b) ≡ false → b ≡ false
    second true b h = absurd (true≢false h)
    second false b h = h

once-pairs : (ts : List ConnectedTopic) → IsOnce ts → AllPairs (λ (a b : ConnectedTopic). same_topic a.topic b.topic ≡ false) ts
once-pairs [] once = λ i j d lt within. absurd (omega arith)
once-pairs (t ∷ ts) once =
    AllPairs-cons (λ (a b : ConnectedTopic). same_topic a.topic b.topic ≡ false) t ts
    (All-from_recursion (λ (s : ConnectedTopic). same_topic t.topic s.topic ≡ false) ts (fails_everywhere (λ (s : ConnectedTopic). same_topic t.topic s.topic) ts once.0))
    (once-pairs ts once.1)

-- what holds of each table of rows
pub facts-of : (es : List (ℕ × Option Row)) (greatest room : ℕ) → IsRising 0 es greatest → IsOnce (map connected (live es)) → IsTable (table_of es greatest room)
facts-of es greatest room rising once = record {
  rising = rising-pairs es 0 greatest rising;
  within = All-from_recursion (λ (t : ConnectedTopic). (1 ≤ t.id) × (t.id ≤ greatest)) (map connected (live es)) (ids-live (λ id. (1 ≤ id) × (id ≤ greatest)) es (within-high es 0 greatest rising));
  once = once-pairs (map connected (live es)) once;
  read = λ id cell reads. there id (λ place. is_among (kept_in place) cell ≡ true) (λ none. true≢false (sym none)) (ap (λ l. is_among l cell) (sym (readers-at es greatest greatest room rising id)) ∙ reads);
  running = λ id cell reads. there id (λ place. is_among (running_in place) cell ≡ true) (λ none. true≢false (sym none)) (ap (λ l. is_among l cell) (sym (running-at es greatest greatest room rising id)) ∙ reads);
}
  where
    by : (id : ℕ) (P : Option Row → Type 0) → (P None → ⊥) → (place : Option Row) → P place → is_some (connected_at id place) ≡ true
    by id P none None holds = absurd (none holds)
    by id P none (Some row) holds = refl

    there : (id : ℕ) (P : Option Row → Type 0) → (P None → ⊥) → P (row_at es id) → is_some (topic_at (map connected (live es)) id) ≡ true
    there id P none holds = ap is_some (topic-at es greatest rising id) ∙ by id P none (row_at es id) holds

-- a row at the end
pub live-push : (es fs : List (ℕ × Option Row)) → live (es ++ fs) ≡ live es ++ live fs
live-push [] fs = refl
live-push (e ∷ es) fs = ap (λ l. live_entry e.0 e.1 ++ l) (live-push es fs) ∙ sym (append_assoc (live_entry e.0 e.1) (live es) (live fs))

pub rising-push : (es : List (ℕ × Option Row)) (low high : ℕ) (place : Option Row) → IsRising low es high → IsRising low (es ++ (high + 1, place) ∷ []) (high + 1)
rising-push [] low high place rising = (omega (arith, rising), omega arith)
rising-push (e ∷ es) low high place rising = (rising.0, rising-push es e.0 high place rising.1)

absent-none : (ts : List ConnectedTopic) (topic : Topic) → id_of ts topic ≡ None → AllByRecursion (λ (t : ConnectedTopic). same_topic topic t.topic ≡ false) ts
absent-none [] topic absent = tt
absent-none (t ∷ ts) topic absent =
    elim (same_topic topic t.topic) as (λ b. same_topic topic t.topic ≡ b
    → option_map (λ (t : ConnectedTopic). t.id) (cond b (Some t) (find (λ (t : ConnectedTopic). same_topic topic t.topic) ts)) ≡ None
    → AllByRecursion (λ (t : ConnectedTopic). same_topic topic t.topic ≡ false) (t ∷ ts)) [
      | true ↦ λ same absent. absurd (none-some t.id (sym absent))
      | false ↦ λ apart absent. (apart, absent-none ts topic absent)
    ] refl absent

pub once-push : (ts : List ConnectedTopic) (t : ConnectedTopic) → IsOnce ts → id_of ts t.topic ≡ None → IsOnce (ts ++ t ∷ [])
once-push ts t once absent = by ts once (absent-none ts t.topic absent)
  where
    last : (s : ConnectedTopic) (ss : List ConnectedTopic) → list_any (λ (r : ConnectedTopic). same_topic s.topic r.topic) ss ≡ false → same_topic t.topic s.topic ≡ false
        → list_any (λ (r : ConnectedTopic). same_topic s.topic r.topic) (ss ++ t ∷ []) ≡ false
    last s [] none apart = ap (λ b. b || false) (same_topics.symm s.topic t.topic ∙ apart)
    last s (r ∷ ss) none apart =
        elim (same_topic s.topic r.topic) as (λ b. (b || list_any (λ (r : ConnectedTopic). same_topic s.topic r.topic) ss) ≡ false
        → (b || list_any (λ (r : ConnectedTopic). same_topic s.topic r.topic) (ss ++ t ∷ [])) ≡ false) [
          | true ↦ λ h. absurd (true≢false h)
          | false ↦ λ h. last s ss h apart
        ] none

    by : (ss : List ConnectedTopic) → IsOnce ss → AllByRecursion (λ (s : ConnectedTopic). same_topic t.topic s.topic ≡ false) ss → IsOnce (ss ++ t ∷ [])
    by [] once all = (refl, tt)
    by (s ∷ ss) once all = (last s ss once.0 all.0, by ss once.1 all.1)

-- a row without readers at the end leaves the readers of each topic
module _ (f : Option Row → List Cell) (none : f None ≡ []) (n : ℕ) (place : Option Row) (empty : f place ≡ []) (q : ℕ) where
  pub readers-push : (es : List (ℕ × Option Row)) → f (row_at (es ++ (n, place) ∷ []) q) ≡ f (row_at es q)
  readers-push [] = by (nat_eq q n)
    where
      by : (b : Bool) → f (place_of (cond b (Some place) None)) ≡ f None
      by true = empty ∙ sym none
      by false = refl
  readers-push (e ∷ es) =
      elim (nat_eq q e.0) as (λ b. f (place_of (cond b (Some e.1) (lookup (nat_eq q) (es ++ (n, place) ∷ [])))) ≡ f (place_of (cond b (Some e.1) (lookup (nat_eq q) es)))) [
        | true ↦ refl
        | false ↦ readers-push es
      ]

-- a row without readers at the end, beyond the greatest id
module _ (es : List (ℕ × Option Row)) (greatest : ℕ) (rising : IsRising 0 es greatest) (row : Row) (empty : row.readers ≡ record { kept = []; running = [] })
    (fs : List (ℕ × Option Row)) (is : fs ≡ es ++ (greatest + 1, Some row) ∷ []) where
  pub rising-pushed : IsRising 0 fs (greatest + 1)
  rising-pushed = subst (λ l. IsRising 0 l (greatest + 1)) (sym is) (rising-push es 0 greatest (Some row) rising)

  pub connected-pushed : map connected (live fs) ≡ map connected (live es) ++ connected (greatest + 1, row) ∷ []
  connected-pushed =
      ap (λ l. map connected (live l)) is
      ∙ ap (map connected) (live-push es ((greatest + 1, Some row) ∷ []))
      ∙ map-append connected (live es) ((greatest + 1, row) ∷ [])

  pub reader-pushed : (id : ℕ) (cell : Cell) → has_reader (table_of fs 0 0) id cell ≡ has_reader (table_of es 0 0) id cell
  reader-pushed id cell =
      ap (λ l. is_among l cell) (readers-at fs (greatest + 1) 0 0 rising-pushed id)
      ∙ ap (λ l. is_among (kept_in (row_at l id)) cell) is
      ∙ ap (λ l. is_among l cell) (readers-push kept_in refl (greatest + 1) (Some row) (ap (λ (r : Readings). r.kept) empty) id es)
      ∙ ap (λ l. is_among l cell) (sym (readers-at es greatest 0 0 rising id))

  pub read-pushed : (id : ℕ) (cell : Cell) → has_read (table_of fs 0 0) id cell ≡ has_read (table_of es 0 0) id cell
  read-pushed id cell =
      ap (λ l. is_among l cell) (running-at fs (greatest + 1) 0 0 rising-pushed id)
      ∙ ap (λ l. is_among (running_in (row_at l id)) cell) is
      ∙ ap (λ l. is_among l cell) (readers-push running_in refl (greatest + 1) (Some row) (ap (λ (r : Readings). r.running) empty) id es)
      ∙ ap (λ l. is_among l cell) (sym (running-at es greatest 0 0 rising id))

-- a place is emptied
pub rising-set_at : (es : List (ℕ × Option Row)) (low high i : ℕ) (place : Option Row) → IsRising low es high → IsRising low (set_value_at es i place) high
rising-set_at [] low high i place rising = rising
rising-set_at (e ∷ es) low high zero place rising = rising
rising-set_at (e ∷ es) low high (suc i) place rising = (rising.0, rising-set_at es e.0 high i place rising.1)

above-at : (es : List (ℕ × Option Row)) (low high i : ℕ) (e : ℕ × Option Row) → IsRising low es high → slice_get es i ≡ Some e → low < e.0
above-at [] low high i e rising at = absurd (none-some e at)
above-at (f ∷ fs) low high zero e rising at = subst (λ (g : ℕ × Option Row). low < g.0) (same_Some f e at) rising.0
above-at (f ∷ fs) low high (suc i) e rising at = omega (arith, rising.0, above-at fs f.0 high i e rising.1 at)

none_out : (ts : List ConnectedTopic) (id : ℕ) → AllByRecursion (λ (t : ConnectedTopic). id < t.id) ts → topics_without ts id ≡ ts
none_out [] id all = refl
none_out (t ∷ ts) id all = ap (λ b. cond (not b) (t ∷ topics_without ts id) (topics_without ts id)) (apart_numbers id t.id all.0) ∙ ap {B = List ConnectedTopic} (λ l. t ∷ l) (none_out ts id all.1)

pub connected-out : (es : List (ℕ × Option Row)) (low high i id : ℕ) (row : Row) → IsRising low es high → slice_get es i ≡ Some (id, Some row)
    → map connected (live (set_value_at es i None)) ≡ topics_without (map connected (live es)) id
connected-out [] low high i id row rising at = absurd (none-some (id, Some row) at)
connected-out (e ∷ es) low high zero id row rising at =
    let is = same_Some e (id, Some row) at in
    let above = ids-live (λ n. id < n) es (subst (λ (f : ℕ × Option Row). AllByRecursion (λ (g : ℕ × Option Row). f.0 < g.0) es) is (between es e.0 high rising.1)) in
    sym (none_out (map connected (live es)) id above)
    ∙ ap (λ b. cond (not b) (connected (id, row) ∷ topics_without (map connected (live es)) id) (topics_without (map connected (live es)) id)) (sym (eq-eqb id id refl))
    ∙ ap (λ (f : ℕ × Option Row). topics_without (map connected (live_entry f.0 f.1 ++ live es)) id) (sym is)
connected-out (e ∷ es) low high (suc i) id row rising at =
    by e.1 (connected-out es e.0 high i id row rising.1 at) (apart_back e.0 id (above-at es e.0 high i (id, Some row) rising.1 at))
  where
    by : (place : Option Row) → map connected (live (set_value_at es i None)) ≡ topics_without (map connected (live es)) id → nat_eq id e.0 ≡ false
        → map connected (live_entry e.0 place ++ live (set_value_at es i None)) ≡ topics_without (map connected (live_entry e.0 place ++ live es)) id
    by None rest apart = rest
    by (Some r) rest apart =
        ap {B = List ConnectedTopic} (λ l. connected (e.0, r) ∷ l) rest
        ∙ ap (λ b. cond (not b) (connected (e.0, r) ∷ topics_without (map connected (live es)) id) (topics_without (map connected (live es)) id)) (sym apart)

pub row-out : (es : List (ℕ × Option Row)) (low high i id : ℕ) (row : Row) (q : ℕ) → IsRising low es high → slice_get es i ≡ Some (id, Some row)
    → row_at (set_value_at es i None) q ≡ cond (nat_eq id q) None (row_at es q)
row-out [] low high i id row q rising at = absurd (none-some (id, Some row) at)
row-out (e ∷ es) low high zero id row q rising at =
    subst (λ (f : ℕ × Option Row). place_of (cond (nat_eq q f.0) (Some None) (lookup (nat_eq q) es)) ≡ cond (nat_eq id q) None (place_of (cond (nat_eq q f.0) (Some f.1) (lookup (nat_eq q) es)))) (sym (same_Some e (id, Some row) at))
    (elim (nat_eq q id) as (λ b. nat_eq q id ≡ b → place_of (cond b (Some None) (lookup (nat_eq q) es)) ≡ cond (nat_eq id q) None (place_of (cond b (Some (Some row)) (lookup (nat_eq q) es)))) [
      | true ↦ λ same. ap (λ b. cond b None (Some row)) (sym (same_turned q id same))
      | false ↦ λ apart. ap (λ b. cond b None (place_of (lookup (nat_eq q) es))) (sym (turned apart))
    ] refl)
  where
    turned : nat_eq q id ≡ false → nat_eq id q ≡ false
    turned apart = elim (nat_eq id q) as (λ b. nat_eq id q ≡ b → b ≡ false) [
      | true ↦ λ same. sym (same_turned id q same) ∙ apart
      | false ↦ λ other. refl
    ] refl
row-out (e ∷ es) low high (suc i) id row q rising at =
    let above = above-at es e.0 high i (id, Some row) rising.1 at in
    let rest = row-out es e.0 high i id row q rising.1 at in
    elim (nat_eq q e.0) as (λ b. nat_eq q e.0 ≡ b
    → place_of (cond b (Some e.1) (lookup (nat_eq q) (set_value_at es i None))) ≡ cond (nat_eq id q) None (place_of (cond b (Some e.1) (lookup (nat_eq q) es)))) [
      | true ↦ λ same. ap (λ b. cond b None e.1) (sym (subst (λ n. nat_eq id n ≡ false) (sym (eqb-true q e.0 same)) (apart_back e.0 id above)))
      | false ↦ λ apart. rest
    ] refl

pub once-without : (ts : List ConnectedTopic) (id : ℕ) → IsOnce ts → IsOnce (topics_without ts id)
once-without [] id once = once
once-without (t ∷ ts) id once =
    elim (not (nat_eq id t.id)) as (λ b. IsOnce (cond b (t ∷ topics_without ts id) (topics_without ts id))) [
      | true ↦ (none-without t ts once.0, once-without ts id once.1)
      | false ↦ once-without ts id once.1
    ]
  where
    none-without : (s : ConnectedTopic) (ss : List ConnectedTopic) → list_any (λ (r : ConnectedTopic). same_topic s.topic r.topic) ss ≡ false → list_any (λ (r : ConnectedTopic). same_topic s.topic r.topic) (topics_without ss id) ≡ false
    none-without s [] none = refl
    none-without s (r ∷ ss) none =
        elim (same_topic s.topic r.topic) as (λ b. same_topic s.topic r.topic ≡ b → (b || list_any (λ (r : ConnectedTopic). same_topic s.topic r.topic) ss) ≡ false
        → list_any (λ (r : ConnectedTopic). same_topic s.topic r.topic) (cond (not (nat_eq id r.id)) (r ∷ topics_without ss id) (topics_without ss id)) ≡ false) [
          | true ↦ λ e h. absurd (true≢false h)
          | false ↦ λ e h. elim (not (nat_eq id r.id)) as (λ k. list_any (λ (r : ConnectedTopic). same_topic s.topic r.topic) (cond k (r ∷ topics_without ss id) (topics_without ss id)) ≡ false) [
            | true ↦ ap (λ b. b || list_any (λ (r : ConnectedTopic). same_topic s.topic r.topic) (topics_without ss id)) e ∙ none-without s ss h
            | false ↦ none-without s ss h
          ]
        ] refl none

-- the empty places are given back
pub rising-live : (es : List (ℕ × Option Row)) (low low' high : ℕ) → low' ≤ low → IsRising low es high → IsRising low' (filter (λ (e : ℕ × Option Row). is_some e.1) es) high
rising-live [] low low' high order rising = omega (arith, order, rising)
rising-live (e ∷ es) low low' high order rising =
    elim (is_some e.1) as (λ b. IsRising low' (cond b (e ∷ filter (λ (e : ℕ × Option Row). is_some e.1) es) (filter (λ (e : ℕ × Option Row). is_some e.1) es)) high) [
      | true ↦ (omega (arith, order, rising.0), rising-live es e.0 e.0 high (omega arith) rising.1)
      | false ↦ rising-live es e.0 low' high (omega (arith, order, rising.0)) rising.1
    ]

pub live-live : (es : List (ℕ × Option Row)) → live (filter (λ (e : ℕ × Option Row). is_some e.1) es) ≡ live es
live-live [] = refl
live-live (e ∷ es) = by e.1 refl (live-live es)
  where
    by : (place : Option Row) → e.1 ≡ place → live (filter (λ (e : ℕ × Option Row). is_some e.1) es) ≡ live es
        → live (cond (is_some e.1) (e ∷ filter (λ (e : ℕ × Option Row). is_some e.1) es) (filter (λ (e : ℕ × Option Row). is_some e.1) es)) ≡ live_entry e.0 e.1 ++ live es
    by None is rest = ap (λ place. live (cond (is_some place) (e ∷ filter (λ (e : ℕ × Option Row). is_some e.1) es) (filter (λ (e : ℕ × Option Row). is_some e.1) es))) is ∙ rest ∙ ap (λ place. live_entry e.0 place ++ live es) (sym is)
    by (Some row) is rest = ap (λ place. live (cond (is_some place) (e ∷ filter (λ (e : ℕ × Option Row). is_some e.1) es) (filter (λ (e : ℕ × Option Row). is_some e.1) es))) is ∙ ap (λ l. live_entry e.0 e.1 ++ l) rest

-- a test of topics that agrees with one of places
abbrev pub Agrees : (ConnectedTopic → Bool) → (Option Row → Bool) → List (ℕ × Option Row) → Type 0
Agrees P p es = AllByRecursion (λ (e : ℕ × Option Row). (row : Row) → e.1 ≡ Some row → P (connected (e.0, row)) ≡ p (Some row)) es

module _ (P : ConnectedTopic → Bool) (p : Option Row → Bool) (empty : p None ≡ false) where
  pub first-found : (es : List (ℕ × Option Row)) (i : ℕ) → Agrees P p es → list_any (λ (e : ℕ × Option Row). p e.1) (take i es) ≡ false
      → option_map_or (λ (e : ℕ × Option Row). p e.1) (slice_get es i) false ≡ true → topic_in (slice_get es i) ≡ option_map leaving (find P (map connected (live es)))
  first-found [] i agree none at = absurd (true≢false (sym at))
  first-found (e ∷ es) zero agree none at = by e.1 refl
    where
      by : (place : Option Row) → e.1 ≡ place → topic_in (Some e) ≡ option_map leaving (find P (map connected (live_entry e.0 e.1 ++ live es)))
      by None is = absurd (true≢false (sym at ∙ ap p is ∙ empty))
      by (Some row) is =
          ap (λ place. topic_in (Some (e.0, place))) is
          ∙ ap (λ b. option_map leaving (cond b (Some (connected (e.0, row))) (find P (map connected (live es))))) (sym (agree.0 row is ∙ ap p (sym is) ∙ at))
          ∙ ap (λ place. option_map leaving (find P (map connected (live_entry e.0 place ++ live es)))) (sym is)
  first-found (e ∷ es) (suc i) agree none at = by e.1 refl (first-found es i agree.1 (second (p e.1) (list_any (λ (e : ℕ × Option Row). p e.1) (take i es)) none) at)
    where
      second : (a b : Bool) → (a || b) ≡ false → b ≡ false
      second true b h = absurd (true≢false h)
      second false b h = h

      first : (a b : Bool) → (a || b) ≡ false → a ≡ false
      first true b h = absurd (true≢false h)
      first false b h = refl

      by : (place : Option Row) → e.1 ≡ place → topic_in (slice_get es i) ≡ option_map leaving (find P (map connected (live es)))
          → topic_in (slice_get es i) ≡ option_map leaving (find P (map connected (live_entry e.0 e.1 ++ live es)))
      by None is rest = rest ∙ ap (λ place. option_map leaving (find P (map connected (live_entry e.0 place ++ live es)))) (sym is)
      by (Some row) is rest =
          rest
          ∙ ap (λ b. option_map leaving (cond b (Some (connected (e.0, row))) (find P (map connected (live es))))) (sym (agree.0 row is ∙ ap p (sym is) ∙ first (p e.1) (list_any (λ (e : ℕ × Option Row). p e.1) (take i es)) none))
          ∙ ap (λ place. option_map leaving (find P (map connected (live_entry e.0 place ++ live es)))) (sym is)

  pub none-found : (es : List (ℕ × Option Row)) → Agrees P p es → list_any (λ (e : ℕ × Option Row). p e.1) es ≡ false → find P (map connected (live es)) ≡ None
  none-found [] agree none = refl
  none-found (e ∷ es) agree none = by e.1 refl (none-found es agree.1 (second (p e.1) (list_any (λ (e : ℕ × Option Row). p e.1) es) none))
    where
      second : (a b : Bool) → (a || b) ≡ false → b ≡ false
      second true b h = absurd (true≢false h)
      second false b h = h

      first : (a b : Bool) → (a || b) ≡ false → a ≡ false
      first true b h = absurd (true≢false h)
      first false b h = refl

      by : (place : Option Row) → e.1 ≡ place → find P (map connected (live es)) ≡ None → find P (map connected (live_entry e.0 e.1 ++ live es)) ≡ None
      by None is rest = ap (λ place. find P (map connected (live_entry e.0 place ++ live es))) is ∙ rest
      by (Some row) is rest =
          ap (λ place. find P (map connected (live_entry e.0 place ++ live es))) is
          ∙ ap (λ b. cond b (Some (connected (e.0, row))) (find P (map connected (live es)))) (agree.0 row is ∙ ap p (sym is) ∙ first (p e.1) (list_any (λ (e : ℕ × Option Row). p e.1) es) none)
          ∙ rest

-- each row stands under its id
own-row : (es : List (ℕ × Option Row)) (low high : ℕ) → IsRising low es high → AllByRecursion (λ (f : ℕ × Option Row). row_at es f.0 ≡ f.1) es
own-row [] low high rising = tt
own-row (e ∷ es) low high rising = (
  ap (λ b. place_of (cond b (Some e.1) (lookup (nat_eq e.0) es))) (eq-eqb e.0 e.0 refl),
  all-both (λ (f : ℕ × Option Row). e.0 < f.0) (λ (f : ℕ × Option Row). row_at es f.0 ≡ f.1) (λ (f : ℕ × Option Row). row_at (e ∷ es) f.0 ≡ f.1)
      (λ f above own. ap (λ b. place_of (cond b (Some e.1) (lookup (nat_eq f.0) es))) (apart_back e.0 f.0 above) ∙ own)
      es (between es e.0 high rising.1) (own-row es e.0 high rising.1),
)

pub agrees-unread : (es : List (ℕ × Option Row)) (greatest room : ℕ) → IsRising 0 es greatest
    → Agrees (λ (t : ConnectedTopic). is_no_cell (readers_of (table_of es greatest room) t.id)) is_unread_place es
agrees-unread es greatest room rising =
    all-gives (λ (f : ℕ × Option Row). row_at es f.0 ≡ f.1) (λ (e : ℕ × Option Row). (row : Row) → e.1 ≡ Some row → is_no_cell (readers_of (table_of es greatest room) e.0) ≡ is_unread_place (Some row))
    (λ f own row is. ap is_no_cell (readers-at es greatest greatest room rising f.0 ∙ ap kept_in (own ∙ is)))
    es (own-row es 0 greatest rising)

pub agrees-since : (es : List (ℕ × Option Row)) (round : ℕ) → Agrees (λ (t : ConnectedTopic). nat_eq round t.round) (is_since_place round) es
agrees-since [] round = tt
agrees-since (e ∷ es) round = ((λ row is. refl), agrees-since es round)

pub agrees-topic : (es : List (ℕ × Option Row)) (topic : Topic) → Agrees (λ (t : ConnectedTopic). same_topic topic t.topic) (is_topic_place topic) es
agrees-topic [] topic = tt
agrees-topic (e ∷ es) topic = ((λ row is. refl), agrees-topic es topic)

-- the id of the first topic found
pub id-leaving : (found : Option ConnectedTopic) → option_map (λ (p : Topic × ℕ). p.1) (option_map leaving found) ≡ option_map (λ (t : ConnectedTopic). t.id) found
id-leaving None = refl
id-leaving (Some t) = refl

-- how far a way through the places has come
abbrev pub Progress : (Option Row → Option Row → Type 0) → ℕ → List (ℕ × Option Row) → List (ℕ × Option Row) → Type 0
Progress R zero es fs = fs ≡ es
Progress R (suc i) [] fs = fs ≡ []
Progress R (suc i) (e ∷ es) [] = ⊥
Progress R (suc i) (e ∷ es) (f ∷ fs) = (f.0 ≡ e.0) × R e.1 f.1 × Progress R i es fs

module _ (R : Option Row → Option Row → Type 0) where
  progress-step : (i : ℕ) (es fs : List (ℕ × Option Row)) (old new : Option Row) → Progress R i es fs → Some old ≡ slice_get (values_of fs) i → R old new → Progress R (suc i) es (set_value_at fs i new)
  progress-step zero es fs old new is at made =
      subst (λ l. Some old ≡ slice_get (values_of l) 0 → Progress R (suc zero) es (set_value_at l 0 new)) (sym is) (by es) at
    where
      by : (l : List (ℕ × Option Row)) → Some old ≡ slice_get (values_of l) 0 → Progress R (suc zero) l (set_value_at l 0 new)
      by [] at = absurd (none-some old (sym at))
      by (e ∷ l) at = (refl, subst (λ place. R place new) (same_Some old e.1 at) made, refl)
  progress-step (suc i) [] fs old new is at made = absurd (none-some old (sym (at ∙ ap (λ l. slice_get (values_of l) (suc i)) is)))
  progress-step (suc i) (e ∷ es) [] old new is at made = absurd is
  progress-step (suc i) (e ∷ es) (f ∷ fs) old new is at made = (is.0, is.1, progress-step i es fs old new is.2 at made)

  progress-end : (i : ℕ) (es fs : List (ℕ × Option Row)) → Progress R i es fs → None ≡ slice_get (values_of fs) i → Progress R (suc i) es fs
  progress-end zero es fs is at = subst (λ l. None ≡ slice_get (values_of l) 0 → Progress R (suc zero) es l) (sym is) (by es) at
    where
      by : (l : List (ℕ × Option Row)) → None ≡ slice_get (values_of l) 0 → Progress R (suc zero) l l
      by [] at = refl
      by (e ∷ l) at = absurd (none-some e.1 at)
  progress-end (suc i) [] fs is at = is
  progress-end (suc i) (e ∷ es) [] is at = absurd is
  progress-end (suc i) (e ∷ es) (f ∷ fs) is at = (is.0, is.1, progress-end i es fs is.2 at)

  pub progress-more : (i : ℕ) (es fs : List (ℕ × Option Row)) (old new : Option Row) → Progress R i es fs → Some old ≡ slice_get (values_of fs) i → R old new → Progress R (i + 1) es (set_value_at fs i new)
  progress-more i es fs old new is at made =
      let one : suc i ≡ i + 1 = omega arith in
      subst (λ n. Progress R n es (set_value_at fs i new)) one (progress-step i es fs old new is at made)

  pub progress-past : (i : ℕ) (es fs : List (ℕ × Option Row)) → Progress R i es fs → None ≡ slice_get (values_of fs) i → Progress R (i + 1) es fs
  progress-past i es fs is at =
      let one : suc i ≡ i + 1 = omega arith in
      subst (λ n. Progress R n es fs) one (progress-end i es fs is at)

  pub progress-all : (i : ℕ) (es fs : List (ℕ × Option Row)) → length es ≤ i → Progress R i es fs → EachPlace R es fs
  progress-all zero [] fs far is = subst (λ l. EachPlace R [] l) (sym is) tt
  progress-all zero (e ∷ es) fs far is = absurd (omega arith)
  progress-all (suc i) [] fs far is = subst (λ l. EachPlace R [] l) (sym is) tt
  progress-all (suc i) (e ∷ es) [] far is = absurd is
  progress-all (suc i) (e ∷ es) (f ∷ fs) far is = (is.0, is.1, progress-all i es fs (omega arith) is.2)

-- a way through a list that passes one more item
module _ {X : Type 0} (p : X → Bool) where
  any-step : (xs : List X) (i : ℕ) (x : X) → list_any p (take i xs) ≡ false → Some x ≡ slice_get xs i → p x ≡ false → list_any p (take (suc i) xs) ≡ false
  any-step [] i x none at fails = absurd (none-some x (sym at))
  any-step (y ∷ ys) zero x none at fails = ap (λ b. b || false) (ap p (sym (same_Some x y at)) ∙ fails)
  any-step (y ∷ ys) (suc i) x none at fails = by (p y) none (any-step ys i x)
    where
      by : (b : Bool) → (b || list_any p (take i ys)) ≡ false → (list_any p (take i ys) ≡ false → Some x ≡ slice_get ys i → p x ≡ false → list_any p (take (suc i) ys) ≡ false) → (b || list_any p (take (suc i) ys)) ≡ false
      by true h rest = absurd (true≢false h)
      by false h rest = rest h at fails

  any-end : (xs : List X) (i : ℕ) → list_any p (take i xs) ≡ false → None ≡ slice_get xs i → list_any p (take (suc i) xs) ≡ false
  any-end [] i none at = refl
  any-end (y ∷ ys) zero none at = absurd (none-some y at)
  any-end (y ∷ ys) (suc i) none at = by (p y) none (any-end ys i)
    where
      by : (b : Bool) → (b || list_any p (take i ys)) ≡ false → (list_any p (take i ys) ≡ false → None ≡ slice_get ys i → list_any p (take (suc i) ys) ≡ false) → (b || list_any p (take (suc i) ys)) ≡ false
      by true h rest = absurd (true≢false h)
      by false h rest = rest h at

  pub any-more : (xs : List X) (i : ℕ) (x : X) → list_any p (take i xs) ≡ false → Some x ≡ slice_get xs i → p x ≡ false → list_any p (take (i + 1) xs) ≡ false
  any-more xs i x none at fails =
      let one : suc i ≡ i + 1 = omega arith in
      subst (λ n. list_any p (take n xs) ≡ false) one (any-step xs i x none at fails)

  pub any-past : (xs : List X) (i : ℕ) → list_any p (take i xs) ≡ false → None ≡ slice_get xs i → list_any p (take (i + 1) xs) ≡ false
  any-past xs i none at =
      let one : suc i ≡ i + 1 = omega arith in
      subst (λ n. list_any p (take n xs) ≡ false) one (any-end xs i none at)

  pub any-whole : (xs : List X) (i : ℕ) → length xs ≤ i → list_any p (take i xs) ≡ false → list_any p xs ≡ false
  any-whole [] i far none = refl
  any-whole (y ∷ ys) zero far none = absurd (omega arith)
  any-whole (y ∷ ys) (suc i) far none = by (p y) none (any-whole ys i (omega arith))
    where
      by : (b : Bool) → (b || list_any p (take i ys)) ≡ false → (list_any p (take i ys) ≡ false → list_any p ys ≡ false) → (b || list_any p ys) ≡ false
      by true h rest = absurd (true≢false h)
      by false h rest = rest h

-- the id of a place that has a row
pub id-in : (p : Option Row → Bool) → p None ≡ false → (id : ℕ) (place : Option Row) → p place ≡ true → Some id ≡ option_map (λ (t : Topic × ℕ). t.1) (topic_in (Some (id, place)))
id-in p empty id None holds = absurd (true≢false (sym holds ∙ empty))
id-in p empty id (Some row) holds = refl

-- a place that is sought has a topic
pub topic-sought : (p : Option Row → Bool) → p None ≡ false → (found : Option (ℕ × Option Row)) → option_map_or (λ (e : ℕ × Option Row). p e.1) found false ≡ true → is_some (topic_in found) ≡ true
topic-sought p empty None holds = absurd (true≢false (sym holds))
topic-sought p empty (Some e) holds = by e.1 holds
  where
    by : (place : Option Row) → p place ≡ true → is_some (topic_in (Some (e.0, place))) ≡ true
    by None holds = absurd (true≢false (sym holds ∙ empty))
    by (Some row) holds = refl

-- the row of a topic that leaves
row-leaving : (found : Option (ℕ × Option Row)) (topic : Topic) (id : ℕ) → topic_in found ≡ Some (topic, id) → (row : Row) × (found ≡ Some (id, Some row))
row-leaving None topic id is = absurd (none-some (topic, id) is)
row-leaving (Some e) topic id is = by e.1 refl is
  where
    by : (place : Option Row) → e.1 ≡ place → topic_in (Some (e.0, place)) ≡ Some (topic, id) → (row : Row) × (Some e ≡ Some (id, Some row))
    by None at is = absurd (none-some (topic, id) is)
    by (Some row) at is = (row, λ i. Some (ap (λ (t : Topic × ℕ). t.1) (same_Some {A = Topic × ℕ} (row.topic, e.0) (topic, id) is) i, at i))

pub take-set_value_at : (es : List (ℕ × Option Row)) (i : ℕ) (place : Option Row) → take i (set_value_at es i place) ≡ take i es
take-set_value_at [] zero place = refl
take-set_value_at [] (suc i) place = refl
take-set_value_at (e ∷ es) zero place = refl
take-set_value_at (e ∷ es) (suc i) place = ap {B = List (ℕ × Option Row)} (λ l. e ∷ l) (take-set_value_at es i place)

-- a topic leaves the table
module _ (es fs : List (ℕ × Option Row)) (greatest i : ℕ) (rising : IsRising 0 es greatest) (topic : Topic) (id : ℕ) (at : topic_in (slice_get es i) ≡ Some (topic, id))
    (is : fs ≡ set_value_at es i None) where
  stands : (row : Row) × (slice_get es i ≡ Some (id, Some row))
  stands = row-leaving (slice_get es i) topic id at

  pub rising-taken : IsRising 0 fs greatest
  rising-taken = subst (λ l. IsRising 0 l greatest) (sym is) (rising-set_at es 0 greatest i None rising)

  pub connected-taken : map connected (live fs) ≡ topics_without (map connected (live es)) id
  connected-taken = ap (λ l. map connected (live l)) is ∙ connected-out es 0 greatest i id stands.0 rising stands.1

  row-taken : (q : ℕ) → row_at fs q ≡ cond (nat_eq id q) None (row_at es q)
  row-taken q = ap (λ l. row_at l q) is ∙ row-out es 0 greatest i id stands.0 q rising stands.1

  none_left : (f : Option Row → Bool) → f None ≡ false → (b : Bool) (place : Option Row) → f (cond b None place) ≡ (not b && f place)
  none_left f none true place = none
  none_left f none false place = refl

  pub taken-out : (room room' : ℕ) → TakesOut (table_of es greatest room) (table_of fs greatest room') id
  taken-out room room' = record {
    topics = connected-taken;
    greatest = refl;
    readers = λ q cell.
        ap (λ l. is_among l cell) (readers-at fs greatest greatest room' rising-taken q) ∙ ap (λ place. is_among (kept_in place) cell) (row-taken q)
        ∙ none_left (λ place. is_among (kept_in place) cell) refl (nat_eq id q) (row_at es q)
        ∙ ap (λ l. not (nat_eq id q) && is_among l cell) (sym (readers-at es greatest greatest room rising q));
    running = λ q cell.
        ap (λ l. is_among l cell) (running-at fs greatest greatest room' rising-taken q) ∙ ap (λ place. is_among (running_in place) cell) (row-taken q)
        ∙ none_left (λ place. is_among (running_in place) cell) refl (nat_eq id q) (row_at es q)
        ∙ ap (λ l. not (nat_eq id q) && is_among l cell) (sym (running-at es greatest greatest room rising q));
  }

-- ids rise along the topics
abbrev pub AreApart : List ConnectedTopic → Type 0
AreApart [] = Unit {0}
AreApart (t ∷ ts) = AllByRecursion (λ (s : ConnectedTopic). t.id < s.id) ts × AreApart ts

pub apart-live : (es : List (ℕ × Option Row)) (low high : ℕ) → IsRising low es high → AreApart (map connected (live es))
apart-live [] low high rising = tt
apart-live (e ∷ es) low high rising = by e.1 (apart-live es e.0 high rising.1) (ids-live (λ id. e.0 < id) es (between es e.0 high rising.1))
  where
    by : (place : Option Row) → AreApart (map connected (live es)) → AllByRecursion (λ (t : ConnectedTopic). e.0 < t.id) (map connected (live es)) → AreApart (map connected (live_entry e.0 place ++ live es))
    by None rest above = rest
    by (Some row) rest above = (above, rest)

-- what holds of each holds of the one found
all-found : {X : Type 0} (Q : X → Type 0) (P : X → Bool) (xs : List X) (x : X) → AllByRecursion Q xs → find P xs ≡ Some x → Q x
all-found Q P [] x all found = absurd (none-some x found)
all-found Q P (y ∷ ys) x all found =
    elim (P y) as (λ b. cond b (Some y) (find P ys) ≡ Some x → Q x) [
      | true ↦ λ found. subst Q (same_Some y x found) all.0
      | false ↦ λ found. all-found Q P ys x all.1 found
    ] found

-- the topics, where one has left: each id but its own
id_of-head : (t : ConnectedTopic) (ts : List ConnectedTopic) (q : Topic) → id_of (t ∷ ts) q ≡ cond (same_topic q t.topic) (Some t.id) (id_of ts q)
id_of-head t ts q = elim (same_topic q t.topic) as (λ b. option_map (λ (s : ConnectedTopic). s.id) (cond b (Some t) (find (λ (s : ConnectedTopic). same_topic q s.topic) ts)) ≡ cond b (Some t.id) (id_of ts q)) [
  | true ↦ refl
  | false ↦ refl
]

id_of-none : (ts : List ConnectedTopic) (q : Topic) → AllByRecursion (λ (s : ConnectedTopic). same_topic q s.topic ≡ false) ts → id_of ts q ≡ None
id_of-none [] q all = refl
id_of-none (t ∷ ts) q all = id_of-head t ts q ∙ ap (λ b. cond b (Some t.id) (id_of ts q)) all.0 ∙ id_of-none ts q all.1

pub id_of-without : (P : ConnectedTopic → Bool) (ts : List ConnectedTopic) (out : ConnectedTopic) → IsOnce ts → AreApart ts → find P ts ≡ Some out → (q : Topic)
    → id_of (topics_without ts out.id) q ≡ cond (same_topic out.topic q) None (id_of ts q)
id_of-without P [] out once apart found q = absurd (none-some out found)
id_of-without P (t ∷ ts) out once apart found q =
    elim (P t) as (λ b. cond b (Some t) (find P ts) ≡ Some out → id_of (topics_without (t ∷ ts) out.id) q ≡ cond (same_topic out.topic q) None (id_of (t ∷ ts) q)) [
      | true ↦ λ found. subst (λ (s : ConnectedTopic). id_of (topics_without (t ∷ ts) s.id) q ≡ cond (same_topic s.topic q) None (id_of (t ∷ ts) q)) (same_Some t out found) first
      | false ↦ λ found. other found (id_of-without P ts out once.1 apart.1 found q)
    ] found
  where
    apart_all : AllByRecursion (λ (s : ConnectedTopic). same_topic t.topic s.topic ≡ false) ts
    apart_all = fails_everywhere (λ (s : ConnectedTopic). same_topic t.topic s.topic) ts once.0

    first : id_of (topics_without (t ∷ ts) t.id) q ≡ cond (same_topic t.topic q) None (id_of (t ∷ ts) q)
    first =
        ap (λ b. id_of (cond (not b) (t ∷ topics_without ts t.id) (topics_without ts t.id)) q) (eq-eqb t.id t.id refl)
        ∙ ap (λ l. id_of l q) (none_out ts t.id apart.0)
        ∙ elim (same_topic t.topic q) as (λ b. same_topic t.topic q ≡ b → id_of ts q ≡ cond b None (id_of (t ∷ ts) q)) [
          | true ↦ λ same. id_of-none ts q (subst (λ r. AllByRecursion (λ (s : ConnectedTopic). same_topic r s.topic ≡ false) ts) (same_topic_is t.topic q same) apart_all)
          | false ↦ λ e. sym (id_of-head t ts q ∙ ap (λ b. cond b (Some t.id) (id_of ts q)) (same_topics.symm q t.topic ∙ e))
        ] refl

    other : find P ts ≡ Some out → id_of (topics_without ts out.id) q ≡ cond (same_topic out.topic q) None (id_of ts q)
        → id_of (topics_without (t ∷ ts) out.id) q ≡ cond (same_topic out.topic q) None (id_of (t ∷ ts) q)
    other found rest =
        let below = all-found (λ (s : ConnectedTopic). t.id < s.id) P ts out apart.0 found in
        let differs : same_topic t.topic out.topic ≡ false = all-found (λ (s : ConnectedTopic). same_topic t.topic s.topic ≡ false) P ts out apart_all found in
        ap (λ b. id_of (cond (not b) (t ∷ topics_without ts out.id) (topics_without ts out.id)) q) (apart_back t.id out.id below)
        ∙ id_of-head t (topics_without ts out.id) q
        ∙ elim (same_topic q t.topic) as (λ b. same_topic q t.topic ≡ b → cond b (Some t.id) (id_of (topics_without ts out.id) q) ≡ cond (same_topic out.topic q) None (cond b (Some t.id) (id_of ts q))) [
          | true ↦ λ same. ap (λ b. cond b None (Some t.id)) (sym (ap (same_topic out.topic) (same_topic_is q t.topic same) ∙ same_topics.symm out.topic t.topic ∙ differs))
          | false ↦ λ e. rest
        ] refl
        ∙ ap (cond (same_topic out.topic q) None) (sym (id_of-head t ts q))

-- the topic that leaves is the one found
pub found-leaving : (found : Option ConnectedTopic) (topic : Topic) (id : ℕ) → Some (topic, id) ≡ option_map leaving found → (t : ConnectedTopic) × (found ≡ Some t) × (topic ≡ t.topic) × (id ≡ t.id)
found-leaving None topic id is = absurd (none-some (topic, id) (sym is))
found-leaving (Some t) topic id is =
    let parts = same_Some {A = Topic × ℕ} (topic, id) (t.topic, t.id) is in
    (t, refl, ap (λ (p : Topic × ℕ). p.0) parts, ap (λ (p : Topic × ℕ). p.1) parts)

-- one more topic
pub id_of-push : (ts : List ConnectedTopic) (t : ConnectedTopic) → id_of ts t.topic ≡ None → (q : Topic) → id_of (ts ++ t ∷ []) q ≡ cond (same_topic t.topic q) (Some t.id) (id_of ts q)
id_of-push ts t absent q = by ts (absent-none ts t.topic absent)
  where
    by : (ss : List ConnectedTopic) → AllByRecursion (λ (s : ConnectedTopic). same_topic t.topic s.topic ≡ false) ss → id_of (ss ++ t ∷ []) q ≡ cond (same_topic t.topic q) (Some t.id) (id_of ss q)
    by [] all = id_of-head t [] q ∙ ap (λ b. cond b (Some t.id) None) (same_topics.symm q t.topic)
    by (s ∷ ss) all =
        id_of-head s (ss ++ t ∷ []) q
        ∙ elim (same_topic q s.topic) as (λ b. same_topic q s.topic ≡ b → cond b (Some s.id) (id_of (ss ++ t ∷ []) q) ≡ cond (same_topic t.topic q) (Some t.id) (cond b (Some s.id) (id_of ss q))) [
          | true ↦ λ same. ap (λ b. cond b (Some t.id) (Some s.id)) (sym (ap (same_topic t.topic) (same_topic_is q s.topic same) ∙ all.0))
          | false ↦ λ e. by ss all.1
        ] refl
        ∙ ap (cond (same_topic t.topic q) (Some t.id)) (sym (id_of-head s ss q))

-- ids stay where a value changes
pub id_of-valued : (ts : List ConnectedTopic) (id : ℕ) (value : Value) (q : Topic) → id_of (topics_with_value ts id value) q ≡ id_of ts q
id_of-valued [] id value q = refl
id_of-valued (t ∷ ts) id value q =
    elim (nat_eq id t.id) as (λ b. id_of (cond b (record t { value = value }) t ∷ topics_with_value ts id value) q ≡ id_of (t ∷ ts) q) [
      | true ↦ id_of-head (record t { value = value }) (topics_with_value ts id value) q ∙ ap (cond (same_topic q t.topic) (Some t.id)) (id_of-valued ts id value q) ∙ sym (id_of-head t ts q)
      | false ↦ id_of-head t (topics_with_value ts id value) q ∙ ap (cond (same_topic q t.topic) (Some t.id)) (id_of-valued ts id value q) ∙ sym (id_of-head t ts q)
    ]
