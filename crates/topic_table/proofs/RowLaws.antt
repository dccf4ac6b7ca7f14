-- The rows of the table: what stands under an id, and what a write, an append, an emptied place and a cleaning leave.
use Rattle.std.proofs.Common.{◌≡◌, ℕ, ◌+◌, ◌<◌, ◌≤◌, Bool, true, false, cond, not, ◌&&◌, ◌||◌, List, [], ◌∷◌, ◌++◌, Option, None, Some, is_some, map, length, take, get_or, refl, ap, sym, subst, ◌∙◌, true≢false, arith}
use Rattle.std.specs.Prelude.{IsSome, OnErr, OnOk, Result, Ok, Err, nat_eq}
use Rattle.std.specs.Cmp.{nat_eq_equiv}
use Rattle.std.specs.List.{list_any}
use Rattle.std.specs.Map.{lookup, set_value}
use Rattle.std.specs.Option.{option_map, option_map_or}
use Rattle.std.proofs.lemmas.Bool.{eqb-true}
use Rattle.std.proofs.lemmas.List.{map-append}
use Rattle.std.proofs.lemmas.List.Folds.{list_any_more}
use Rattle.std.proofs.lemmas.Map.{lookup-set_value}
use Rattle.std.proofs.lemmas.Map.Made.{lookup-map_values}
use Rattle.std.proofs.lemmas.Option.{none-some, same_Some}
use Rattle.cell_refs.specs.declared.grid.Cell.{Cell}
use Rattle.cell_refs.specs.Cell.{is_among, same_cell}
use Rattle.cell_values.specs.declared.topics.Topic.{Topic}
use Rattle.cell_values.specs.declared.values.Value.{Value}
use Rattle.cell_values.specs.SameValue.{same_value}
use Rattle.cell_values.specs.Topic.{same_topic}
use Rattle.topic_table.specs.declared.places.Row.{Row}
use Rattle.topic_table.specs.Rows.{EachPlace, IsOnce, IsRising, bare, connected, is_other_in, kept_in, live, live_entry, readings_in, row_at, running_in, table_of, with_value}
use Rattle.topic_table.specs.Table.{ConnectedTopic, Readings, has_other_value, has_read, has_reader, readers_of, running_of, topic_at, topics_with_value}

-- a place, where there is one
abbrev pub place_of : Option (Option Row) → Option Row
place_of found = option_map_or (λ (place : Option Row). place) found None

-- a number isn't below itself
no_loop : (a b : ℕ) → a ≡ b → a < b → ⊥
no_loop a b same below = omega arith

-- no id up to the bound stands there
pub rising-below : (es : List (ℕ × Option Row)) (low high : ℕ) → IsRising low es high → (q : ℕ) → q ≤ low → lookup (nat_eq q) es ≡ None
rising-below [] low high rising q below = refl
rising-below (e ∷ es) low high rising q below =
    elim (nat_eq q e.0) as (λ b. nat_eq q e.0 ≡ b → cond b (Some e.1) (lookup (nat_eq q) es) ≡ None) [
      | true ↦ λ same. absurd (no_loop q e.0 (eqb-true q e.0 same) (omega (arith, rising.0)))
      | false ↦ λ apart. rising-below es e.0 high rising.1 q (omega (arith, rising.0))
    ] refl

rising-least : (es : List (ℕ × Option Row)) (low high : ℕ) → IsRising low es high → low ≤ high
rising-least [] low high rising = rising
rising-least (e ∷ es) low high rising = omega (arith, rising.0, rising-least es e.0 high rising.1)

-- no id beyond the second bound stands there
pub rising-beyond : (es : List (ℕ × Option Row)) (low high : ℕ) → IsRising low es high → (q : ℕ) → high < q → lookup (nat_eq q) es ≡ None
rising-beyond [] low high rising q beyond = refl
rising-beyond (e ∷ es) low high rising q beyond =
    let within = rising-least es e.0 high rising.1 in
    elim (nat_eq q e.0) as (λ b. nat_eq q e.0 ≡ b → cond b (Some e.1) (lookup (nat_eq q) es) ≡ None) [
      | true ↦ λ same. absurd (no_loop e.0 q (sym (eqb-true q e.0 same)) (omega (arith, within, beyond)))
      | false ↦ λ apart. rising-beyond es e.0 high rising.1 q beyond
    ] refl

-- the row of an id is the one that isn't empty
lookup-live : (es : List (ℕ × Option Row)) (low high : ℕ) → IsRising low es high → (q : ℕ) → lookup (nat_eq q) (live es) ≡ row_at es q
lookup-live [] low high rising q = refl
lookup-live (e ∷ es) low high rising q = by (lookup-live es e.0 high rising.1 q) e.1
  where
    by : lookup (nat_eq q) (live es) ≡ row_at es q → (place : Option Row) → lookup (nat_eq q) (live_entry e.0 place ++ live es) ≡ place_of (cond (nat_eq q e.0) (Some place) (lookup (nat_eq q) es))
    by rest None = elim (nat_eq q e.0) as (λ b. nat_eq q e.0 ≡ b → lookup (nat_eq q) (live es) ≡ place_of (cond b (Some None) (lookup (nat_eq q) es))) [
      | true ↦ λ same. rest ∙ ap place_of (rising-below es e.0 high rising.1 q (subst (λ n. n ≤ e.0) (sym (eqb-true q e.0 same)) (omega arith)))
      | false ↦ λ apart. rest
    ] refl
    by rest (Some row) = elim (nat_eq q e.0) as (λ b. cond b (Some row) (lookup (nat_eq q) (live es)) ≡ place_of (cond b (Some (Some row)) (lookup (nat_eq q) es))) [
      | true ↦ refl
      | false ↦ rest
    ]

-- the readers under an id are those of its row
module _ (es : List (ℕ × Option Row)) (high greatest room : ℕ) (rising : IsRising 0 es high) (q : ℕ) where
  readings-at : lookup (nat_eq q) (map readings_in (live es)) ≡ option_map (λ (row : Row). row.readers) (row_at es q)
  readings-at = lookup-map_values (λ (row : Row). row.readers) (nat_eq q) (live es) ∙ ap (option_map (λ (row : Row). row.readers)) (lookup-live es 0 high rising q)

  pub readers-at : readers_of (table_of es greatest room) q ≡ kept_in (row_at es q)
  readers-at = ap (λ found. option_map_or (λ (r : Readings). r.kept) found []) readings-at ∙ by (row_at es q)
    where
      by : (place : Option Row) → option_map_or (λ (r : Readings). r.kept) (option_map (λ (row : Row). row.readers) place) [] ≡ kept_in place
      by None = refl
      by (Some row) = refl

  pub running-at : running_of (table_of es greatest room) q ≡ running_in (row_at es q)
  running-at = ap (λ found. option_map_or (λ (r : Readings). r.running) found []) readings-at ∙ by (row_at es q)
    where
      by : (place : Option Row) → option_map_or (λ (r : Readings). r.running) (option_map (λ (row : Row). row.readers) place) [] ≡ running_in place
      by None = refl
      by (Some row) = refl

-- the topic under an id is that of its row
abbrev pub connected_at : ℕ → Option Row → Option ConnectedTopic
connected_at id place = option_map (λ (row : Row). connected (id, row)) place

topic-found : (rs : List (ℕ × Row)) (q : ℕ) → topic_at (map connected rs) q ≡ connected_at q (lookup (nat_eq q) rs)
topic-found [] q = refl
topic-found (r ∷ rs) q =
    elim (nat_eq q r.0) as (λ b. nat_eq q r.0 ≡ b → cond b (Some (connected r)) (topic_at (map connected rs) q) ≡ connected_at q (cond b (Some r.1) (lookup (nat_eq q) rs))) [
      | true ↦ λ same. ap (λ id. Some (connected (id, r.1))) (sym (eqb-true q r.0 same))
      | false ↦ λ apart. topic-found rs q
    ] refl

pub topic-at : (es : List (ℕ × Option Row)) (high : ℕ) → IsRising 0 es high → (q : ℕ) → topic_at (map connected (live es)) q ≡ connected_at q (row_at es q)
topic-at es high rising q = topic-found (live es) q ∙ ap (connected_at q) (lookup-live es 0 high rising q)

-- places whose rows are the same but for readers show the same topic
connected-bare : (id : ℕ) (new old : Option Row) (es : List (ℕ × Row)) → bare new ≡ bare old → map connected (live_entry id new ++ es) ≡ map connected (live_entry id old ++ es)
connected-bare id None None es same = refl
connected-bare id None (Some row) es same = absurd (none-some (row.topic, row.value, row.round) same)
connected-bare id (Some row) None es same = absurd (none-some (row.topic, row.value, row.round) (sym same))
connected-bare id (Some new) (Some old) es same =
    let parts = same_Some {A = Topic × Value × ℕ} (new.topic, new.value, new.round) (old.topic, old.value, old.round) same in
    ap (λ (p : Topic × Value × ℕ). record { id = id; topic = p.0; value = p.1; round = p.2 } ∷ map connected es) parts

-- one place is written
module _ (id : ℕ) (old new : Option Row) where
  pub rising-set : (es : List (ℕ × Option Row)) (low high : ℕ) → IsRising low es high → IsRising low (set_value (nat_eq id) es new) high
  rising-set [] low high rising = rising
  rising-set (e ∷ es) low high rising =
      elim (nat_eq id e.0) as (λ b. IsRising low (cond b ((e.0, new) ∷ es) (e ∷ set_value (nat_eq id) es new)) high) [
        | true ↦ rising
        | false ↦ (rising.0, rising-set es e.0 high rising.1)
      ]

  pub connected-set : (es : List (ℕ × Option Row)) → Some old ≡ lookup (nat_eq id) es → bare new ≡ bare old → map connected (live (set_value (nat_eq id) es new)) ≡ map connected (live es)
  connected-set [] there same = refl
  connected-set (e ∷ es) there same =
      elim (nat_eq id e.0) as (λ b. Some old ≡ cond b (Some e.1) (lookup (nat_eq id) es)
      → map connected (live (cond b ((e.0, new) ∷ es) (e ∷ set_value (nat_eq id) es new))) ≡ map connected (live_entry e.0 e.1 ++ live es)) [
        | true ↦ λ there. connected-bare e.0 new e.1 (live es) (same ∙ ap bare (same_Some old e.1 there))
        | false ↦ λ there.
            map-append connected (live_entry e.0 e.1) (live (set_value (nat_eq id) es new))
            ∙ ap (λ l. map connected (live_entry e.0 e.1) ++ l) (connected-set es there same)
            ∙ sym (map-append connected (live_entry e.0 e.1) (live es))
      ] there

  is_there : (found : Option (Option Row)) → Some old ≡ found → IsSome found
  is_there None e = absurd (none-some old (sym e))
  is_there (Some place) e = refl

  pub row-set : (es : List (ℕ × Option Row)) → Some old ≡ lookup (nat_eq id) es → (q : ℕ) → row_at (set_value (nat_eq id) es new) q ≡ cond (nat_eq id q) new (row_at es q)
  row-set es there q =
      ap place_of (lookup-set_value nat_eq_equiv (nat_eq id) (λ x y same. ap (λ n. nat_eq n y) (eqb-true id x same)) q new es (is_there (lookup (nat_eq id) es) there))
      ∙ by (nat_eq id q)
    where
      by : (b : Bool) → place_of (cond b (Some new) (lookup (nat_eq q) es)) ≡ cond b new (row_at es q)
      by true = refl
      by false = refl

  row-there : (es : List (ℕ × Option Row)) → Some old ≡ lookup (nat_eq id) es → row_at es id ≡ old
  row-there es there = ap place_of (sym there)

module _ (es : List (ℕ × Option Row)) (high : ℕ) (rising : IsRising 0 es high) (id : ℕ) (old new : Option Row) (there : Some old ≡ lookup (nat_eq id) es)
    (greatest room greatest' room' : ℕ) (cell : Cell) (q : ℕ) where
  after : List (ℕ × Option Row)
  after = set_value (nat_eq id) es new

  -- the readers of a topic, where one place was written
  pub reader-set : has_reader (table_of (set_value (nat_eq id) es new) greatest' room') q cell ≡ cond (nat_eq id q) (is_among (kept_in new) cell) (has_reader (table_of es greatest room) q cell)
  reader-set =
      ap (λ l. is_among l cell) (readers-at (set_value (nat_eq id) es new) high greatest' room' (rising-set id old new es 0 high rising) q)
      ∙ ap (λ place. is_among (kept_in place) cell) (row-set id old new es there q)
      ∙ by (nat_eq id q)
      ∙ ap (λ l. cond (nat_eq id q) (is_among (kept_in new) cell) (is_among l cell)) (sym (readers-at es high greatest room rising q))
    where
      by : (b : Bool) → is_among (kept_in (cond b new (row_at es q))) cell ≡ cond b (is_among (kept_in new) cell) (is_among (kept_in (row_at es q)) cell)
      by true = refl
      by false = refl

  pub read-set : has_read (table_of (set_value (nat_eq id) es new) greatest' room') q cell ≡ cond (nat_eq id q) (is_among (running_in new) cell) (has_read (table_of es greatest room) q cell)
  read-set =
      ap (λ l. is_among l cell) (running-at (set_value (nat_eq id) es new) high greatest' room' (rising-set id old new es 0 high rising) q)
      ∙ ap (λ place. is_among (running_in place) cell) (row-set id old new es there q)
      ∙ by (nat_eq id q)
      ∙ ap (λ l. cond (nat_eq id q) (is_among (running_in new) cell) (is_among l cell)) (sym (running-at es high greatest room rising q))
    where
      by : (b : Bool) → is_among (running_in (cond b new (row_at es q))) cell ≡ cond b (is_among (running_in new) cell) (is_among (running_in (row_at es q)) cell)
      by true = refl
      by false = refl

  -- readers that are the same as before
  pub reader-kept : is_among (kept_in new) cell ≡ is_among (kept_in old) cell → has_reader (table_of (set_value (nat_eq id) es new) greatest' room') q cell ≡ has_reader (table_of es greatest room) q cell
  reader-kept same =
      reader-set ∙ elim (nat_eq id q) as (λ b. nat_eq id q ≡ b → cond b (is_among (kept_in new) cell) (has_reader (table_of es greatest room) q cell) ≡ has_reader (table_of es greatest room) q cell) [
        | true ↦ λ at. same ∙ ap (λ place. is_among (kept_in place) cell) (sym (row-there id old new es there) ∙ ap (row_at es) (eqb-true id q at))
            ∙ ap (λ l. is_among l cell) (sym (readers-at es high greatest room rising q))
        | false ↦ λ apart. refl
      ] refl

  -- what a topic's readers in the running round become
  pub read-made : (f : Bool → Bool) → is_among (running_in new) cell ≡ f (is_among (running_in old) cell)
      → has_read (table_of (set_value (nat_eq id) es new) greatest' room') q cell ≡ cond (nat_eq id q) (f (has_read (table_of es greatest room) q cell)) (has_read (table_of es greatest room) q cell)
  read-made f made =
      read-set ∙ elim (nat_eq id q) as (λ b. nat_eq id q ≡ b → cond b (is_among (running_in new) cell) (has_read (table_of es greatest room) q cell) ≡ cond b (f (has_read (table_of es greatest room) q cell)) (has_read (table_of es greatest room) q cell)) [
        | true ↦ λ at. made ∙ ap (λ place. f (is_among (running_in place) cell)) (sym (row-there id old new es there) ∙ ap (row_at es) (eqb-true id q at))
            ∙ ap (λ l. f (is_among l cell)) (sym (running-at es high greatest room rising q))
        | false ↦ λ apart. refl
      ] refl

-- each place became what it may become
module _ (R : Option Row → Option Row → Type 0) where
  pub rising-each : (es fs : List (ℕ × Option Row)) (low high : ℕ) → EachPlace R es fs → IsRising low es high → IsRising low fs high
  rising-each [] [] low high each rising = rising
  rising-each [] (f ∷ fs) low high each rising = absurd each
  rising-each (e ∷ es) [] low high each rising = absurd each
  rising-each (e ∷ es) (f ∷ fs) low high each rising =
      (subst (λ n. low < n) (sym each.0) rising.0, rising-each es fs f.0 high each.2 (subst (λ n. IsRising n es high) (sym each.0) rising.1))

  pub connected-each : ((old new : Option Row) → R old new → bare new ≡ bare old) → (es fs : List (ℕ × Option Row)) → EachPlace R es fs → map connected (live fs) ≡ map connected (live es)
  connected-each keeps [] [] each = refl
  connected-each keeps [] (f ∷ fs) each = absurd each
  connected-each keeps (e ∷ es) [] each = absurd each
  connected-each keeps (e ∷ es) (f ∷ fs) each =
      connected-bare f.0 f.1 e.1 (live fs) (keeps e.1 f.1 each.1)
      ∙ ap (λ id. map connected (live_entry id e.1 ++ live fs)) each.0
      ∙ map-append connected (live_entry e.0 e.1) (live fs)
      ∙ ap (λ l. map connected (live_entry e.0 e.1) ++ l) (connected-each keeps es fs each.2)
      ∙ sym (map-append connected (live_entry e.0 e.1) (live es))

  row-each : (P : Option Row → Option Row → Type 0) → P None None → ((old new : Option Row) → R old new → P old new) → (es fs : List (ℕ × Option Row)) → EachPlace R es fs → (q : ℕ) → P (row_at es q) (row_at fs q)
  row-each P none gives [] [] each q = none
  row-each P none gives [] (f ∷ fs) each q = absurd each
  row-each P none gives (e ∷ es) [] each q = absurd each
  row-each P none gives (e ∷ es) (f ∷ fs) each q =
      subst (λ id. P (place_of (cond (nat_eq q e.0) (Some e.1) (lookup (nat_eq q) es))) (place_of (cond (nat_eq q id) (Some f.1) (lookup (nat_eq q) fs)))) (sym each.0)
      (elim (nat_eq q e.0) as (λ b. P (place_of (cond b (Some e.1) (lookup (nat_eq q) es))) (place_of (cond b (Some f.1) (lookup (nat_eq q) fs)))) [
        | true ↦ gives e.1 f.1 each.1
        | false ↦ row-each P none gives es fs each.2 q
      ])

-- each row's readers became what they may become
module _ (R : Option Row → Option Row → Type 0) (es fs : List (ℕ × Option Row)) (high : ℕ) (rising : IsRising 0 es high) (each : EachPlace R es fs)
    (greatest room greatest' room' : ℕ) (cell : Cell) (q : ℕ) where
  pub reader-each : (f : Option Row → Bool) → f None ≡ false → ((old new : Option Row) → R old new → is_among (kept_in new) cell ≡ f old)
      → has_reader (table_of fs greatest' room') q cell ≡ f (row_at es q)
  reader-each f none gives =
      ap (λ l. is_among l cell) (readers-at fs high greatest' room' (rising-each R es fs 0 high each rising) q)
      ∙ row-each R (λ old new. is_among (kept_in new) cell ≡ f old) (sym none) gives es fs each q

  pub read-each : (f : Option Row → Bool) → f None ≡ false → ((old new : Option Row) → R old new → is_among (running_in new) cell ≡ f old)
      → has_read (table_of fs greatest' room') q cell ≡ f (row_at es q)
  read-each f none gives =
      ap (λ l. is_among l cell) (running-at fs high greatest' room' (rising-each R es fs 0 high each rising) q)
      ∙ row-each R (λ old new. is_among (running_in new) cell ≡ f old) (sym none) gives es fs each q

-- an id that isn't there has no row
pub row-absent : (es : List (ℕ × Option Row)) (id : ℕ) → lookup (nat_eq id) es ≡ None → row_at es id ≡ None
row-absent es id absent = ap place_of absent

pub row-is : (es : List (ℕ × Option Row)) (id : ℕ) (old : Option Row) → Some old ≡ lookup (nat_eq id) es → row_at es id ≡ old
row-is es id old there = ap place_of (sym there)

is_some-connected : (id : ℕ) (place : Option Row) → is_some (connected_at id place) ≡ is_some place
is_some-connected id None = refl
is_some-connected id (Some row) = refl

-- a topic is there where its row is
pub some-topic : (es : List (ℕ × Option Row)) (high : ℕ) → IsRising 0 es high → (id : ℕ) → is_some (topic_at (map connected (live es)) id) ≡ is_some (row_at es id)
some-topic es high rising id = ap is_some (topic-at es high rising id) ∙ is_some-connected id (row_at es id)

-- nothing is forgotten of a topic that isn't there
pub forget-nothing : (x b s : Bool) → (b ≡ true → x ≡ false) → x ≡ (x && not (b && s))
forget-nothing true true s h = absurd (true≢false (h refl))
forget-nothing true false s h = refl
forget-nothing false b s h = refl

pub chosen-and : (b x s : Bool) → cond b (x && not s) x ≡ (x && not (b && s))
chosen-and true x s = refl
chosen-and false true s = refl
chosen-and false false s = refl

pub chosen-or : (b x s : Bool) → cond b (s || x) x ≡ ((b && s) || x)
chosen-or true x s = refl
chosen-or false x s = refl

pub read-absent : (es : List (ℕ × Option Row)) (high : ℕ) → IsRising 0 es high → (id : ℕ) (cell : Cell) → lookup (nat_eq id) es ≡ None → (q : ℕ) → nat_eq id q ≡ true
    → has_read (table_of es 0 0) q cell ≡ false
read-absent es high rising id cell absent q same =
    ap (λ l. is_among l cell) (running-at es high 0 0 rising q)
    ∙ ap (λ place. is_among (running_in place) cell) (ap (row_at es) (sym (eqb-true id q same)) ∙ row-absent es id absent)

-- a topic that isn't there gets no value
pub none-valued : (ts : List ConnectedTopic) (id : ℕ) (value : Value) → topic_at ts id ≡ None → topics_with_value ts id value ≡ ts
none-valued [] id value none = refl
none-valued (t ∷ ts) id value none =
    elim (nat_eq id t.id) as (λ b. cond b (Some t) (topic_at ts id) ≡ None → (cond b (record t { value = value }) t) ∷ topics_with_value ts id value ≡ t ∷ ts) [
      | true ↦ λ none. absurd (none-some t (sym none))
      | false ↦ λ none. ap {B = List ConnectedTopic} (λ l. t ∷ l) (none-valued ts id value none)
    ] none

above-valued : (es : List (ℕ × Option Row)) (low high : ℕ) → IsRising low es high → (id : ℕ) (value : Value) → id ≤ low → topics_with_value (map connected (live es)) id value ≡ map connected (live es)
above-valued es low high rising id value below =
    none-valued (map connected (live es)) id value
    (topic-found (live es) id ∙ ap (connected_at id) (lookup-live es low high rising id ∙ ap place_of (rising-below es low high rising id below)))

-- a topic that is there gets a value
pub connected-take : (es : List (ℕ × Option Row)) (low high : ℕ) → IsRising low es high → (id : ℕ) (old : Option Row) (value : Value) → Some old ≡ lookup (nat_eq id) es
    → map connected (live (set_value (nat_eq id) es (with_value old value))) ≡ topics_with_value (map connected (live es)) id value
connected-take [] low high rising id old value there = refl
connected-take (e ∷ es) low high rising id old value there =
    elim (nat_eq id e.0) as (λ b. nat_eq id e.0 ≡ b → Some old ≡ cond b (Some e.1) (lookup (nat_eq id) es)
    → map connected (live (cond b ((e.0, with_value old value) ∷ es) (e ∷ set_value (nat_eq id) es (with_value old value)))) ≡ topics_with_value (map connected (live_entry e.0 e.1 ++ live es)) id value) [
      | true ↦ λ same there.
          first old same (above-valued es e.0 high rising.1 id value (subst (λ n. n ≤ e.0) (sym (eqb-true id e.0 same)) (omega arith)))
          ∙ ap (λ place. topics_with_value (map connected (live_entry e.0 place ++ live es)) id value) (same_Some old e.1 there)
      | false ↦ λ apart there. other e.1 apart (connected-take es e.0 high rising.1 id old value there)
    ] refl there
  where
    first : (place : Option Row) → nat_eq id e.0 ≡ true → topics_with_value (map connected (live es)) id value ≡ map connected (live es)
        → map connected (live_entry e.0 (with_value place value) ++ live es) ≡ topics_with_value (map connected (live_entry e.0 place ++ live es)) id value
    first None same rest = sym rest
    first (Some row) same rest =
        ap {B = List ConnectedTopic} (λ l. connected (e.0, record row { value = value }) ∷ l) (sym rest)
        ∙ ap (λ b. cond b (record (connected (e.0, row)) { value = value }) (connected (e.0, row)) ∷ topics_with_value (map connected (live es)) id value) (sym same)

    other : (place : Option Row) → nat_eq id e.0 ≡ false → map connected (live (set_value (nat_eq id) es (with_value old value))) ≡ topics_with_value (map connected (live es)) id value
        → map connected (live_entry e.0 place ++ live (set_value (nat_eq id) es (with_value old value))) ≡ topics_with_value (map connected (live_entry e.0 place ++ live es)) id value
    other None apart rest = rest
    other (Some row) apart rest =
        ap {B = List ConnectedTopic} (λ l. connected (e.0, row) ∷ l) rest
        ∙ ap (λ b. cond b (record (connected (e.0, row)) { value = value }) (connected (e.0, row)) ∷ topics_with_value (map connected (live es)) id value) (sym apart)

-- and its readers stay
pub readings-take : (es : List (ℕ × Option Row)) (id : ℕ) (old : Option Row) (value : Value) → Some old ≡ lookup (nat_eq id) es
    → map readings_in (live (set_value (nat_eq id) es (with_value old value))) ≡ map readings_in (live es)
readings-take [] id old value there = refl
readings-take (e ∷ es) id old value there =
    elim (nat_eq id e.0) as (λ b. Some old ≡ cond b (Some e.1) (lookup (nat_eq id) es)
    → map readings_in (live (cond b ((e.0, with_value old value) ∷ es) (e ∷ set_value (nat_eq id) es (with_value old value)))) ≡ map readings_in (live_entry e.0 e.1 ++ live es)) [
      | true ↦ λ there. first old ∙ ap (λ place. map readings_in (live_entry e.0 place ++ live es)) (same_Some old e.1 there)
      | false ↦ λ there.
          map-append readings_in (live_entry e.0 e.1) (live (set_value (nat_eq id) es (with_value old value)))
          ∙ ap (λ l. map readings_in (live_entry e.0 e.1) ++ l) (readings-take es id old value there)
          ∙ sym (map-append readings_in (live_entry e.0 e.1) (live es))
    ] there
  where
    first : (place : Option Row) → map readings_in (live_entry e.0 (with_value place value) ++ live es) ≡ map readings_in (live_entry e.0 place ++ live es)
    first None = refl
    first (Some row) = refl

-- whether a topic that is there gets another value
pub other-value : (es : List (ℕ × Option Row)) (high : ℕ) → IsRising 0 es high → (id : ℕ) (value : Value) → has_other_value (map connected (live es)) id value ≡ is_other_in (row_at es id) value
other-value es high rising id value =
    ap (λ found. option_map_or (λ (t : ConnectedTopic). not (same_value t.value value)) found false) (topic-at es high rising id) ∙ by (row_at es id)
  where
    by : (place : Option Row) → option_map_or (λ (t : ConnectedTopic). not (same_value t.value value)) (connected_at id place) false ≡ is_other_in place value
    by None = refl
    by (Some row) = refl

-- topics stand once whatever their values
pub once-valued : (ts : List ConnectedTopic) (id : ℕ) (value : Value) → IsOnce ts → IsOnce (topics_with_value ts id value)
once-valued [] id value once = once
once-valued (t ∷ ts) id value once =
    elim (nat_eq id t.id) as (λ b. IsOnce ((cond b (record t { value = value }) t) ∷ topics_with_value ts id value)) [
      | true ↦ (none t.topic ts once.0, once-valued ts id value once.1)
      | false ↦ (none t.topic ts once.0, once-valued ts id value once.1)
    ]
  where
    none : (topic : Topic) (ss : List ConnectedTopic) → list_any (λ (s : ConnectedTopic). same_topic topic s.topic) ss ≡ false → list_any (λ (s : ConnectedTopic). same_topic topic s.topic) (topics_with_value ss id value) ≡ false
    none topic [] h = refl
    none topic (s ∷ ss) h =
        elim (nat_eq id s.id) as (λ b. (same_topic topic (cond b (record s { value = value }) s).topic || list_any (λ (s : ConnectedTopic). same_topic topic s.topic) (topics_with_value ss id value)) ≡ false) [
          | true ↦ more (same_topic topic s.topic) ss h (none topic ss)
          | false ↦ more (same_topic topic s.topic) ss h (none topic ss)
        ]
      where
        more : (a : Bool) (rs : List ConnectedTopic) → (a || list_any (λ (s : ConnectedTopic). same_topic topic s.topic) rs) ≡ false
            → (list_any (λ (s : ConnectedTopic). same_topic topic s.topic) rs ≡ false → list_any (λ (s : ConnectedTopic). same_topic topic s.topic) (topics_with_value rs id value) ≡ false)
            → (a || list_any (λ (s : ConnectedTopic). same_topic topic s.topic) (topics_with_value rs id value)) ≡ false
        more true rs h rest = absurd (true≢false h)
        more false rs h rest = rest h

-- what follows from what holds with Ok, or with Err
pub ok_gives : {T E : Type 0} {P Q : Type 0} (r : Result T E) → (P → Q) → OnOk r P → OnOk r Q
ok_gives (Ok x) f h = f h
ok_gives (Err e) f h = h

pub err_gives : {T E : Type 0} {P Q : Type 0} (r : Result T E) → (P → Q) → OnErr r P → OnErr r Q
err_gives (Ok x) f h = h
err_gives (Err e) f h = f h

pub topic-of : (id : ℕ) (place : Option Row) → option_map (λ (row : Row). row.topic) place ≡ option_map (λ (t : ConnectedTopic). t.topic) (connected_at id place)
topic-of id None = refl
topic-of id (Some row) = refl

pub value-of : (id : ℕ) (place : Option Row) → option_map (λ (row : Row). row.value) place ≡ option_map (λ (t : ConnectedTopic). t.value) (connected_at id place)
value-of id None = refl
value-of id (Some row) = refl

-- what is forgotten one after the other
pub forget-both : (x a b s : Bool) → ((x && not (a && s)) && not (b && s)) ≡ (x && not ((a || b) && s))
forget-both true true true true = refl
forget-both true true true false = refl
forget-both true true false true = refl
forget-both true true false false = refl
forget-both true false b s = refl
forget-both false a b s = refl

pub forget-next : (x a b : Bool) → ((x && not a) && not b) ≡ (x && not (a || b))
forget-next true true b = refl
forget-next true false b = refl
forget-next false a b = refl

-- one more cell is forgotten
pub forget-step : (cells : List Cell) (i : ℕ) (q d : Cell) (new mid x : Bool) → i < length cells → new ≡ (mid && not (same_cell q (get_or cells i d))) → mid ≡ (x && not (is_among (take i cells) q))
    → new ≡ (x && not (is_among (take (i + 1) cells) q))
forget-step cells i q d new mid x within made before =
    made ∙ ap (λ b. b && not (same_cell q (get_or cells i d))) before
    ∙ forget-next x (is_among (take i cells) q) (same_cell q (get_or cells i d))
    ∙ ap (λ b. x && not b) (sym (list_any_more (same_cell q) cells i d within))
