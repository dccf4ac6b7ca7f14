-- What is seen by listeners that share one list of events.
use Rattle.std.proofs.Common.{◌≡◌, ℕ, ◌+◌, ◌≤◌, true, false, cond, ◌||◌, if◌then◌else◌, Option, None, Some, is_some, List, [], ◌∷◌, ◌++◌, length, drop, refl, ap, sym, subst, ◌∙◌, true≢false, arith}
use Rattle.std.proofs.lemmas.List.{drop-append-le, drop_all, length-append, map-append}
use Rattle.std.proofs.lemmas.Map.Keys.{IsDistinct-head, IsDistinct-tail}
use Rattle.std.proofs.lemmas.Option.{none-some, same_Some}
use Rattle.std.proofs.lemmas.Slice.Eq.{bytes_eq-Decides}
use Rattle.std.specs.List.{AllByRecursion, IsDistinct}
use Rattle.std.specs.Map.{keys_of, lookup, set_value}
use Rattle.std.specs.Str.{bytes_eq}
use Rattle.std.specs.String.{string_bytes, string_eq}
use Rattle.std.specs.declared.string.String.{String}
use Rattle.cell_values.specs.declared.events.Event.{Event}
use Rattle.calc_events.specs.Listening.{events_of, has_listener, listeners_after_fetch, listeners_with}
use Rattle.calc_events.specs.Seen.{AreSeen, is_key, listener_of, listeners_of}

module _ {Z : Type 0} (fired : List Event) (name : List ℕ) where
  -- a listener is there where its key is
  pub has-listener : (es : List (String Z × ℕ)) → has_listener (listeners_of fired es) name ≡ is_some (lookup (is_key name) es)
  has-listener [] = refl
  has-listener (e ∷ es) =
      elim (is_key name e.0) as (λ b. (b || has_listener (listeners_of fired es) name) ≡ is_some (cond b (Some e.1) (lookup (is_key name) es))) [
        | true ↦ refl
        | false ↦ has-listener es
      ]

  -- what is seen is within what was fired
  pub lookup-seen : (es : List (String Z × ℕ)) → AreSeen fired es → (n : ℕ) → lookup (is_key name) es ≡ Some n → n ≤ length fired
  lookup-seen [] all n h = absurd (none-some n h)
  lookup-seen (e ∷ es) all n h =
      elim (is_key name e.0) as (λ b. cond b (Some e.1) (lookup (is_key name) es) ≡ Some n → n ≤ length fired) [
        | true ↦ λ h. subst (λ k. k ≤ length fired) (same_Some e.1 n h) all.0
        | false ↦ λ h. lookup-seen es all.1 n h
      ] h

  -- the events that a listener hasn't seen
  pub events-lookup : (es : List (String Z × ℕ)) (n : ℕ) → lookup (is_key name) es ≡ Some n
      → drop n fired ≡ events_of (listeners_of fired es) name
  events-lookup [] n h = absurd (none-some n h)
  events-lookup (e ∷ es) n h =
      elim (is_key name e.0) as (λ b. cond b (Some e.1) (lookup (is_key name) es) ≡ Some n
      → drop n fired ≡ (if b then drop e.1 fired else events_of (listeners_of fired es) name)) [
        | true ↦ λ h. ap (λ k. drop k fired) (sym (same_Some e.1 n h))
        | false ↦ λ h. events-lookup es n h
      ] h

  -- nothing is fetched by who isn't there
  pub after-absent : (es : List (String Z × ℕ)) → lookup (is_key name) es ≡ None
      → listeners_after_fetch (listeners_of fired es) name ≡ listeners_of fired es
  after-absent [] h = refl
  after-absent (e ∷ es) h =
      elim (is_key name e.0) as (λ b. cond b (Some e.1) (lookup (is_key name) es) ≡ None
      → (if b then record { name = string_bytes e.0; events = [] } else listener_of fired e) ∷ listeners_after_fetch (listeners_of fired es) name
      ≡ listener_of fired e ∷ listeners_of fired es) [
        | true ↦ λ h. absurd (none-some e.1 (sym h))
        | false ↦ λ h. ap (λ ls. listener_of fired e ∷ ls) (after-absent es h)
      ] h

-- a key apart from all of some keys isn't among them
absent-apart : {Z : Type 0} (name : List ℕ) (es : List (String Z × ℕ)) → AllByRecursion (λ k. bytes_eq name (string_bytes k) ≡ false) (keys_of es)
    → lookup (is_key name) es ≡ None
absent-apart name [] all = refl
absent-apart name (e ∷ es) all = ap (λ b. cond b (Some e.1) (lookup (is_key name) es)) all.0 ∙ absent-apart name es all.1

module _ {Z : Type 0} (fired : List Event) (name : List ℕ) (n : ℕ) where
  -- who has seen all has no events left
  pub set-seen : (es : List (String Z × ℕ)) → IsDistinct string_eq (keys_of es) → length fired ≡ n
      → listeners_of fired (set_value (is_key name) es n) ≡ listeners_after_fetch (listeners_of fired es) name
  set-seen [] once all = refl
  set-seen (e ∷ es) once all =
      elim (is_key name e.0) as (λ b. is_key name e.0 ≡ b
      → listeners_of fired (cond b ((e.0, n) ∷ es) (e ∷ set_value (is_key name) es n))
      ≡ (if b then record { name = string_bytes e.0; events = [] } else listener_of fired e) ∷ listeners_after_fetch (listeners_of fired es) name) [
        | true ↦ λ h.
            let same : name ≡ string_bytes e.0 = (bytes_eq-Decides name (string_bytes e.0)).0 h in
            let apart = subst (λ bytes. AllByRecursion (λ k. bytes_eq bytes (string_bytes k) ≡ false) (keys_of es)) (sym same)
            (IsDistinct-head string_eq e.0 (keys_of es) once) in
            ap (λ events. (record { name = string_bytes e.0; events = events }) ∷ listeners_of fired es) (drop_all n fired (subst (λ k. length fired ≤ k) all (omega arith)))
            ∙ ap (λ ls. (record { name = string_bytes e.0; events = [] }) ∷ ls) (sym (after-absent fired name es (absent-apart name es apart)))
        | false ↦ λ h. ap (λ ls. listener_of fired e ∷ ls) (set-seen es (IsDistinct-tail string_eq e.0 (keys_of es) once) all)
      ] refl

  pub set-within : (es : List (String Z × ℕ)) → AreSeen fired es → n ≤ length fired → AreSeen fired (set_value (is_key name) es n)
  set-within [] all within = all
  set-within (e ∷ es) all within =
      elim (is_key name e.0) as (λ b. AreSeen fired (cond b ((e.0, n) ∷ es) (e ∷ set_value (is_key name) es n))) [
        | true ↦ (within, all.1)
        | false ↦ (all.0, set-within es all.1 within)
      ]

-- one more event is one more for each listener
module _ {Z : Type 0} (fired : List Event) (event : Event) where
  pub fire-listeners : (es : List (String Z × ℕ)) → AreSeen fired es
      → listeners_of (fired ++ event ∷ []) es ≡ listeners_with (listeners_of fired es) event
  fire-listeners [] all = refl
  fire-listeners (e ∷ es) all =
      ap (λ events. (record { name = string_bytes e.0; events = events }) ∷ listeners_of (fired ++ event ∷ []) es) (drop-append-le e.1 fired (event ∷ []) all.0)
      ∙ ap (λ ls. (record { name = string_bytes e.0; events = drop e.1 fired ++ event ∷ [] }) ∷ ls) (fire-listeners es all.1)

  pub fire-within : (es : List (String Z × ℕ)) → AreSeen fired es → AreSeen (fired ++ event ∷ []) es
  fire-within [] all = all
  fire-within (e ∷ es) all =
      let more : length (fired ++ event ∷ []) ≡ length fired + 1 = length-append fired (event ∷ []) in
      let first = all.0 in
      (subst (λ k. e.1 ≤ k) (sym more) (omega arith), fire-within es all.1)

-- one more listener
module _ {Z : Type 0} (fired : List Event) (n : ℕ) where
  pub add-listener : (es : List (String Z × ℕ)) (key : String Z) (name : List ℕ) → string_bytes key ≡ name
      → listeners_of fired (es ++ (key, n) ∷ []) ≡ listeners_of fired es ++ (record { name = name; events = drop n fired }) ∷ []
  add-listener es key name is =
      map-append (listener_of fired) es ((key, n) ∷ [])
      ∙ ap (λ bytes. listeners_of fired es ++ (record { name = bytes; events = drop n fired }) ∷ []) is

  pub add-within : (es : List (String Z × ℕ)) (key : String Z) → AreSeen fired es → n ≤ length fired → AreSeen fired (es ++ (key, n) ∷ [])
  add-within [] key all within = (within, all)
  add-within (e ∷ es) key all within = (all.0, add-within es key all.1 within)

-- a key isn't there where no listener has its bytes
pub absent-key : {Z : Type 0} (fired : List Event) (es : List (String Z × ℕ)) (key : String Z) (name : List ℕ) → string_bytes key ≡ name
    → has_listener (listeners_of fired es) name ≡ false → lookup (string_eq key) es ≡ None
absent-key fired es key name is absent =
    subst (λ bytes. lookup (is_key bytes) es ≡ None) (sym is) (gone (lookup (is_key name) es) (sym (has-listener fired name es) ∙ absent))
  where
    gone : (found : Option ℕ) → is_some found ≡ false → found ≡ None
    gone None h = refl
    gone (Some n) h = absurd (true≢false h)
