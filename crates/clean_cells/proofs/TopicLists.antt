-- Lists of topics, and of topics with values: what is found in them, and that they differ.
use Rattle.std.proofs.Common.{◌≡◌, Bool, true, false, not, ◌&&◌, ◌||◌, cond, List, [], ◌∷◌, ◌++◌, map, Option, Some, None, refl, ap, sym, subst, ◌∙◌}
use Rattle.std.specs.Cmp.Lexicographic.{pointwise}
use Rattle.std.specs.List.{AllByRecursion, IsDistinct, filter, flat_map, list_any}
use Rattle.std.specs.Map.{keys_of, lookup}
use Rattle.std.specs.Option.{option_map_or, option_or}
use Rattle.std.specs.Str.{bytes_eq}
use Rattle.std.proofs.lemmas.List.Folds.{list_any-append}
use Rattle.std.proofs.lemmas.Map.Keys.{IsDistinct-head, IsDistinct-tail, IsDistinct-cons}
use Rattle.std.proofs.lemmas.Map.Views.{any-filter_same}
use Rattle.std.proofs.lemmas.Bool.{and_parts}
use Rattle.std.proofs.lemmas.Slice.Eq.{bytes_eq-Decides, slice_eq-Decides}
use Rattle.cell_values.specs.declared.topics.Topic.{Topic}
use Rattle.cell_values.specs.Topic.{same_topic}
use Rattle.cell_values.proofs.PublicLaws.{same_topics}
use Rattle.workbook.specs.Reads.{is_listed}
use Rattle.workbook.specs.Step.{topics_once}

-- ---- topics that are one
pub same_topic_is : (a b : Topic) → same_topic a b ≡ true → a ≡ b
same_topic_is a b h =
    let both = and_parts (bytes_eq a.server b.server) (pointwise bytes_eq a.strings b.strings) h in
    let server : a.server ≡ b.server = (bytes_eq-Decides a.server b.server).0 both.0 in
    let strings : a.strings ≡ b.strings = (slice_eq-Decides bytes_eq-Decides a.strings b.strings (pointwise bytes_eq a.strings b.strings) refl).0 both.1 in
    λ i. record { server = server i; strings = strings i }

-- ---- what is listed
-- what passes of a list
pub listed-filter : (p : Topic → Bool) (topics : List Topic) (t : Topic) → is_listed (filter p topics) t ≡ (p t && is_listed topics t)
listed-filter p topics t = any-filter_same (same_topic t) p (p t) (λ u is. ap p (sym (same_topic_is t u is))) topics

-- what is listed in one of several lists
pub listed-flat_map : {X : Type 0} (f : X → List Topic) (xs : List X) (t : Topic) → is_listed (flat_map f xs) t ≡ list_any (λ x. is_listed (f x) t) xs
listed-flat_map f [] t = refl
listed-flat_map f (x ∷ xs) t = list_any-append (same_topic t) (f x) (flat_map f xs) ∙ ap (λ b. is_listed (f x) t || b) (listed-flat_map f xs t)

-- each topic that is listed is listed once
pub listed-topics_once : (topics : List Topic) (t : Topic) → is_listed (topics_once topics) t ≡ is_listed topics t
listed-topics_once [] t = refl
listed-topics_once (u ∷ topics) t =
    ap (λ b. same_topic t u || b) (listed-filter (λ other. not (same_topic u other)) (topics_once topics) t ∙ ap (λ b. not (same_topic u t) && b) (listed-topics_once topics t))
    ∙ absorbed (same_topic t u) (is_listed topics t) (same_topic u t) (same_topics.symm u t)
  where
    absorbed : (a b c : Bool) → c ≡ a → (a || (not c && b)) ≡ (a || b)
    absorbed true b c e = refl
    absorbed false b c e = ap (λ d. not d && b) e

all_where : (P : Topic → Type 0) (p : Topic → Bool) → ((u : Topic) → p u ≡ true → P u) → (topics : List Topic) → AllByRecursion P (filter p topics)
all_where P p leads [] = tt
all_where P p leads (u ∷ topics) = elim (p u) as (λ b. p u ≡ b → AllByRecursion P (cond b (u ∷ filter p topics) (filter p topics))) [
  | true ↦ λ e. (leads u e, all_where P p leads topics)
  | false ↦ λ e. all_where P p leads topics
] refl

all_kept : (P : Topic → Type 0) (p : Topic → Bool) (topics : List Topic) → AllByRecursion P topics → AllByRecursion P (filter p topics)
all_kept P p [] each = tt
all_kept P p (u ∷ topics) each = elim (p u) as (λ b. AllByRecursion P (cond b (u ∷ filter p topics) (filter p topics))) [
  | true ↦ (each.0, all_kept P p topics each.1)
  | false ↦ all_kept P p topics each.1
]

-- what passes of topics that differ differs
pub distinct-filter : (p : Topic → Bool) (topics : List Topic) → IsDistinct same_topic topics → IsDistinct same_topic (filter p topics)
distinct-filter p [] d = d
distinct-filter p (u ∷ topics) d =
    let rest = distinct-filter p topics (IsDistinct-tail same_topic u topics d) in
    elim (p u) as (λ b. IsDistinct same_topic (cond b (u ∷ filter p topics) (filter p topics))) [
      | true ↦ IsDistinct-cons same_topic u (filter p topics) (all_kept (λ y. same_topic u y ≡ false) p topics (IsDistinct-head same_topic u topics d)) rest
      | false ↦ rest
    ]

-- no topics differ
pub none_distinct : IsDistinct same_topic []
unfolding IsDistinct
none_distinct = search

pub distinct-topics_once : (topics : List Topic) → IsDistinct same_topic (topics_once topics)
distinct-topics_once [] = none_distinct
distinct-topics_once (u ∷ topics) =
    IsDistinct-cons same_topic u (filter (λ other. not (same_topic u other)) (topics_once topics))
    (all_where (λ y. same_topic u y ≡ false) (λ other. not (same_topic u other)) (λ y e. not_true (same_topic u y) e) (topics_once topics))
    (distinct-filter (λ other. not (same_topic u other)) (topics_once topics) (distinct-topics_once topics))
  where
    not_true : (b : Bool) → not b ≡ true → b ≡ false
    not_true true e = sym e
    not_true false e = refl

-- ---- what is found of a topic
module _ {X : Type 0} where
  -- among entries, and others behind them
  pub lookup-append : (es fs : List (Topic × X)) (t : Topic) → lookup (same_topic t) (es ++ fs) ≡ option_or (lookup (same_topic t) es) (lookup (same_topic t) fs)
  lookup-append [] fs t = refl
  lookup-append (e ∷ es) fs t = elim (same_topic t e.0) as (λ b. cond b (Some e.1) (lookup (same_topic t) (es ++ fs)) ≡ option_or (cond b (Some e.1) (lookup (same_topic t) es)) (lookup (same_topic t) fs)) [
    | true ↦ refl
    | false ↦ lookup-append es fs t
  ]

  -- among topics with what a function gives of each
  pub lookup-of_topics : (g : Topic → X) (topics : List Topic) (t : Topic) → lookup (same_topic t) (map (λ u. (u, g u)) topics) ≡ cond (is_listed topics t) (Some (g t)) None
  lookup-of_topics g [] t = refl
  lookup-of_topics g (u ∷ topics) t = elim (same_topic t u) as (λ b. same_topic t u ≡ b → cond b (Some (g u)) (lookup (same_topic t) (map (λ v. (v, g v)) topics)) ≡ cond (b || is_listed topics t) (Some (g t)) None) [
    | true ↦ λ e. ap (λ v. Some (g v)) (sym (same_topic_is t u e))
    | false ↦ λ e. lookup-of_topics g topics t
  ] refl

  pub keys-of_topics : (g : Topic → X) (topics : List Topic) → keys_of (map (λ u. (u, g u)) topics) ≡ topics
  keys-of_topics g [] = refl
  keys-of_topics g (u ∷ topics) = ap (λ us. u ∷ us) (keys-of_topics g topics)

  -- among entries of which each has what a function gives of it
  pub lookup-map_entries : (g : Topic × X → X) (es : List (Topic × X)) (t : Topic) → lookup (same_topic t) (map (λ e. (e.0, g e)) es) ≡ option_map_or (λ v. Some (g (t, v))) (lookup (same_topic t) es) None
  lookup-map_entries g [] t = refl
  lookup-map_entries g (e ∷ es) t =
      elim (same_topic t e.0) as (λ b. same_topic t e.0 ≡ b → cond b (Some (g e)) (lookup (same_topic t) (map (λ e. (e.0, g e)) es)) ≡ option_map_or (λ v. Some (g (t, v))) (cond b (Some e.1) (lookup (same_topic t) es)) None) [
        | true ↦ λ is. ap (λ k. Some (g (k, e.1))) (sym (same_topic_is t e.0 is))
        | false ↦ λ is. lookup-map_entries g es t
      ] refl

  pub keys-map_entries : (g : Topic × X → X) (es : List (Topic × X)) → keys_of (map (λ e. (e.0, g e)) es) ≡ keys_of es
  keys-map_entries g [] = refl
  keys-map_entries g (e ∷ es) = ap (λ us. e.0 ∷ us) (keys-map_entries g es)

  -- ---- the topics of the entries that pass a test
  -- whether what is found passes
  abbrev pub passes_found : (Topic × X → Bool) → Topic → Option X → Bool
  passes_found p t found = option_map_or (λ v. p (t, v)) found false

  none_found : (t : Topic) (es : List (Topic × X)) → AllByRecursion (λ y. same_topic t y ≡ false) (keys_of es) → lookup (same_topic t) es ≡ None
  none_found t [] each = refl
  none_found t (e ∷ es) each = ap (λ b. cond b (Some e.1) (lookup (same_topic t) es)) each.0 ∙ none_found t es each.1

  none_passes : (p : Topic × X → Bool) (t : Topic) (es : List (Topic × X)) → lookup (same_topic t) es ≡ None → is_listed (keys_of (filter p es)) t ≡ false
  none_passes p t [] h = refl
  none_passes p t (e ∷ es) h =
      elim (same_topic t e.0) as (λ b. same_topic t e.0 ≡ b → cond b (Some e.1) (lookup (same_topic t) es) ≡ None → is_listed (keys_of (cond (p e) (e ∷ filter p es) (filter p es))) t ≡ false) [
        | true ↦ λ is found. cc
        | false ↦ λ is found. elim (p e) as (λ b. is_listed (keys_of (cond b (e ∷ filter p es) (filter p es))) t ≡ false) [
          | true ↦ ap (λ b. b || is_listed (keys_of (filter p es)) t) is ∙ none_passes p t es found
          | false ↦ none_passes p t es found
        ]
      ] refl h

  -- a topic is among them where what is found of it passes
  pub listed-passing : (p : Topic × X → Bool) (es : List (Topic × X)) → IsDistinct same_topic (keys_of es) → (t : Topic) → is_listed (keys_of (filter p es)) t ≡ passes_found p t (lookup (same_topic t) es)
  listed-passing p [] d t = refl
  listed-passing p (e ∷ es) d t =
      elim (same_topic t e.0) as (λ b. same_topic t e.0 ≡ b → is_listed (keys_of (cond (p e) (e ∷ filter p es) (filter p es))) t ≡ passes_found p t (cond b (Some e.1) (lookup (same_topic t) es))) [
        | true ↦ λ is. here is
        | false ↦ λ is. elim (p e) as (λ b. is_listed (keys_of (cond b (e ∷ filter p es) (filter p es))) t ≡ passes_found p t (lookup (same_topic t) es)) [
          | true ↦ ap (λ b. b || is_listed (keys_of (filter p es)) t) is ∙ listed-passing p es (IsDistinct-tail same_topic e.0 (keys_of es) d) t
          | false ↦ listed-passing p es (IsDistinct-tail same_topic e.0 (keys_of es) d) t
        ]
      ] refl
    where
      gone : (u : Topic) → t ≡ u → AllByRecursion (λ y. same_topic u y ≡ false) (keys_of es) → lookup (same_topic t) es ≡ None
      gone u is each = subst (λ v. lookup (same_topic v) es ≡ None) (sym is) (none_found u es each)

      here : same_topic t e.0 ≡ true → is_listed (keys_of (cond (p e) (e ∷ filter p es) (filter p es))) t ≡ p (t, e.1)
      here is =
          let one = same_topic_is t e.0 is in
          elim (p e) as (λ b. p e ≡ b → is_listed (keys_of (cond b (e ∷ filter p es) (filter p es))) t ≡ p (t, e.1)) [
            | true ↦ λ met. ap (λ b. b || is_listed (keys_of (filter p es)) t) is ∙ sym (ap (λ k. p (k, e.1)) one ∙ met)
            | false ↦ λ unmet. none_passes p t es (gone e.0 one (IsDistinct-head same_topic e.0 (keys_of es) d)) ∙ sym (ap (λ k. p (k, e.1)) one ∙ unmet)
          ] refl
