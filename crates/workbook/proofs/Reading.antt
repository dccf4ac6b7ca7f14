-- The topics that a decision looks up over a snapshot, one after another, and what follows where they are known.
use Rattle.std.proofs.Common.{◌≡◌, ℕ, zero, suc, ◌-◌, ◌<◌, ◌≤◌, Bool, true, false, ◌||◌, ◌⊎◌, inl, inr, cond, List, [], ◌∷◌, ◌++◌, length, Option, Some, None, IfSome, refl, sym, ap, subst, ◌∙◌, arith, append_assoc, append-nil}
use Rattle.std.specs.Option.{option_map_or}
use Rattle.std.proofs.lemmas.List.Folds.{list_any-append}
use Rattle.cell_values.specs.declared.topics.Topic.{Topic}
use Rattle.cell_values.specs.declared.values.Value.{Value}
use Rattle.cell_values.specs.Topic.{same_topic}
use Rattle.cell_values.proofs.PublicLaws.{same_topics, same_topic-refl}
use Rattle.workbook.specs.Evaluation.{Answer, Val, Needs}
use Rattle.workbook.specs.Reads.{is_listed, needed_topic, all_but, these_alone}
use Rattle.workbook.proofs.Decisions.{Given, Decision, Gives, Takes, Looks, IsWithin, taken, looked, run}

-- ---- lists of topics
-- whether a topic of a list, or none, is listed
either_true : (a b : Bool) → b ≡ true → (a || b) ≡ true
either_true true b h = refl
either_true false b h = h

-- of two tests the first is met or not
either_moves : (a b c : Bool) → ((a || b) || c) ≡ (a || (b || c))
either_moves true b c = refl
either_moves false b c = refl

-- a test that is met where another is adds nothing
either_absorbs : (a b c : Bool) → (b ≡ true → a ≡ true) → (a || c) ≡ (a || (b || c))
either_absorbs true b c leads = refl
either_absorbs false true c leads = cc (leads refl)
either_absorbs false false c leads = refl

-- the same topics are listed alike
listed_same : (topics : List Topic) (topic other : Topic) → same_topic topic other ≡ true → is_listed topics other ≡ is_listed topics topic
listed_same [] topic other same = refl
listed_same (t ∷ topics) topic other same =
    ap (λ b. b || is_listed topics other) (sym (same_topics.congr topic other t same))
    ∙ ap (λ b. same_topic topic t || b) (listed_same topics topic other same)

-- the first topic of a list that isn't among others
abbrev pub first_unlisted : List Topic → List Topic → Option Topic
first_unlisted topics [] = None
first_unlisted topics (t ∷ path) = cond (is_listed topics t) (first_unlisted topics path) (Some t)

-- the topics of a list that aren't among others, each once
abbrev pub fresh : List Topic → List Topic → List Topic
fresh topics [] = []
fresh topics (t ∷ path) = cond (is_listed topics t) (fresh topics path) (t ∷ fresh (topics ++ t ∷ []) path)

-- there are no more of these
pub fresh_few : (topics path : List Topic) → length (fresh topics path) ≤ length path
fresh_few topics [] = omega arith
fresh_few topics (t ∷ path) = elim (is_listed topics t) as (λ b. length (cond b (fresh topics path) (t ∷ fresh (topics ++ t ∷ []) path)) ≤ length (t ∷ path)) [
  | true ↦ omega (arith, fresh_few topics path)
  | false ↦ omega (arith, fresh_few (topics ++ t ∷ []) path)
]

-- an added topic is listed
listed_last : (topics : List Topic) (t : Topic) → is_listed (topics ++ t ∷ []) t ≡ true
listed_last topics t =
    list_any-append (same_topic t) topics (t ∷ [])
    ∙ either_true (is_listed topics t) (same_topic t t || false) (ap (λ b. b || false) (same_topic-refl t))

-- what is listed stays so
listed_more : (topics : List Topic) (t other : Topic) → is_listed topics other ≡ true → is_listed (topics ++ t ∷ []) other ≡ true
listed_more topics t other h = list_any-append (same_topic other) topics (t ∷ []) ∙ ap (λ b. b || is_listed (t ∷ []) other) h

-- the first one, and the others behind it
fresh_first : (topics path : List Topic) (topic : Topic) → first_unlisted topics path ≡ Some topic → fresh topics path ≡ topic ∷ fresh (topics ++ topic ∷ []) path
fresh_first topics [] topic h = cc
fresh_first topics (t ∷ path) topic h =
    elim (is_listed topics t) as (λ b. is_listed topics t ≡ b → cond b (first_unlisted topics path) (Some t) ≡ Some topic
    → cond b (fresh topics path) (t ∷ fresh (topics ++ t ∷ []) path) ≡ topic ∷ fresh (topics ++ topic ∷ []) (t ∷ path)) [
      | true ↦ λ is later.
          fresh_first topics path topic later
          ∙ ap (λ b. topic ∷ cond b (fresh (topics ++ topic ∷ []) path) (t ∷ fresh ((topics ++ topic ∷ []) ++ t ∷ []) path)) (sym (listed_more topics topic t is))
      | false ↦ λ is now. here (Some-is now)
    ] refl h
  where
    Some-is : Some t ≡ Some topic → t ≡ topic
    Some-is e = cc

    here : t ≡ topic → t ∷ fresh (topics ++ t ∷ []) path ≡ topic ∷ fresh (topics ++ topic ∷ []) (t ∷ path)
    here e =
        subst (λ u. t ∷ fresh (topics ++ t ∷ []) path ≡ u ∷ fresh (topics ++ u ∷ []) (t ∷ path)) e
        (ap (λ b. t ∷ cond b (fresh (topics ++ t ∷ []) path) (t ∷ fresh ((topics ++ t ∷ []) ++ t ∷ []) path)) (sym (listed_last topics t)))

-- none
fresh_none : (topics path : List Topic) → first_unlisted topics path ≡ None → fresh topics path ≡ []
fresh_none topics [] h = refl
fresh_none topics (t ∷ path) h =
    elim (is_listed topics t) as (λ b. cond b (first_unlisted topics path) (Some t) ≡ None → cond b (fresh topics path) (t ∷ fresh (topics ++ t ∷ []) path) ≡ []) [
      | true ↦ λ later. fresh_none topics path later
      | false ↦ λ now. cc
    ] h

-- what is listed with them
pub listed_fresh : (topics path : List Topic) (topic : Topic) → is_listed (topics ++ fresh topics path) topic ≡ (is_listed topics topic || is_listed path topic)
listed_fresh topics [] topic = list_any-append (same_topic topic) topics []
listed_fresh topics (t ∷ path) topic =
    elim (is_listed topics t) as (λ b. is_listed topics t ≡ b → is_listed (topics ++ cond b (fresh topics path) (t ∷ fresh (topics ++ t ∷ []) path)) topic ≡ (is_listed topics topic || (same_topic topic t || is_listed path topic))) [
      | true ↦ λ is. listed_fresh topics path topic ∙ either_absorbs (is_listed topics topic) (same_topic topic t) (is_listed path topic) (λ same. sym (listed_same topics topic t same) ∙ is)
      | false ↦ λ is.
          ap (λ all. is_listed all topic) (sym (append_assoc topics (t ∷ []) (fresh (topics ++ t ∷ []) path)))
          ∙ listed_fresh (topics ++ t ∷ []) path topic
          ∙ ap (λ b. b || is_listed path topic) (list_any-append (same_topic topic) topics (t ∷ []) ∙ ap (λ b. is_listed topics topic || b) (or_none (same_topic topic t)))
          ∙ either_moves (is_listed topics topic) (same_topic topic t) (is_listed path topic)
    ] refl
  where
    or_none : (b : Bool) → (b || false) ≡ b
    or_none true = refl
    or_none false = refl

-- topics, and behind them at most so many more, each the next one of a list that isn't among those before it
abbrev pub added_of : List Topic → ℕ → List Topic → List Topic
added_of path zero topics = topics
added_of path (suc more) topics = option_map_or (λ topic. added_of path more (topics ++ topic ∷ [])) (first_unlisted topics path) topics

-- where there are no more of them, all are added
pub added_all : (path : List Topic) (more : ℕ) (topics : List Topic) → length (fresh topics path) ≤ more → added_of path more topics ≡ topics ++ fresh topics path
added_all path zero topics few = sym (append-nil topics) ∙ ap (λ list. topics ++ list) (sym (nothing (fresh topics path) few))
  where
    nothing : (list : List Topic) → length list ≤ 0 → list ≡ []
    nothing [] h = refl
    nothing (t ∷ list) h = absurd (omega arith)
added_all path (suc more) topics few =
    elim (first_unlisted topics path) as (λ o. first_unlisted topics path ≡ o → option_map_or (λ topic. added_of path more (topics ++ topic ∷ [])) o topics ≡ topics ++ fresh topics path) [
      | None ↦ λ e. sym (append-nil topics) ∙ ap (λ list. topics ++ list) (sym (fresh_none topics path e))
      | Some topic ↦ λ e.
          let first = fresh_first topics path topic e in
          added_all path more (topics ++ topic ∷ []) (one_less (fresh (topics ++ topic ∷ []) path) (subst (λ list. length list ≤ suc more) first few))
          ∙ append_assoc topics (topic ∷ []) (fresh (topics ++ topic ∷ []) path)
          ∙ ap (λ list. topics ++ list) (sym first)
    ] refl
  where
    one_less : (list : List Topic) → suc (length list) ≤ suc more → length list ≤ more
    one_less list h = omega arith

-- ---- decisions, where these values are accepted
module _ (accepted : ℕ → Option Value) where
  -- these topics are known
  abbrev pub knowing : (Topic → Option Value) → Given
  knowing known = record { topic = known; site = accepted }

  -- the topics that follow behind a site
  abbrev path_behind : Option Value → (Value → List Topic) → List Topic
  path_behind None next = []
  path_behind (Some v) next = next v

  -- the topics that a decision looks up over a snapshot
  abbrev pub path : (Topic → Value) → Decision → List Topic
  path snapshot (Gives v) = []
  path snapshot (Takes site name args next) = path_behind (accepted site) (λ v. path snapshot (next v))
  path snapshot (Looks topic next) = topic ∷ path snapshot (next (snapshot topic))

  -- there are no more of them than the bound
  pub path_few : (lo hi : ℕ) (snapshot : Topic → Value) (d : Decision) (looks : ℕ) → IsWithin lo hi d looks → length (path snapshot d) ≤ looks
  path_few lo hi snapshot (Gives v) looks h = omega arith
  path_few lo hi snapshot (Takes site name args next) looks h =
      elim (accepted site) as (λ o. length (path_behind o (λ v. path snapshot (next v))) ≤ looks) [
        | None ↦ omega arith
        | Some v ↦ path_few lo hi snapshot (next v) looks (h.2 v)
      ]
  path_few lo hi snapshot (Looks topic next) looks h =
      one_more h.0 (path_few lo hi snapshot (next (snapshot topic)) (looks - 1) (h.1 (snapshot topic)))
    where
      one_more : 0 < looks → length (path snapshot (next (snapshot topic))) ≤ looks - 1 → suc (length (path snapshot (next (snapshot topic)))) ≤ looks
      one_more some few = omega arith

  -- ---- which topic is needed, where one alone isn't known
  -- whether an answer needs this topic
  abbrev pub is_needed : Topic → Answer → Bool
  is_needed topic answer = option_map_or (same_topic topic) (needed_topic answer) false

  -- a decision needs the topic that isn't known exactly where it looks it up
  pub needed_on_path : (snapshot : Topic → Value) (topic : Topic) (d : Decision) → is_needed topic (run (knowing (all_but topic snapshot)) d) ≡ is_listed (path snapshot d) topic
  needed_on_path snapshot topic (Gives v) = refl
  needed_on_path snapshot topic (Takes site name args next) =
      elim (accepted site) as (λ o. is_needed topic (taken site name args o (λ v. run (knowing (all_but topic snapshot)) (next v))) ≡ is_listed (path_behind o (λ v. path snapshot (next v))) topic) [
        | None ↦ refl
        | Some v ↦ needed_on_path snapshot topic (next v)
      ]
  needed_on_path snapshot topic (Looks t next) =
      elim (same_topic topic t) as (λ b. same_topic topic t ≡ b
      → is_needed topic (looked t (cond b None (Some (snapshot t))) (λ v. run (knowing (all_but topic snapshot)) (next v))) ≡ (b || is_listed (path snapshot (next (snapshot t))) topic)) [
        | true ↦ λ same. same
        | false ↦ λ _. needed_on_path snapshot topic (next (snapshot t))
      ] refl

  -- ---- what a decision comes to, where these topics alone are known
  -- it needs the first topic on its path that isn't among them
  pub needed_first : (snapshot : Topic → Value) (topics : List Topic) (d : Decision) → needed_topic (run (knowing (these_alone topics snapshot)) d) ≡ first_unlisted topics (path snapshot d)
  needed_first snapshot topics (Gives v) = refl
  needed_first snapshot topics (Takes site name args next) =
      elim (accepted site) as (λ o. needed_topic (taken site name args o (λ v. run (knowing (these_alone topics snapshot)) (next v))) ≡ first_unlisted topics (path_behind o (λ v. path snapshot (next v)))) [
        | None ↦ refl
        | Some v ↦ needed_first snapshot topics (next v)
      ]
  needed_first snapshot topics (Looks t next) =
      elim (is_listed topics t) as (λ b. needed_topic (looked t (cond b (Some (snapshot t)) None) (λ v. run (knowing (these_alone topics snapshot)) (next v))) ≡ cond b (first_unlisted topics (path snapshot (next (snapshot t)))) (Some t)) [
        | true ↦ needed_first snapshot topics (next (snapshot t))
        | false ↦ refl
      ]

  -- ---- two snapshots, or topics that are known, that agree on the topics on the path
  -- each topic of a list has its value of the snapshot
  abbrev IsKnownOn : (Topic → Value) → (Topic → Option Value) → List Topic → Type 0
  IsKnownOn snapshot known topics = (topic : Topic) → is_listed topics topic ≡ true → known topic ≡ Some (snapshot topic)

  -- a decision comes to the same where the topics on its path have their values of the snapshot
  pub run_along : (snapshot : Topic → Value) (known : Topic → Option Value) (d : Decision) → IsKnownOn snapshot known (path snapshot d) → run (knowing known) d ≡ run (knowing (λ topic. Some (snapshot topic))) d
  run_along snapshot known (Gives v) h = refl
  run_along snapshot known (Takes site name args next) h =
      elim (accepted site) as (λ o. IsKnownOn snapshot known (path_behind o (λ v. path snapshot (next v)))
      → taken site name args o (λ v. run (knowing known) (next v)) ≡ taken site name args o (λ v. run (knowing (λ topic. Some (snapshot topic))) (next v))) [
        | None ↦ λ k. refl
        | Some v ↦ λ k. run_along snapshot known (next v) k
      ] h
  run_along snapshot known (Looks t next) h =
      ap (λ o. looked t o (λ v. run (knowing known) (next v))) (h t (ap (λ b. b || is_listed (path snapshot (next (snapshot t))) t) (same_topic-refl t)))
      ∙ run_along snapshot known (next (snapshot t)) (λ topic listed. h topic (either_true (same_topic topic t) (is_listed (path snapshot (next (snapshot t))) topic) listed))

  -- a decision looks up the same topics over two snapshots that agree on them
  pub path_along : (snapshot other : Topic → Value) (d : Decision) → ((topic : Topic) → is_listed (path snapshot d) topic ≡ true → snapshot topic ≡ other topic) → path snapshot d ≡ path other d
  path_along snapshot other (Gives v) h = refl
  path_along snapshot other (Takes site name args next) h =
      elim (accepted site) as (λ o. ((topic : Topic) → is_listed (path_behind o (λ v. path snapshot (next v))) topic ≡ true → snapshot topic ≡ other topic)
      → path_behind o (λ v. path snapshot (next v)) ≡ path_behind o (λ v. path other (next v))) [
        | None ↦ λ k. refl
        | Some v ↦ λ k. path_along snapshot other (next v) k
      ] h
  path_along snapshot other (Looks t next) h =
      ap (λ topics. t ∷ topics) (path_along snapshot other (next (snapshot t)) (λ topic listed. h topic (either_true (same_topic topic t) (is_listed (path snapshot (next (snapshot t))) topic) listed)))
      ∙ ap (λ v. t ∷ path other (next v)) (h t (ap (λ b. b || is_listed (path snapshot (next (snapshot t))) t) (same_topic-refl t)))

  -- where topics are known by the snapshot, a decision comes to the same, or needs a topic on its path that isn't known
  pub run_foretold : (snapshot : Topic → Value) (known : Topic → Option Value) → ((topic : Topic) → IfSome (known topic) (λ v. v ≡ snapshot topic)) → (d : Decision)
      → (run (knowing known) d ≡ run (knowing (λ topic. Some (snapshot topic))) d) ⊎ ((topic : Topic) × (run (knowing known) d ≡ Needs topic) × (known topic ≡ None) × (is_listed (path snapshot d) topic ≡ true))
  run_foretold snapshot known agrees (Gives v) = inl refl
  run_foretold snapshot known agrees (Takes site name args next) =
      elim (accepted site) as (λ o. (taken site name args o (λ v. run (knowing known) (next v)) ≡ taken site name args o (λ v. run (knowing (λ topic. Some (snapshot topic))) (next v)))
      ⊎ ((topic : Topic) × (taken site name args o (λ v. run (knowing known) (next v)) ≡ Needs topic) × (known topic ≡ None) × (is_listed (path_behind o (λ v. path snapshot (next v))) topic ≡ true))) [
        | None ↦ inl refl
        | Some v ↦ run_foretold snapshot known agrees (next v)
      ]
  run_foretold snapshot known agrees (Looks t next) =
      elim (known t) as (λ o. known t ≡ o → IfSome o (λ v. v ≡ snapshot t)
      → (looked t o (λ v. run (knowing known) (next v)) ≡ run (knowing (λ topic. Some (snapshot topic))) (next (snapshot t)))
      ⊎ ((topic : Topic) × (looked t o (λ v. run (knowing known) (next v)) ≡ Needs topic) × (known topic ≡ None) × ((same_topic topic t || is_listed (path snapshot (next (snapshot t))) topic) ≡ true))) [
        | None ↦ λ e is. inr (t, refl, e, ap (λ b. b || is_listed (path snapshot (next (snapshot t))) t) (same_topic-refl t))
        | Some v ↦ λ e is. elim (run_foretold snapshot known agrees (next (snapshot t))) as (λ _.
            (run (knowing known) (next v) ≡ run (knowing (λ topic. Some (snapshot topic))) (next (snapshot t)))
            ⊎ ((topic : Topic) × (run (knowing known) (next v) ≡ Needs topic) × (known topic ≡ None) × ((same_topic topic t || is_listed (path snapshot (next (snapshot t))) topic) ≡ true))) [
              | inl same ↦ inl (ap (λ w. run (knowing known) (next w)) is ∙ same)
              | inr needs ↦ inr (
                needs.0,
                ap (λ w. run (knowing known) (next w)) is ∙ needs.1,
                needs.2,
                either_true (same_topic needs.0 t) (is_listed (path snapshot (next (snapshot t))) needs.0) needs.3,
              )
            ]
      ] refl (agrees t)

-- ---- other accepted values
-- a decision comes to the same where the accepted values are the same at the sites that it may ask
pub run_at_sites : (lo hi : ℕ) (known : Topic → Option Value) (accepted other : ℕ → Option Value) → ((site : ℕ) → lo < site → site ≤ hi → accepted site ≡ other site)
    → (d : Decision) (looks : ℕ) → IsWithin lo hi d looks → run (record { topic = known; site = accepted }) d ≡ run (record { topic = known; site = other }) d
run_at_sites lo hi known accepted other same (Gives v) looks h = refl
run_at_sites lo hi known accepted other same (Takes site name args next) looks h =
    ap (λ o. taken site name args o (λ v. run (record { topic = known; site = accepted }) (next v))) (same site h.0 h.1)
    ∙ elim (other site) as (λ o. taken site name args o (λ v. run (record { topic = known; site = accepted }) (next v)) ≡ taken site name args o (λ v. run (record { topic = known; site = other }) (next v))) [
      | None ↦ refl
      | Some v ↦ run_at_sites lo hi known accepted other same (next v) looks (h.2 v)
    ]
run_at_sites lo hi known accepted other same (Looks t next) looks h =
    elim (known t) as (λ o. looked t o (λ v. run (record { topic = known; site = accepted }) (next v)) ≡ looked t o (λ v. run (record { topic = known; site = other }) (next v))) [
      | None ↦ refl
      | Some v ↦ run_at_sites lo hi known accepted other same (next v) (looks - 1) (h.1 v)
    ]

-- a value stays where more values are accepted
pub run_accepting : (known : Topic → Option Value) (accepted more : ℕ → Option Value) → ((site : ℕ) (v : Value) → accepted site ≡ Some v → more site ≡ Some v)
    → (d : Decision) (v : Value) → run (record { topic = known; site = accepted }) d ≡ Val v → run (record { topic = known; site = more }) d ≡ Val v
run_accepting known accepted more grows (Gives w) v h = h
run_accepting known accepted more grows (Takes site name args next) v h =
    elim (accepted site) as (λ o. accepted site ≡ o → taken site name args o (λ w. run (record { topic = known; site = accepted }) (next w)) ≡ Val v
    → taken site name args (more site) (λ w. run (record { topic = known; site = more }) (next w)) ≡ Val v) [
      | None ↦ λ _ k. cc
      | Some w ↦ λ e k.
          ap (λ o. taken site name args o (λ u. run (record { topic = known; site = more }) (next u))) (grows site w e)
          ∙ run_accepting known accepted more grows (next w) v k
    ] refl h
run_accepting known accepted more grows (Looks t next) v h =
    elim (known t) as (λ o. looked t o (λ w. run (record { topic = known; site = accepted }) (next w)) ≡ Val v → looked t o (λ w. run (record { topic = known; site = more }) (next w)) ≡ Val v) [
      | None ↦ λ k. cc
      | Some w ↦ λ k. run_accepting known accepted more grows (next w) v k
    ] h

-- where all topics are known none is needed
pub run_needs_none : (snapshot : Topic → Value) (accepted : ℕ → Option Value) (d : Decision) → needed_topic (run (record { topic = λ topic. Some (snapshot topic); site = accepted }) d) ≡ None
run_needs_none snapshot accepted (Gives v) = refl
run_needs_none snapshot accepted (Takes site name args next) =
    elim (accepted site) as (λ o. needed_topic (taken site name args o (λ v. run (record { topic = λ topic. Some (snapshot topic); site = accepted }) (next v))) ≡ None) [
      | None ↦ refl
      | Some v ↦ run_needs_none snapshot accepted (next v)
    ]
run_needs_none snapshot accepted (Looks t next) = run_needs_none snapshot accepted (next (snapshot t))
