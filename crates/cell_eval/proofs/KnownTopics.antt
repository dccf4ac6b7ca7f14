-- Topics that are the same, and what topics are known.
use Rattle.std.proofs.Common.{◌≡◌, ℕ, ◌+◌, ◌<◌, ◌≤◌, Bool, true, false, not, ◌&&◌, ◌||◌, cond, List, [], ◌∷◌, ◌++◌, Option, Some, None, is_none, unwrap_or, refl, sym, ap, ◌∙◌, subst, arith}
use mathlib.Core.Path.{fun_ext}
use Rattle.std.proofs.lemmas.List.Sums.{sum_by-cons}
use Rattle.std.specs.HashMap.Eq.{lookup_congr}
use Rattle.std.specs.List.{count_by, list_any}
use Rattle.std.specs.Map.{lookup}
use Rattle.cell_values.specs.declared.topics.Topic.{Topic}
use Rattle.cell_values.specs.declared.values.Value.{Value}
use Rattle.cell_values.specs.Topic.{same_topic}
use Rattle.cell_values.proofs.PublicLaws.{same_topics}
use Rattle.cell_eval.specs.Jobs.{topic_value}
use Rattle.workbook.specs.Reads.{is_listed}

-- the same topics have the same value
value_same : (topics : List (Topic × Value)) (a b : Topic) → same_topic a b ≡ true → topic_value topics a ≡ topic_value topics b
value_same = lookup_congr same_topic same_topics.congr

-- ---- a topic more, behind the others
-- an added value, or else the same
unwrap_last : (b : Bool) (v : Value) → unwrap_or (cond b (Some v) None) v ≡ v
unwrap_last true v = refl
unwrap_last false v = refl

-- what is found first is found, whatever follows
unwrap_other : (b : Bool) (w v : Value) (x y : Option Value) → unwrap_or x v ≡ unwrap_or y v → unwrap_or (cond b (Some w) x) v ≡ unwrap_or (cond b (Some w) y) v
unwrap_other true w v x y h = refl
unwrap_other false w v x y h = h

-- what is looked up has the same value, where what isn't found has the added one
unwrap_more : (test : Topic → Bool) (topics : List (Topic × Value)) (topic : Topic) (v : Value) → unwrap_or (lookup test (topics ++ (topic, v) ∷ [])) v ≡ unwrap_or (lookup test topics) v
unwrap_more test [] topic v = unwrap_last (test topic) v
unwrap_more test (e ∷ topics) topic v = unwrap_other (test e.0) e.1 v (lookup test (topics ++ (topic, v) ∷ [])) (lookup test topics) (unwrap_more test topics topic v)

-- each topic has the same value, where a topic that isn't known has that of the added one
pub value_more : (topics : List (Topic × Value)) (topic : Topic) (v : Value) (t : Topic) → unwrap_or (topic_value (topics ++ (topic, v) ∷ []) t) v ≡ unwrap_or (topic_value topics t) v
value_more topics topic v t = unwrap_more (same_topic t) topics topic v

-- an added value isn't found where it fails the test
none_last : (b : Bool) (v : Value) → is_none (cond b (Some v) None) ≡ not b
none_last true v = refl
none_last false v = refl

-- what is found first is found, whatever else isn't
none_other : (b c : Bool) (w : Value) (x y : Option Value) → is_none x ≡ (is_none y && c) → is_none (cond b (Some w) x) ≡ (is_none (cond b (Some w) y) && c)
none_other true c w x y h = refl
none_other false c w x y h = h

-- what isn't found then, wasn't found and isn't the added one
none_more : (test : Topic → Bool) (topics : List (Topic × Value)) (topic : Topic) (v : Value) → is_none (lookup test (topics ++ (topic, v) ∷ [])) ≡ (is_none (lookup test topics) && not (test topic))
none_more test [] topic v = none_last (test topic) v
none_more test (e ∷ topics) topic v = none_other (test e.0) (not (test topic)) e.1 (lookup test (topics ++ (topic, v) ∷ [])) (lookup test topics) (none_more test topics topic v)

-- ---- how many topics of a list aren't known
abbrev pub unknown_count : List (Topic × Value) → List Topic → ℕ
unknown_count topics listed = count_by (λ topic. is_none (topic_value topics topic)) listed

-- numbers that equal two others stand as these do
le_same : (m n x y : ℕ) → m ≡ x → n ≡ y → x ≤ y → m ≤ n
le_same m n x y p q h = omega arith

-- and so they do strictly
lt_same : (m n x y : ℕ) → m ≡ x → n ≡ y → x < y → m < n
lt_same m n x y p q h = omega arith

-- the count of the first, and of the others
count_first : (p : Topic → Bool) (t : Topic) (ts : List Topic) → count_by p (t ∷ ts) ≡ cond (p t) 1 0 + count_by p ts
count_first p t ts = sum_by-cons (λ x. cond (p x) 1 0) t ts

-- one that fails a test more doesn't count
counts_less : (a b : Bool) (m n : ℕ) → m ≤ n → cond (a && not b) 1 0 + m ≤ cond a 1 0 + n
counts_less true true m n h = omega arith
counts_less true false m n h = omega arith
counts_less false b m n h = omega arith

-- fewer stay fewer
counts_fewer : (a b : Bool) (m n : ℕ) → m < n → cond (a && not b) 1 0 + m < cond a 1 0 + n
counts_fewer true true m n h = omega arith
counts_fewer true false m n h = omega arith
counts_fewer false b m n h = omega arith

-- fewer pass a test more
pass_less : (p r : Topic → Bool) (ts : List Topic) → count_by (λ t. p t && not (r t)) ts ≤ count_by p ts
pass_less p r [] = omega arith
pass_less p r (t ∷ ts) =
    le_same _ _ _ _ (count_first (λ x. p x && not (r x)) t ts) (count_first p t ts)
    (counts_less (p t) (r t) (count_by (λ x. p x && not (r x)) ts) (count_by p ts) (pass_less p r ts))

-- one that passes the first test and fails the other makes fewer
counts_one : (a b : Bool) (m n : ℕ) → a ≡ true → b ≡ true → m ≤ n → cond (a && not b) 1 0 + m < cond a 1 0 + n
counts_one a b m n p q h = subst (λ x. cond (x && not b) 1 0 + m < cond x 1 0 + n) (sym p) (subst (λ x. cond (not x) 1 0 + m < 1 + n) (sym q) (omega arith))

-- ---- a test s that is passed only by what passes p and fails the other test
module _ (p r s : Topic → Bool) (passes : (t : Topic) → s t ≡ true → p t ≡ true) (fails : (t : Topic) → s t ≡ true → r t ≡ true) where
  -- one more topic, where one of all passes s
  pass_fewer_step : (t : Topic) (ts : List Topic) (b : Bool) → s t ≡ b → (list_any s ts ≡ true → count_by (λ x. p x && not (r x)) ts < count_by p ts) → (b || list_any s ts) ≡ true
      → count_by (λ x. p x && not (r x)) (t ∷ ts) < count_by p (t ∷ ts)
  pass_fewer_step t ts true is h any =
      lt_same _ _ _ _ (count_first (λ x. p x && not (r x)) t ts) (count_first p t ts)
      (counts_one (p t) (r t) (count_by (λ x. p x && not (r x)) ts) (count_by p ts) (passes t is) (fails t is) (pass_less p r ts))
  pass_fewer_step t ts false is h any =
      lt_same _ _ _ _ (count_first (λ x. p x && not (r x)) t ts) (count_first p t ts)
      (counts_fewer (p t) (r t) (count_by (λ x. p x && not (r x)) ts) (count_by p ts) (h any))

  -- where one passes s, fewer pass both
  pass_fewer : (ts : List Topic) → list_any s ts ≡ true → count_by (λ x. p x && not (r x)) ts < count_by p ts
  pass_fewer [] any = absurd (cc)
  pass_fewer (t ∷ ts) any = pass_fewer_step t ts (s t) refl (pass_fewer ts) any

-- where a listed topic that isn't known is added, fewer aren't known
pub unknown_fewer : (topics : List (Topic × Value)) (topic : Topic) (v : Value) (listed : List Topic) → topic_value topics topic ≡ None → is_listed listed topic ≡ true
    → unknown_count (topics ++ (topic, v) ∷ []) listed < unknown_count topics listed
unknown_fewer topics topic v listed none any =
    subst (λ test. count_by test listed < unknown_count topics listed) (sym (fun_ext (λ t. none_more (same_topic t) topics topic v)))
    (pass_fewer (λ t. is_none (topic_value topics t)) (λ t. same_topic t topic) (same_topic topic)
    (λ t same. ap is_none (sym (value_same topics topic t same) ∙ none)) (λ t same. same_topics.symm t topic ∙ same) listed any)
