-- Entries in cell order: what a test keeps of them, and what is found among them.
use Rattle.std.proofs.Common.{◌≡◌, ◌≤◌, ◌⊎◌, inl, inr, Bool, true, false, cond, ◌&&◌, List, [], ◌∷◌, ◌++◌, length, Some, None, is_some, arith, refl, ap, sym, subst, ⊎_elim, ◌∙◌}
use Rattle.std.specs.Option.{option_or}
use Rattle.std.specs.List.{AllByRecursion, filter}
use Rattle.std.specs.List.Sorted.{IsStrictlySortedBy}
use Rattle.std.specs.Map.{keys_of}
use Rattle.std.specs.Ordering.{is_lt}
use Rattle.std.specs.declared.cmp.Ordering.{Ordering}
use Rattle.std.specs.declared.cmp.Ordering.TheVariants.{Less, Equal, Greater}
use Rattle.std.proofs.lemmas.List.Kept.{IsStrictlySortedBy-filter}
use Rattle.std.proofs.lemmas.Map.Keys.{sorted_head, sorted_tail}
use Rattle.cell_refs.specs.declared.grid.Cell.{Cell}
use Rattle.cell_refs.specs.Cell.{cell_cmp, same_cell}
use Rattle.cell_refs.proofs.PublicLaws.{same_cell_is, same_cells}
use Rattle.cell_store.specs.Gathering.{is_less}
use Rattle.cell_store.specs.Store.{AreInOrder, entry_at}
use Rattle.cell_store.proofs.CellsInOrder.{less-differs, less-one_way}

-- what holds of each key may be replaced by what it leads to
pub keys_lead : (P Q : Cell → Type 0) → ((k : Cell) → P k → Q k) → (ks : List Cell) → AllByRecursion P ks → AllByRecursion Q ks
keys_lead P Q leads [] each = tt
keys_lead P Q leads (k ∷ ks) each = (leads k each.0, keys_lead P Q leads ks each.1)

-- the test finds the answer Less alone
is_less_than : (o : Ordering) → is_lt o ≡ true → o ≡ Less
is_less_than Less h = refl
is_less_than Equal h = cc
is_less_than Greater h = cc

-- two tests that both pass where both together do
pub first_passes : (a b : Bool) → (a && b) ≡ true → a ≡ true
first_passes true b h = refl
first_passes false b h = h

pub second_passes : (a b : Bool) → (a && b) ≡ true → b ≡ true
second_passes true b h = h
second_passes false b h = cc

module _ {X : Type 0} where
  -- ---- the keys of entries
  -- what holds of the keys of two lists holds of all
  pub all_append : (P : Cell → Type 0) (es fs : List (Cell × X)) → AllByRecursion P (keys_of es) → AllByRecursion P (keys_of fs) → AllByRecursion P (keys_of (es ++ fs))
  all_append P [] fs first second = second
  all_append P (e ∷ es) fs first second = (first.0, all_append P es fs first.1 second)

  -- and that of all holds of the second list's
  pub all_second : (P : Cell → Type 0) (es fs : List (Cell × X)) → AllByRecursion P (keys_of (es ++ fs)) → AllByRecursion P (keys_of fs)
  all_second P [] fs each = each
  all_second P (e ∷ es) fs each = all_second P es fs each.1

  -- ---- in order
  -- the cells behind the first entry are greater
  pub behind_first : (e : Cell × X) (es : List (Cell × X)) → AreInOrder (e ∷ es) → AllByRecursion (λ k. is_less e.0 k ≡ true) (keys_of es)
  behind_first e es ordered = keys_lead (λ k. cell_cmp e.0 k ≡ Less) (λ k. is_less e.0 k ≡ true) (λ k less. ap is_lt less) (keys_of es) (sorted_head cell_cmp e.0 (keys_of es) ordered)

  -- the entries behind the first are in order
  pub order_tail : (e : Cell × X) (es : List (Cell × X)) → AreInOrder (e ∷ es) → AreInOrder es
  order_tail e es ordered = sorted_tail cell_cmp e.0 (keys_of es) ordered

  -- an entry before all others keeps them in order
  pub order_first : (e : Cell × X) (es : List (Cell × X)) → AllByRecursion (λ k. is_less e.0 k ≡ true) (keys_of es) → AreInOrder es → AreInOrder (e ∷ es)
  unfolding IsStrictlySortedBy
  order_first e es less ordered = (keys_lead (λ k. is_less e.0 k ≡ true) (λ k. cell_cmp e.0 k ≡ Less) (λ k h. is_less_than (cell_cmp e.0 k) h) (keys_of es) less, ordered)

  -- entries before others keep them in order
  pub order_append : (es fs : List (Cell × X)) → AreInOrder es → AreInOrder fs → AllByRecursion (λ k. AllByRecursion (λ d. is_less k d ≡ true) (keys_of fs)) (keys_of es) → AreInOrder (es ++ fs)
  order_append [] fs first second apart = second
  order_append (e ∷ es) fs first second apart =
      order_first e (es ++ fs) (all_append (λ k. is_less e.0 k ≡ true) es fs (behind_first e es first) apart.0) (order_append es fs (order_tail e es first) second apart.1)

  -- ---- what a test keeps
  -- the keys of the entries that a test keeps
  pub keys_kept : (p : Cell → Bool) (es : List (Cell × X)) → keys_of (filter (λ e. p e.0) es) ≡ filter p (keys_of es)
  keys_kept p [] = refl
  keys_kept p (e ∷ es) = elim (p e.0) as (λ b. keys_of (cond b (e ∷ filter (λ d. p d.0) es) (filter (λ d. p d.0) es)) ≡ cond b (e.0 ∷ filter p (keys_of es)) (filter p (keys_of es))) [
    | true ↦ ap (λ ks. e.0 ∷ ks) (keys_kept p es)
    | false ↦ keys_kept p es
  ]

  -- what a test of the cells keeps is in order
  pub order_kept : (p : Cell → Bool) (es : List (Cell × X)) → AreInOrder es → AreInOrder (filter (λ e. p e.0) es)
  order_kept p es ordered = subst (IsStrictlySortedBy cell_cmp) (sym (keys_kept p es)) (IsStrictlySortedBy-filter cell_cmp p (keys_of es) ordered)

  -- what holds of each key holds of those that a test keeps
  pub all_kept : (P : Cell → Type 0) (p : Cell × X → Bool) (es : List (Cell × X)) → AllByRecursion P (keys_of es) → AllByRecursion P (keys_of (filter p es))
  all_kept P p [] each = tt
  all_kept P p (e ∷ es) each = elim (p e) as (λ b. AllByRecursion P (keys_of (cond b (e ∷ filter p es) (filter p es)))) [
    | true ↦ (each.0, all_kept P p es each.1)
    | false ↦ all_kept P p es each.1
  ]

  -- what any test keeps is in order
  pub order_passed : (p : Cell × X → Bool) (es : List (Cell × X)) → AreInOrder es → AreInOrder (filter p es)
  order_passed p [] ordered = ordered
  order_passed p (e ∷ es) ordered = elim (p e) as (λ b. AreInOrder (cond b (e ∷ filter p es) (filter p es))) [
    | true ↦ order_first e (filter p es) (all_kept (λ k. is_less e.0 k ≡ true) p es (behind_first e es ordered)) (order_passed p es (order_tail e es ordered))
    | false ↦ order_passed p es (order_tail e es ordered)
  ]

  -- each key that a test keeps passes it
  pub kept_pass : (p : Cell → Bool) (es : List (Cell × X)) → AllByRecursion (λ k. p k ≡ true) (keys_of (filter (λ e. p e.0) es))
  kept_pass p [] = tt
  kept_pass p (e ∷ es) = elim (p e.0) as (λ b. p e.0 ≡ b → AllByRecursion (λ k. p k ≡ true) (keys_of (cond b (e ∷ filter (λ d. p d.0) es) (filter (λ d. p d.0) es)))) [
    | true ↦ λ h. (h, kept_pass p es)
    | false ↦ λ _. kept_pass p es
  ] refl

  -- tests that agree keep the same
  pub kept_alike : (p r : Cell × X → Bool) → ((e : Cell × X) → p e ≡ r e) → (es : List (Cell × X)) → filter p es ≡ filter r es
  kept_alike p r agree [] = refl
  kept_alike p r agree (e ∷ es) = ap (λ xs. cond (p e) (e ∷ xs) xs) (kept_alike p r agree es) ∙ ap (λ b. cond b (e ∷ filter r es) (filter r es)) (agree e)

  -- one test after another keeps what passes both
  pub kept_twice : (p r : Cell × X → Bool) (es : List (Cell × X)) → filter p (filter r es) ≡ filter (λ e. r e && p e) es
  kept_twice p r [] = refl
  kept_twice p r (e ∷ es) = elim (r e) as (λ b. filter p (cond b (e ∷ filter r es) (filter r es)) ≡ cond (b && p e) (e ∷ filter (λ d. r d && p d) es) (filter (λ d. r d && p d) es)) [
    | true ↦ ap (λ xs. cond (p e) (e ∷ xs) xs) (kept_twice p r es)
    | false ↦ kept_twice p r es
  ]

  -- a test that each cell passes keeps all
  pub kept_all : (p : Cell → Bool) (es : List (Cell × X)) → AllByRecursion (λ k. p k ≡ true) (keys_of es) → filter (λ e. p e.0) es ≡ es
  kept_all p [] each = refl
  kept_all p (e ∷ es) each = ap (λ b. cond b (e ∷ filter (λ d. p d.0) es) (filter (λ d. p d.0) es)) each.0 ∙ ap (λ xs. e ∷ xs) (kept_all p es each.1)

  -- no more are kept than there are
  pub kept_fewer : (p : Cell × X → Bool) (es : List (Cell × X)) → length (filter p es) ≤ length es
  kept_fewer p [] = omega arith
  kept_fewer p (e ∷ es) = elim (p e) as (λ b. length (cond b (e ∷ filter p es) (filter p es)) ≤ length (e ∷ es)) [
    | true ↦ omega (arith, kept_fewer p es)
    | false ↦ omega (arith, kept_fewer p es)
  ]

  -- ---- what is found
  -- what is found in two lists
  pub found_append : (q : Cell) (es fs : List (Cell × X)) → entry_at (es ++ fs) q ≡ option_or (entry_at es q) (entry_at fs q)
  found_append q [] fs = refl
  found_append q (e ∷ es) fs = elim (same_cell q e.0) as (λ b. cond b (Some e.1) (entry_at (es ++ fs) q) ≡ option_or (cond b (Some e.1) (entry_at es q)) (entry_at fs q)) [
    | true ↦ refl
    | false ↦ found_append q es fs
  ]

  -- a cell that none of the keys is isn't found
  pub found_none : (q : Cell) (es : List (Cell × X)) → AllByRecursion (λ k. same_cell q k ≡ false) (keys_of es) → entry_at es q ≡ None
  found_none q [] each = refl
  found_none q (e ∷ es) each = ap (λ b. cond b (Some e.1) (entry_at es q)) each.0 ∙ found_none q es each.1

  -- one that each key is greater than isn't found
  pub found_before : (q : Cell) (es : List (Cell × X)) → AllByRecursion (λ k. is_less q k ≡ true) (keys_of es) → entry_at es q ≡ None
  found_before q es each = found_none q es (keys_lead (λ k. is_less q k ≡ true) (λ k. same_cell q k ≡ false) (λ k h. less-differs q k h) (keys_of es) each)

  -- a cell that is found is that of the first entry, or is found behind it
  pub found_where : (q : Cell) (e : Cell × X) (es : List (Cell × X)) → is_some (entry_at (e ∷ es) q) ≡ true → (q ≡ e.0) ⊎ (is_some (entry_at es q) ≡ true)
  found_where q e es h = elim (same_cell q e.0) as (λ b. same_cell q e.0 ≡ b → is_some (cond b (Some e.1) (entry_at es q)) ≡ true → (q ≡ e.0) ⊎ (is_some (entry_at es q) ≡ true)) [
    | true ↦ λ is _. inl (same_cell_is q e.0 is)
    | false ↦ λ _ later. inr later
  ] refl h

  -- what holds of each key holds of each cell that is found
  pub at_key : (P : Cell → Type 0) (es : List (Cell × X)) (q : Cell) → is_some (entry_at es q) ≡ true → AllByRecursion P (keys_of es) → P q
  at_key P [] q h each = absurd (cc)
  at_key P (e ∷ es) q h each = ⊎_elim (λ is. subst P (sym is) each.0) (λ later. at_key P es q later each.1) (found_where q e es h)

  -- the first entry is found
  pub found_first : (e : Cell × X) (es : List (Cell × X)) → entry_at (e ∷ es) e.0 ≡ Some e.1
  found_first e es = ap (λ b. cond b (Some e.1) (entry_at es e.0)) (same_cells.refl e.0)

  -- ---- entries that look up alike
  -- the cell of the first entry is that of other entries' first one, or that one is less
  first_or_less : (d e : Cell × X) (ds es : List (Cell × X)) → AreInOrder (e ∷ es) → entry_at (d ∷ ds) d.0 ≡ entry_at (e ∷ es) d.0 → (d.0 ≡ e.0) ⊎ (is_less e.0 d.0 ≡ true)
  first_or_less d e ds es ordered alike = ⊎_elim inl (λ later. inr (at_key (λ k. is_less e.0 k ≡ true) es d.0 later (behind_first e es ordered)))
      (found_where d.0 e es (ap is_some (sym alike ∙ found_first d ds)))

  -- so it is that one
  same_first : (d e : Cell × X) (ds es : List (Cell × X)) → AreInOrder (d ∷ ds) → AreInOrder (e ∷ es) → ((q : Cell) → entry_at (d ∷ ds) q ≡ entry_at (e ∷ es) q) → d.0 ≡ e.0
  same_first d e ds es first second alike = ⊎_elim (λ is. is)
      (λ less. ⊎_elim sym (λ more. let no : is_less d.0 e.0 ≡ false = less-one_way e.0 d.0 less in absurd (cc)) (first_or_less e d es ds first (sym (alike e.0))))
      (first_or_less d e ds es second (alike d.0))

  -- a cell that isn't the first one is looked for behind it
  pub found_skips : (q : Cell) (e : Cell × X) (es : List (Cell × X)) → same_cell q e.0 ≡ false → entry_at (e ∷ es) q ≡ entry_at es q
  found_skips q e es differs = ap (λ b. cond b (Some e.1) (entry_at es q)) differs

  -- the cell of the first entry isn't found behind it
  found_once : (q : Cell) (e : Cell × X) (es : List (Cell × X)) → AreInOrder (e ∷ es) → q ≡ e.0 → entry_at es q ≡ None
  found_once q e es ordered is = found_before q es (subst (λ c. AllByRecursion (λ k. is_less c k ≡ true) (keys_of es)) (sym is) (behind_first e es ordered))

  -- behind first entries of one cell all look up alike too
  alike_behind : (d e : Cell × X) (ds es : List (Cell × X)) → AreInOrder (d ∷ ds) → AreInOrder (e ∷ es) → d.0 ≡ e.0 → (q : Cell) → entry_at (d ∷ ds) q ≡ entry_at (e ∷ es) q → entry_at ds q ≡ entry_at es q
  alike_behind d e ds es first second is q alike = elim (same_cell q d.0) as (λ b. same_cell q d.0 ≡ b → entry_at ds q ≡ entry_at es q) [
    | true ↦ λ same. found_once q d ds first (same_cell_is q d.0 same) ∙ sym (found_once q e es second (same_cell_is q d.0 same ∙ is))
    | false ↦ λ apart. sym (found_skips q d ds apart) ∙ alike ∙ found_skips q e es (ap (same_cell q) (sym is) ∙ apart)
  ] refl

  -- the value of the first entry
  same_value : (d e : Cell × X) (ds es : List (Cell × X)) → d.0 ≡ e.0 → entry_at (d ∷ ds) d.0 ≡ entry_at (e ∷ es) d.0 → d.1 ≡ e.1
  same_value d e ds es is alike =
      let some : Some d.1 ≡ Some e.1 = sym (found_first d ds) ∙ alike ∙ ap (entry_at (e ∷ es)) is ∙ found_first e es in
      cc

  -- entries in order in which every cell looks up alike are equal
  pub equal-alike : (a b : List (Cell × X)) → AreInOrder a → AreInOrder b → ((q : Cell) → entry_at a q ≡ entry_at b q) → a ≡ b
  equal-alike [] [] first second alike = refl
  equal-alike [] (e ∷ es) first second alike = let no : None ≡ Some e.1 = alike e.0 ∙ found_first e es in cc
  equal-alike (d ∷ ds) [] first second alike = let no : Some d.1 ≡ None = sym (found_first d ds) ∙ alike d.0 in cc
  equal-alike (d ∷ ds) (e ∷ es) first second alike =
      let is : d.0 ≡ e.0 = same_first d e ds es first second alike in
      let value : d.1 ≡ e.1 = same_value d e ds es is (alike d.0) in
      let rest : ds ≡ es = equal-alike ds es (order_tail d ds first) (order_tail e es second) (λ q. alike_behind d e ds es first second is q (alike q)) in
      ap (λ c. (c, d.1) ∷ ds) is ∙ ap (λ v. (e.0, v) ∷ ds) value ∙ ap (λ xs. e ∷ xs) rest
