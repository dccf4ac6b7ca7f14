-- Going through a book cell by cell, and the list of its formula cells.
use Rattle.std.proofs.Common.{◌≡◌, suc, Bool, true, false, cond, List, [], ◌∷◌, ◌++◌, length, Option, Some, None, is_some, refl, ap, sym, subst, ◌∙◌}
use Rattle.std.specs.List.{list_any, filter, AllByRecursion}
use Rattle.std.specs.Map.{keys_of}
use Rattle.std.specs.Ordering.{is_lt, is_eq, ordering_reverse}
use Rattle.std.specs.declared.cmp.Ordering.{Ordering}
use Rattle.std.specs.declared.cmp.Ordering.TheVariants.{Less, Equal, Greater}
use Rattle.std.proofs.lemmas.Map.Keys.{sorted_head, sorted_tail, IsDistinct-from_sorted}
use Rattle.std.proofs.lemmas.Map.Entries.{length-keys_of, lookup-filter-values, option_filter}
use Rattle.std.proofs.lemmas.Map.Made.{is_some-lookup}
use Rattle.std.proofs.lemmas.List.Sums.{length-filter}
use Rattle.cell_refs.specs.declared.grid.Cell.{Cell}
use Rattle.cell_refs.specs.Cell.{cell_cmp, same_cell}
use Rattle.cell_refs.proofs.PublicLaws.{cells_total, same_cells}
use Rattle.workbook.specs.declared.contents.Content.{Content}
use Rattle.workbook.specs.Book.{IsInOrder, content_at, has_formula, is_formula, formula_cells, formula_count, cells_after, first_cell, next_cell}
use Rattle.workbook.proofs.Entries.{own_content}

pub formula_cells-count : (book : List (Cell × Content)) → length (formula_cells book) ≡ formula_count book
formula_cells-count book = length-keys_of (filter (λ e. has_formula (Some e.1)) book) ∙ length-filter (λ e. has_formula (Some e.1)) book

formula_alike : (o : Option Content) → is_some (option_filter (λ x. has_formula (Some x)) o) ≡ has_formula o
formula_alike None = refl
formula_alike (Some x) = elim (has_formula (Some x)) as (λ b. is_some (cond b (Some x) None) ≡ b) [ true ↦ refl | false ↦ refl ]

-- the list of the formula cells has exactly those
pub formula_cells-has : (book : List (Cell × Content)) → IsInOrder book → (c : Cell) → list_any (same_cell c) (formula_cells book) ≡ is_formula book c
formula_cells-has book ordered c =
    sym (is_some-lookup (same_cell c) (filter (λ e. has_formula (Some e.1)) book))
    ∙ ap is_some (lookup-filter-values same_cells (λ x. has_formula (Some x)) c book (IsDistinct-from_sorted cell_cmp (keys_of book) ordered))
    ∙ formula_alike (content_at book c)

filter_all : (p : Cell → Bool) (es : List (Cell × Content)) → AllByRecursion (λ k. p k ≡ true) (keys_of es) → filter (λ e. p e.0) es ≡ es
filter_all p [] each = refl
filter_all p (e ∷ es) each = ap (λ b. cond b (e ∷ filter (λ d. p d.0) es) (filter (λ d. p d.0) es)) each.0 ∙ ap (λ ds. e ∷ ds) (filter_all p es each.1)

each_kept : (P : Cell × Content → Type 0) (p : Cell × Content → Bool) (es : List (Cell × Content)) → AllByRecursion P es → AllByRecursion P (filter p es)
each_kept P p [] each = tt
each_kept P p (e ∷ es) each = elim (p e) as (λ b. AllByRecursion P (cond b (e ∷ filter p es) (filter p es))) [
  | true ↦ (each.0, each_kept P p es each.1)
  | false ↦ each_kept P p es each.1
]

each_leads : (P Q : Cell → Type 0) → ((k : Cell) → P k → Q k) → (ks : List Cell) → AllByRecursion P ks → AllByRecursion Q ks
each_leads P Q leads [] each = tt
each_leads P Q leads (k ∷ ks) each = (leads k each.0, each_leads P Q leads ks each.1)

first_in : (P : Cell → Type 0) (p : Cell → Bool) (es : List (Cell × Content)) (c : Cell) → first_cell (filter (λ e. p e.0) es) ≡ Some c → AllByRecursion P (keys_of es) → P c
first_in P p [] c h each = cc
first_in P p (e ∷ es) c h each = elim (p e.0) as (λ b. first_cell (cond b (e ∷ filter (λ d. p d.0) es) (filter (λ d. p d.0) es)) ≡ Some c → P c) [
  | true ↦ λ f. let is : e.0 ≡ c = cc in subst P is each.0
  | false ↦ λ f. first_in P p es c f each.1
] h

not_less : (o : Ordering) → is_eq o ≡ true → is_lt o ≡ false
not_less Less h = cc
not_less Equal h = refl
not_less Greater h = cc

greater_not_less : (o p : Ordering) → o ≡ ordering_reverse p → p ≡ Less → is_lt o ≡ false
greater_not_less o Less e h = ap is_lt e
greater_not_less o Equal e h = cc
greater_not_less o Greater e h = cc

not_after_itself : (c : Cell) → is_lt (cell_cmp c c) ≡ false
not_after_itself c = not_less (cell_cmp c c) (same_cells.refl c)

-- behind the first cell of a part in order stands the rest of it
rest_after : (e : Cell × Content) (es : List (Cell × Content)) → IsInOrder (e ∷ es) → filter (λ d. is_lt (cell_cmp e.0 d.0)) (e ∷ es) ≡ es
rest_after e es ordered =
    ap (λ b. cond b (e ∷ filter (λ d. is_lt (cell_cmp e.0 d.0)) es) (filter (λ d. is_lt (cell_cmp e.0 d.0)) es)) (not_after_itself e.0)
    ∙ filter_all (λ k. is_lt (cell_cmp e.0 k)) es (each_leads _ _ (λ k less. ap is_lt less) (keys_of es) (sorted_head cell_cmp e.0 (keys_of es) ordered))

-- the first cell after a, and what stands after that cell
after_step : (a c : Cell) (es : List (Cell × Content)) → IsInOrder es → first_cell (filter (λ d. is_lt (cell_cmp a d.0)) es) ≡ Some c
    → (x : Content) × (filter (λ d. is_lt (cell_cmp a d.0)) es ≡ (c, x) ∷ filter (λ d. is_lt (cell_cmp c d.0)) es)
after_step a c [] ordered h = cc
after_step a c (e ∷ es) ordered h =
    let tail = sorted_tail cell_cmp e.0 (keys_of es) ordered in
    let above = sorted_head cell_cmp e.0 (keys_of es) ordered in
    elim (cell_cmp a e.0) as (λ o. cell_cmp a e.0 ≡ o → first_cell (cond (is_lt o) (e ∷ filter (λ d. is_lt (cell_cmp a d.0)) es) (filter (λ d. is_lt (cell_cmp a d.0)) es)) ≡ Some c
    → (x : Content) × (cond (is_lt o) (e ∷ filter (λ d. is_lt (cell_cmp a d.0)) es) (filter (λ d. is_lt (cell_cmp a d.0)) es) ≡ (c, x) ∷ filter (λ d. is_lt (cell_cmp c d.0)) (e ∷ es))) [
      | Less ↦ λ less f.
          let is : e.0 ≡ c = cc in
          let kept = filter_all (λ k. is_lt (cell_cmp a k)) es (each_leads _ _ (λ k more. ap is_lt (cells_total.trans a e.0 k less more)) (keys_of es) above) in
          subst (λ d. (x : Content) × (e ∷ filter (λ g. is_lt (cell_cmp a g.0)) es ≡ (d, x) ∷ filter (λ g. is_lt (cell_cmp d g.0)) (e ∷ es))) is
          (e.1, ap (λ ds. e ∷ ds) (kept ∙ sym (rest_after e es ordered)))
      | Equal ↦ λ _ f. later above f (after_step a c es tail f)
      | Greater ↦ λ _ f. later above f (after_step a c es tail f)
    ] refl h
  where
    later : AllByRecursion (λ k. cell_cmp e.0 k ≡ Less) (keys_of es) → first_cell (filter (λ d. is_lt (cell_cmp a d.0)) es) ≡ Some c
        → ((x : Content) × (filter (λ d. is_lt (cell_cmp a d.0)) es ≡ (c, x) ∷ filter (λ d. is_lt (cell_cmp c d.0)) es))
        → (x : Content) × (filter (λ d. is_lt (cell_cmp a d.0)) es ≡ (c, x) ∷ filter (λ d. is_lt (cell_cmp c d.0)) (e ∷ es))
    later above f r =
        let behind = greater_not_less (cell_cmp c e.0) (cell_cmp e.0 c) (cells_total.antisymm c e.0) (first_in (λ k. cell_cmp e.0 k ≡ Less) (λ k. is_lt (cell_cmp a k)) es c f above) in
        let skipped = ap (λ b. cond b (e ∷ filter (λ d. is_lt (cell_cmp c d.0)) es) (filter (λ d. is_lt (cell_cmp c d.0)) es)) behind in
        (r.0, r.1 ∙ ap (λ ds. (c, r.0) ∷ ds) (sym skipped))

first_step : (book : List (Cell × Content)) → IsInOrder book → (c : Cell) → first_cell book ≡ Some c → (x : Content) × (book ≡ (c, x) ∷ cells_after (Some c) book)
first_step [] ordered c h = cc
first_step (e ∷ es) ordered c h =
    let is : e.0 ≡ c = cc in
    subst (λ d. (x : Content) × (e ∷ es ≡ (d, x) ∷ cells_after (Some d) (e ∷ es))) is (e.1, ap (λ ds. e ∷ ds) (sym (rest_after e es ordered)))

-- the first entry of a part of a book has its cell's content
own_first : (book part : List (Cell × Content)) (c : Cell) (x : Content) (rest : List (Cell × Content)) → AllByRecursion (λ e. content_at book e.0 ≡ Some e.1) part → part ≡ (c, x) ∷ rest → content_at book c ≡ Some x
own_first book part c x rest each is = (subst (λ es. AllByRecursion (λ e. content_at book e.0 ≡ Some e.1) es) is each).0

-- the step of a walk through a book: its first cell that is left, with its content, and the rest
pub next-step : (book : List (Cell × Content)) → IsInOrder book → (start : Option Cell) (c : Cell) → next_cell book start ≡ Some c
    → (x : Content) × (content_at book c ≡ Some x) × (cells_after start book ≡ (c, x) ∷ cells_after (Some c) book)
next-step book ordered None c h =
    let r = first_step book ordered c h in
    (r.0, own_first book book c r.0 _ (own_content book ordered) r.1, r.1)
next-step book ordered (Some a) c h =
    let r = after_step a c book ordered h in
    (r.0, own_first book _ c r.0 _ (each_kept (λ e. content_at book e.0 ≡ Some e.1) (λ e. is_lt (cell_cmp a e.0)) book (own_content book ordered)) r.1, r.1)

-- what a step of a walk leaves to go through
pub next-shorter : (book : List (Cell × Content)) → IsInOrder book → (start : Option Cell) (c : Cell) → next_cell book start ≡ Some c
    → length (cells_after start book) ≡ suc (length (cells_after (Some c) book))
next-shorter book ordered start c h = ap length (next-step book ordered start c h).2

-- the formula cells of what is left, at a step of a walk
pub next-formulas : (book : List (Cell × Content)) → IsInOrder book → (start : Option Cell) (c : Cell) → next_cell book start ≡ Some c
    → formula_cells (cells_after start book) ≡ cond (is_formula book c) (c ∷ []) [] ++ formula_cells (cells_after (Some c) book)
next-formulas book ordered start c h =
    let step = next-step book ordered start c h in
    ap formula_cells step.2
    ∙ first_formula step.0 (cells_after (Some c) book)
    ∙ ap (λ o. cond (has_formula o) (c ∷ []) [] ++ formula_cells (cells_after (Some c) book)) (sym step.1)
  where
    first_formula : (x : Content) (rest : List (Cell × Content)) → formula_cells ((c, x) ∷ rest) ≡ cond (has_formula (Some x)) (c ∷ []) [] ++ formula_cells rest
    first_formula x rest = elim (has_formula (Some x)) as (λ b. keys_of (cond b ((c, x) ∷ filter (λ e. has_formula (Some e.1)) rest) (filter (λ e. has_formula (Some e.1)) rest)) ≡ cond b (c ∷ []) [] ++ formula_cells rest) [
      | true ↦ refl
      | false ↦ refl
    ]
