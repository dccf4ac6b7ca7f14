-- A test of cells, one for each number of steps, that only ever loses formula cells, and that stays once
-- it loses none: after as many steps as there are formula cells it loses none.
use Rattle.std.proofs.Common.{◌≡◌, ℕ, zero, suc, ◌+◌, ◌≤◌, ◌⊎◌, inl, inr, Bool, true, false, cond, List, [], ◌∷◌, Some, None, refl, ap, sym, ◌∙◌, arith}
use Rattle.std.specs.List.{AllByRecursion, count_by}
use Rattle.std.proofs.lemmas.List.Sums.{sum_by-cons}
use Rattle.std.proofs.lemmas.Bool.{cases_lt}
use Rattle.cell_refs.specs.declared.grid.Cell.{Cell}
use Rattle.workbook.specs.declared.contents.Content.{Content}
use Rattle.workbook.specs.Book.{IsInOrder, content_at, has_formula, is_formula, formula_count}
use Rattle.workbook.proofs.Entries.{at_entry, own_content}

-- a cell with a formula has content
with_content : (book : List (Cell × Content)) (cell : Cell) → is_formula book cell ≡ true → (x : Content) × (content_at book cell ≡ Some x)
with_content book cell formula = elim (content_at book cell) as (λ o. has_formula o ≡ true → (x : Content) × (o ≡ Some x)) [
  | None ↦ λ h. absurd_none h
  | Some x ↦ λ h. (x, refl)
] formula
  where
    absurd_none : has_formula None ≡ true → (x : Content) × (None ≡ Some x)
    absurd_none h = cc

-- one more counted where the test passes
count_cons : {X : Type 0} (p : X → Bool) (x : X) (xs : List X) → count_by p (x ∷ xs) ≡ cond (p x) 1 0 + count_by p xs
count_cons p x xs = sum_by-cons (λ y. cond (p y) 1 0) x xs

abbrev one_if : Bool → ℕ
one_if b = cond b 1 0

-- a test that passes fewer counts fewer, and where it counts as many it is the same test
fewer : {X : Type 0} (p q : X → Bool) (xs : List X) → AllByRecursion (λ x. q x ≡ true → p x ≡ true) xs → count_by q xs ≤ count_by p xs
fewer p q [] each = omega arith
fewer p q (x ∷ xs) each =
    let rest = fewer p q xs each.1 in
    elim (q x) as (λ b. q x ≡ b → count_by q (x ∷ xs) ≤ count_by p (x ∷ xs)) [
      | true ↦ λ e. omega (arith, rest, count_cons p x xs, count_cons q x xs, ap one_if e, ap one_if (each.0 e))
      | false ↦ λ e. omega (arith, rest, count_cons p x xs, count_cons q x xs, ap one_if e)
    ] refl

alike : {X : Type 0} (p q : X → Bool) (xs : List X) → AllByRecursion (λ x. q x ≡ true → p x ≡ true) xs → count_by p xs ≤ count_by q xs → AllByRecursion (λ x. q x ≡ p x) xs
alike p q [] each counts = tt
alike p q (x ∷ xs) each counts =
    let rest = fewer p q xs each.1 in
    let cp = count_cons p x xs in
    let cq = count_cons q x xs in
    elim (p x) as (λ b. p x ≡ b → (q x ≡ p x) × AllByRecursion (λ y. q y ≡ p y) xs) [
      | true ↦ λ e. elim (q x) as (λ b. q x ≡ b → (q x ≡ p x) × AllByRecursion (λ y. q y ≡ p y) xs) [
        | true ↦ λ f. (f ∙ sym e, alike p q xs each.1 (omega (arith, counts, rest, cp, cq, ap one_if e, ap one_if f)))
        | false ↦ λ f. absurd (omega (arith, counts, rest, cp, cq, ap one_if e, ap one_if f))
      ] refl
      | false ↦ λ e. elim (q x) as (λ b. q x ≡ b → (q x ≡ p x) × AllByRecursion (λ y. q y ≡ p y) xs) [
        | true ↦ λ f. absurd_false (sym e ∙ each.0 f)
        | false ↦ λ f. (f ∙ sym e, alike p q xs each.1 (omega (arith, counts, rest, cp, cq, ap one_if e, ap one_if f)))
      ] refl
    ] refl
  where
    absurd_false : {P : Type 0} → false ≡ true → P
    absurd_false h = cc

each_of : {X : Type 0} (P : X → Type 0) → ((x : X) → P x) → (xs : List X) → AllByRecursion P xs
each_of P all [] = tt
each_of P all (x ∷ xs) = (all x, each_of P all xs)

each_where : {X : Type 0} (P Q : X → Type 0) → ((x : X) → P x → Q x) → (xs : List X) → AllByRecursion P xs → AllByRecursion Q xs
each_where P Q leads [] each = tt
each_where P Q leads (x ∷ xs) each = (leads x each.0, each_where P Q leads xs each.1)

module _ (book : List (Cell × Content)) (ordered : IsInOrder book) (p : ℕ → Cell → Bool) (formulas : (n : ℕ) (c : Cell) → p n c ≡ true → is_formula book c ≡ true) (falls : (n : ℕ) (c : Cell) → p (suc n) c ≡ true → p n c ≡ true) (goes_on : (n : ℕ) → ((c : Cell) → p (suc n) c ≡ p n c) → (c : Cell) → p (suc (suc n)) c ≡ p (suc n) c) where
  passing : ℕ → ℕ
  passing n = count_by (λ e. p n e.0) book

  falls_at : (n : ℕ) → AllByRecursion (λ (e : Cell × Content). p (suc n) e.0 ≡ true → p n e.0 ≡ true) book
  falls_at n = each_of _ (λ e. falls n e.0) book

  first_count : passing 0 ≤ formula_count book
  unfolding passing
  first_count = fewer (λ (e : Cell × Content). has_formula (Some e.1)) (λ e. p 0 e.0) book
      (each_where (λ (e : Cell × Content). content_at book e.0 ≡ Some e.1) _ (λ e own passes. ap has_formula (sym own) ∙ formulas 0 e.0 passes) book (own_content book ordered))

  fewer_next : (n : ℕ) → passing (suc n) ≤ passing n
  unfolding passing
  fewer_next n = fewer _ _ book (falls_at n)

  -- where no cell is lost on entries, none is lost at all
  stays_where : (n : ℕ) → AllByRecursion (λ (e : Cell × Content). p (suc n) e.0 ≡ p n e.0) book → (c : Cell) → p (suc n) c ≡ p n c
  stays_where n each c = elim (p n c) as (λ b. p n c ≡ b → p (suc n) c ≡ b) [
    | true ↦ λ e.
        let found = with_content book c (formulas n c e) in
        at_entry (λ d. p (suc n) d ≡ p n d) book c found.0 found.1 each ∙ e
    | false ↦ λ e. elim (p (suc n) c) as (λ b. p (suc n) c ≡ b → b ≡ false) [
      | true ↦ λ f. sym (sym e ∙ falls n c f)
      | false ↦ λ _. refl
    ] refl
  ] refl

  same_counts : (n : ℕ) → passing n ≤ passing (suc n) → (c : Cell) → p (suc n) c ≡ p n c
  unfolding passing
  same_counts n counts = stays_where n (alike _ _ book (falls_at n) counts)

  -- either the test has lost a cell at each step so far, or it loses none any more
  loses_or_stays : (n : ℕ) → (passing n + n ≤ formula_count book) ⊎ ((c : Cell) → p (suc n) c ≡ p n c)
  loses_or_stays zero = inl (omega (arith, first_count))
  loses_or_stays (suc n) = elim (loses_or_stays n) as (λ _. (passing (suc n) + suc n ≤ formula_count book) ⊎ ((c : Cell) → p (suc (suc n)) c ≡ p (suc n) c)) [
    | inl counts ↦ elim (cases_lt (passing (suc n)) (passing n)) as (λ _. (passing (suc n) + suc n ≤ formula_count book) ⊎ ((c : Cell) → p (suc (suc n)) c ≡ p (suc n) c)) [
      | inl less ↦ inl (omega (arith, less, counts))
      | inr same ↦ inr (goes_on n (same_counts n same))
    ]
    | inr stays ↦ inr (goes_on n stays)
  ]

  -- after as many steps as there are formula cells no cell is lost
  pub settled : (c : Cell) → p (suc (formula_count book)) c ≡ p (formula_count book) c
  settled = elim (loses_or_stays (formula_count book)) as (λ _. (c : Cell) → p (suc (formula_count book)) c ≡ p (formula_count book) c) [
    | inl counts ↦ same_counts (formula_count book) (omega (arith, counts))
    | inr stays ↦ stays
  ]
