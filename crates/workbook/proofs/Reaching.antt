-- Reaching a changed cell: as many steps as there are formula cells are enough.
use Rattle.std.proofs.Common.{◌≡◌, ℕ, zero, suc, Bool, true, false, ◌||◌, ◌&&◌, not, List, Option, Some, None, refl, ap, sym, ◌∙◌}
use Rattle.std.specs.List.{list_any}
use Rattle.cell_refs.specs.declared.grid.Cell.{Cell}
use Rattle.workbook.specs.declared.contents.Content.{Content}
use Rattle.workbook.specs.declared.contents.Content.TheVariants as contents
use Rattle.workbook.specs.Book.{IsInOrder, content_at, has_formula, content_precedents, is_formula, cell_precedents, formula_count}
use Rattle.cell_refs.specs.Cell.{is_among}
use Rattle.workbook.specs.Stale.{reaches}
use Rattle.workbook.proofs.Settling.{settled}
use Rattle.workbook.proofs.Walking.{any_leads, any_alike}

-- of two tests the first alone
pub or_false : (a b : Bool) → (a || b) ≡ false → (a ≡ false) × (b ≡ false)
or_false true b h = (h, cc)
or_false false b h = (refl, h)

pub or_left : (a b : Bool) → a ≡ true → (a || b) ≡ true
or_left true b h = refl
or_left false b h = cc

or_both : (a b c : Bool) → (b ≡ true → c ≡ true) → (a || b) ≡ true → (a || c) ≡ true
or_both true b c leads h = refl
or_both false b c leads h = leads h

-- what is reached in some steps is reached in one more
pub reaches-more : (book : List (Cell × Content)) (changed : List Cell) (n : ℕ) (c : Cell) → reaches book changed n c ≡ true → reaches book changed (suc n) c ≡ true
reaches-more book changed zero c h = or_left _ _ h
reaches-more book changed (suc n) c h = or_both (is_among changed c) _ _ (any_leads _ _ (reaches-more book changed n) (cell_precedents book c)) h

-- a cell without a formula is reached only where it is changed itself
no_steps : (content : Option Content) (home : ℕ) (p : Cell → Bool) → has_formula content ≡ false → list_any p (content_precedents content home) ≡ false
no_steps None home p h = refl
no_steps (Some (contents.Num n)) home p h = refl
no_steps (Some (contents.Text t)) home p h = refl
no_steps (Some (contents.Bool b)) home p h = refl
no_steps (Some (contents.Error e)) home p h = refl
no_steps (Some (contents.Formula tree)) home p h = cc

or_none : (a b : Bool) → b ≡ false → (a || b) ≡ a
or_none true b h = refl
or_none false b h = h

pub reaches-constant : (book : List (Cell × Content)) (changed : List Cell) (n : ℕ) (c : Cell) → is_formula book c ≡ false → reaches book changed n c ≡ is_among changed c
reaches-constant book changed zero c h = refl
reaches-constant book changed (suc n) c h = or_none _ _ (no_steps (content_at book c) c.sheet (reaches book changed n) h)

module _ (book : List (Cell × Content)) (ordered : IsInOrder book) (changed : List Cell) where
  -- a formula cell from which no changed cell is reached so far
  unreached : ℕ → Cell → Bool
  unreached n c = is_formula book c && not (reaches book changed n c)

  unreached-formula : (n : ℕ) (c : Cell) → unreached n c ≡ true → is_formula book c ≡ true
  unfolding unreached
  unreached-formula n c h = elim (is_formula book c) as (λ b. (b && not (reaches book changed n c)) ≡ true → b ≡ true) [ true ↦ λ _. refl | false ↦ λ e. e ] h

  and_not : (a b c : Bool) → (c ≡ true → b ≡ true) → (a && not b) ≡ true → (a && not c) ≡ true
  and_not false b c leads h = h
  and_not true true c leads h = cc
  and_not true false true leads h = leads refl
  and_not true false false leads h = refl

  unreached-falls : (n : ℕ) (c : Cell) → unreached (suc n) c ≡ true → unreached n c ≡ true
  unfolding unreached
  unreached-falls n c h = and_not (is_formula book c) _ _ (reaches-more book changed n c) h

  not_alike : (a b : Bool) → (true && not a) ≡ (true && not b) → a ≡ b
  not_alike true true h = refl
  not_alike false false h = refl
  not_alike true false h = cc
  not_alike false true h = cc

  -- where no formula cell is lost, every cell is reached in as many steps as before
  reached_alike : (n : ℕ) → ((c : Cell) → unreached (suc n) c ≡ unreached n c) → (c : Cell) → reaches book changed (suc n) c ≡ reaches book changed n c
  unfolding unreached
  reached_alike n stays c = elim (is_formula book c) as (λ b. is_formula book c ≡ b → (b && not (reaches book changed (suc n) c)) ≡ (b && not (reaches book changed n c)) → reaches book changed (suc n) c ≡ reaches book changed n c) [
    | true ↦ λ _ h. not_alike _ _ h
    | false ↦ λ e _. reaches-constant book changed (suc n) c e ∙ sym (reaches-constant book changed n c e)
  ] refl (stays c)

  reaches-goes_on : (n : ℕ) → ((c : Cell) → reaches book changed (suc n) c ≡ reaches book changed n c) → (c : Cell) → reaches book changed (suc (suc n)) c ≡ reaches book changed (suc n) c
  reaches-goes_on n stays c = ap (λ b. is_among changed c || b) (any_alike _ _ stays (cell_precedents book c))

  unreached-goes_on : (n : ℕ) → ((c : Cell) → unreached (suc n) c ≡ unreached n c) → (c : Cell) → unreached (suc (suc n)) c ≡ unreached (suc n) c
  unfolding unreached
  unreached-goes_on n stays c = ap (λ b. is_formula book c && not b) (reaches-goes_on n (reached_alike n stays) c)

  -- one more step reaches no more
  pub reaches-enough : (c : Cell) → reaches book changed (suc (formula_count book)) c ≡ reaches book changed (formula_count book) c
  reaches-enough = reached_alike (formula_count book) (settled book ordered unreached unreached-formula unreached-falls unreached-goes_on)

  pub reaches-among : (n : ℕ) (c : Cell) → is_among changed c ≡ true → reaches book changed n c ≡ true
  reaches-among zero c h = h
  reaches-among (suc n) c h = or_left _ _ h

  -- what is reached in any number of steps is reached in as many as there are formula cells
  pub reaches-within : (n : ℕ) (c : Cell) → reaches book changed n c ≡ true → reaches book changed (formula_count book) c ≡ true
  reaches-within zero c h = reaches-among (formula_count book) c h
  reaches-within (suc n) c h = sym (reaches-enough c) ∙ or_both (is_among changed c) _ _ (any_leads _ _ (reaches-within n) (cell_precedents book c)) h
