-- Circular cells: from a circular cell there are walks of every length, and a cell is circular exactly
-- where it names a circular one.
use Rattle.std.proofs.Common.{◌≡◌, ℕ, zero, suc, Bool, true, false, ◌||◌, List, [], ◌∷◌, Option, Some, None, refl, ap, sym, ◌∙◌}
use Rattle.std.specs.List.{list_any}
use Rattle.cell_refs.specs.declared.grid.Cell.{Cell}
use Rattle.workbook.specs.declared.contents.Content.{Content}
use Rattle.workbook.specs.declared.contents.Content.TheVariants as contents
use Rattle.workbook.specs.Book.{IsInOrder, content_at, has_formula, content_precedents, is_formula, cell_precedents, formula_count}
use Rattle.workbook.specs.Circular.{walks_on, is_circular}
use Rattle.workbook.proofs.Settling.{settled}

-- a test that leads to another, of some element
pub any_leads : {X : Type 0} (p q : X → Bool) → ((x : X) → p x ≡ true → q x ≡ true) → (xs : List X) → list_any p xs ≡ true → list_any q xs ≡ true
any_leads p q leads [] h = h
any_leads p q leads (x ∷ xs) h = elim (p x) as (λ b. p x ≡ b → (b || list_any p xs) ≡ true → (q x || list_any q xs) ≡ true) [
  | true ↦ λ e _. ap (λ b. b || list_any q xs) (leads x e)
  | false ↦ λ e later. elim (q x) as (λ b. (b || list_any q xs) ≡ true) [ true ↦ refl | false ↦ any_leads p q leads xs later ]
] refl h

pub any_alike : {X : Type 0} (p q : X → Bool) → ((x : X) → p x ≡ q x) → (xs : List X) → list_any p xs ≡ list_any q xs
any_alike p q alike [] = refl
any_alike p q alike (x ∷ xs) = cc_or (alike x) (any_alike p q alike xs)
  where
    cc_or : {a b c d : Bool} → a ≡ b → c ≡ d → (a || c) ≡ (b || d)
    cc_or e f = cc

-- only a formula names cells
only_formulas : (content : Option Content) (home : ℕ) (p : Cell → Bool) → list_any p (content_precedents content home) ≡ true → has_formula content ≡ true
only_formulas None home p h = h
only_formulas (Some (contents.Num n)) home p h = h
only_formulas (Some (contents.Text t)) home p h = h
only_formulas (Some (contents.Bool b)) home p h = h
only_formulas (Some (contents.Error e)) home p h = h
only_formulas (Some (contents.Formula tree)) home p h = refl

pub walks-formula : (book : List (Cell × Content)) (n : ℕ) (c : Cell) → walks_on book n c ≡ true → is_formula book c ≡ true
walks-formula book zero c h = h
walks-formula book (suc n) c h = only_formulas (content_at book c) c.sheet (walks_on book n) h

-- a longer walk begins with a shorter one
pub walks-shorter : (book : List (Cell × Content)) (n : ℕ) (c : Cell) → walks_on book (suc n) c ≡ true → walks_on book n c ≡ true
walks-shorter book zero c h = walks-formula book 1 c h
walks-shorter book (suc n) c h = any_leads _ _ (walks-shorter book n) (cell_precedents book c) h

walks-goes_on : (book : List (Cell × Content)) (n : ℕ) → ((c : Cell) → walks_on book (suc n) c ≡ walks_on book n c) → (c : Cell) → walks_on book (suc (suc n)) c ≡ walks_on book (suc n) c
walks-goes_on book n stays c = any_alike _ _ stays (cell_precedents book c)

-- a cell is circular exactly where it names a circular cell
pub circular-names : (book : List (Cell × Content)) → IsInOrder book → (c : Cell) → is_circular book c ≡ list_any (is_circular book) (cell_precedents book c)
circular-names book ordered c = sym (settled book ordered (walks_on book) (walks-formula book) (walks-shorter book) (walks-goes_on book) c)

-- from a circular cell there is a walk of every length
pub circular-walks : (book : List (Cell × Content)) → IsInOrder book → (n : ℕ) (c : Cell) → is_circular book c ≡ true → walks_on book n c ≡ true
circular-walks book ordered zero c h = walks-formula book (formula_count book) c h
circular-walks book ordered (suc n) c h = any_leads _ _ (circular-walks book ordered n) (cell_precedents book c) (sym (circular-names book ordered c) ∙ h)
