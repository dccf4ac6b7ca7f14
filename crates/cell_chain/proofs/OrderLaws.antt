-- Which cells a chain has after a call.
use Rattle.std.proofs.Common.{◌≡◌, ℕ, ◌+◌, Bool, true, false, not, cond, ◌||◌, ◌&&◌, Some, List, [], ◌∷◌, ◌++◌, take, drop, refl, ap, sym, ◌∙◌}
use Rattle.std.specs.List.{filter}
use Rattle.std.specs.Prelude.{insert}
use Rattle.std.proofs.lemmas.Bool.{or_left}
use Rattle.std.proofs.lemmas.List.{take-append-drop}
use Rattle.std.proofs.lemmas.List.Folds.{list_any-append}
use Rattle.cell_refs.specs.declared.grid.Cell.{Cell}
use Rattle.cell_refs.specs.Cell.{is_among, same_cell}
use Rattle.cell_refs.proofs.PublicLaws.{same_cell_is, same_cells}
use Rattle.cell_chain.specs.CellOrder.{CellOrder, IsCellChain, behind_first, entries_among, first_of, moved_behind, place_of, without}

-- a filter has the cells that pass
among-filter : (p : Cell → Bool) (cells : List Cell) (q : Cell) → is_among (filter p cells) q ≡ (is_among cells q && p q)
among-filter p [] q = refl
among-filter p (c ∷ cells) q = elim (p c) as (λ b. p c ≡ b → is_among (cond b (c ∷ filter p cells) (filter p cells)) q ≡ ((same_cell q c || is_among cells q) && p q)) [
  | true ↦ λ e. ap (λ b. same_cell q c || b) (among-filter p cells q) ∙ taken (same_cell q c) (is_among cells q) (p q) (λ same. ap p (same_cell_is q c same) ∙ e)
  | false ↦ λ e. among-filter p cells q ∙ passed (same_cell q c) (is_among cells q) (p q) (λ same. ap p (same_cell_is q c same) ∙ e)
] refl
  where
    taken : (a b t : Bool) → (a ≡ true → t ≡ true) → (a || (b && t)) ≡ ((a || b) && t)
    taken true b t f = sym (f refl)
    taken false b t f = refl

    passed : (a b t : Bool) → (a ≡ true → t ≡ false) → (b && t) ≡ ((a || b) && t)
    passed true true t f = refl
    passed true false t f = sym (f refl)
    passed false b t f = refl

-- after an append
pub among-append : (cells : List Cell) (cell q : Cell) → is_among (cells ++ cell ∷ []) q ≡ (is_among cells q || same_cell q cell)
among-append cells cell q = list_any-append (same_cell q) cells (cell ∷ []) ∙ ap (λ b. is_among cells q || b) (lone (same_cell q cell))
  where
    lone : (b : Bool) → (b || false) ≡ b
    lone true = refl
    lone false = refl

-- after a removal
pub among-without : (cells : List Cell) (cell q : Cell) → is_among (without cells cell) q ≡ (is_among cells q && not (same_cell q cell))
among-without cells cell q = among-filter (λ c. not (same_cell c cell)) cells q

-- after a rewind
pub among-entries_among : (entries cells : List Cell) (q : Cell) → is_among (entries_among entries cells) q ≡ (is_among entries q && is_among cells q)
among-entries_among entries cells q = among-filter (is_among cells) entries q

-- a cell that is moved is neither lost nor doubled for the test
pub among-moved : (cells : List Cell) (x y q : Cell) → is_among cells x ≡ true → is_among (moved_behind cells x y) q ≡ is_among cells q
among-moved cells x y q here =
    inserted (without cells x) (place_of (without cells x) y + 1)
    ∙ ap (λ b. same_cell q x || b) (among-without cells x q)
    ∙ again (same_cell q x) refl
  where
    exchange : (a b t : Bool) → (a || (b || t)) ≡ (b || (a || t))
    exchange true true t = refl
    exchange true false t = refl
    exchange false b t = refl

    inserted : (others : List Cell) (i : ℕ) → is_among (insert others i x) q ≡ (same_cell q x || is_among others q)
    inserted others i =
        list_any-append (same_cell q) (take i others) (x ∷ drop i others)
        ∙ exchange (is_among (take i others) q) (same_cell q x) (is_among (drop i others) q)
        ∙ ap (λ b. same_cell q x || b) (sym (list_any-append (same_cell q) (take i others) (drop i others)) ∙ ap (λ cs. is_among cs q) (take-append-drop i others))

    all : (t : Bool) → (t && true) ≡ t
    all true = refl
    all false = refl

    again : (b : Bool) → same_cell q x ≡ b → (b || (is_among cells q && not b)) ≡ is_among cells q
    again true e = sym (ap (is_among cells) (same_cell_is q x e) ∙ here)
    again false e = all (is_among cells q)

-- what is due is an entry
pub due-among : (chain : CellOrder) → IsCellChain chain → (q : Cell) → is_among chain.due q ≡ true → is_among chain.entries q ≡ true
due-among chain is q h = first (is_among chain.entries q) (is_among chain.due q) (sym (among-entries_among chain.entries chain.due q) ∙ ap (λ cells. is_among cells q) is.due ∙ h)
  where
    first : (a b : Bool) → (a && b) ≡ true → a ≡ true
    first true b h = refl
    first false b h = h

-- the first that is due, and those behind it
pub due-split : (due : List Cell) (cell : Cell) → first_of due ≡ Some cell → due ≡ cell ∷ behind_first due
due-split [] cell h = cc
due-split (c ∷ due) cell h = let same : c ≡ cell = cc in ap (λ d. d ∷ due) same

pub first-among : (due : List Cell) (cell : Cell) → first_of due ≡ Some cell → is_among due cell ≡ true
first-among due cell h = ap (λ cells. is_among cells cell) (due-split due cell h) ∙ or_left (same_cell cell cell) _ (same_cells.refl cell)
