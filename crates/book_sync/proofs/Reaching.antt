-- What is reached along the cells that cells name.
use Rattle.std.proofs.Common.{◌≡◌, ℕ, zero, suc, Bool, true, false, ◌||◌, List, [], ◌∷◌, ⊎_elim, refl, ap, sym, subst, ◌∙◌}
use Rattle.std.specs.List.{list_any}
use Rattle.std.proofs.lemmas.Bool.{or_cases, or_left, or_right}
use Rattle.cell_refs.specs.declared.grid.Cell.{Cell}
use Rattle.cell_refs.specs.Cell.{is_among}
use Rattle.cell_refs.specs.Reaching.{reaches}
use Rattle.cell_refs.proofs.PublicLaws.{found_among, some_among}
use Rattle.workbook.specs.declared.contents.Content.{Content}
use Rattle.workbook.specs.Book.{IsInOrder, cell_precedents, content_at, content_precedents, formula_count}
use Rattle.workbook.proofs.PublicLaws.{any_alike, any_leads, reaches-among, reaches-enough}

-- cells that name the same reach the same targets
pub reaches-alike : (names others : Cell → List Cell) (targets same : List Cell) → ((q : Cell) → names q ≡ others q) → ((q : Cell) → is_among targets q ≡ is_among same q)
    → (n : ℕ) (q : Cell) → reaches names targets n q ≡ reaches others same n q
reaches-alike names others targets same named alike zero q = alike q
reaches-alike names others targets same named alike (suc n) q =
    ap (λ b. b || list_any (reaches names targets n) (names q)) (alike q)
    ∙ ap (λ b. is_among same q || b) (ap (list_any (reaches names targets n)) (named q) ∙ any_alike _ _ (reaches-alike names others targets same named alike n) (others q))

none-any : (p : Cell → Bool) → ((q : Cell) → p q ≡ false) → (cells : List Cell) → list_any p cells ≡ false
none-any p none [] = refl
none-any p none (c ∷ cells) = ap (λ b. b || list_any p cells) (none c) ∙ none-any p none cells

-- nothing is reached where there are no targets
pub reaches-none : (names : Cell → List Cell) (n : ℕ) (q : Cell) → reaches names [] n q ≡ false
reaches-none names zero q = refl
reaches-none names (suc n) q = none-any (reaches names [] n) (reaches-none names n) (names q)

-- where something is reached there is a target
pub reaches-some : (names : Cell → List Cell) (targets : List Cell) (n : ℕ) (q : Cell) → reaches names targets n q ≡ true → (c : Cell) × (is_among targets c ≡ true)
reaches-some names targets zero q h = (q, h)
reaches-some names targets (suc n) q h =
    ⊎_elim (λ here. (q, here))
    (λ later. let found = found_among (reaches names targets n) (names q) later in reaches-some names targets n found.0 found.2)
    (or_cases (is_among targets q) _ h)

-- what is reached in any number of steps is reached in as many as there are formula cells
pub reaches-within : (book : List (Cell × Content)) → IsInOrder book → (changed : List Cell) (n : ℕ) (q : Cell)
    → reaches (cell_precedents book) changed n q ≡ true → reaches (cell_precedents book) changed (formula_count book) q ≡ true
reaches-within book ordered changed zero q h = reaches-among book ordered changed (formula_count book) q h
reaches-within book ordered changed (suc n) q h =
    sym (reaches-enough book ordered changed q)
    ∙ ⊎_elim (λ here. or_left (is_among changed q) _ here)
    (λ later. or_right (is_among changed q) _ (any_leads _ _ (reaches-within book ordered changed n) (cell_precedents book q) later))
    (or_cases (is_among changed q) _ h)

-- after an edit of changed cells alone a changed cell is reached from where one was
pub reaches-still : (before now : List (Cell × Content)) (changed later : List Cell)
    → ((q : Cell) → is_among later q ≡ false → content_at before q ≡ content_at now q) → ((q : Cell) → is_among changed q ≡ true → is_among later q ≡ true)
    → (n : ℕ) (q : Cell) → reaches (cell_precedents before) changed n q ≡ true → reaches (cell_precedents now) later n q ≡ true
reaches-still before now changed later kept more zero q h = more q h
reaches-still before now changed later kept more (suc n) q h =
    elim (is_among later q) as (λ b. is_among later q ≡ b → reaches (cell_precedents now) later (suc n) q ≡ true) [
      | true ↦ λ here. or_left (is_among later q) _ here
      | false ↦ λ none. ⊎_elim
          (λ here. or_left (is_among later q) _ (more q here))
          (λ on.
          let found = found_among (reaches (cell_precedents before) changed n) (cell_precedents before q) on in
          let same : cell_precedents before q ≡ cell_precedents now q = ap (λ o. content_precedents o q.sheet) (kept q none) in
          or_right (is_among later q) _ (some_among (reaches (cell_precedents now) later n) (cell_precedents now q) found.0
          (subst (λ cells. is_among cells found.0 ≡ true) same found.1)
          (reaches-still before now changed later kept more n found.0 found.2)))
          (or_cases (is_among changed q) _ h)
    ] refl
