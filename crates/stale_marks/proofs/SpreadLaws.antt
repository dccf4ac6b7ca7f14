-- What one more marked cell makes of what has spread.
use Rattle.std.proofs.Common.{◌≡◌, Bool, true, false, cond, ◌||◌, List, [], ◌∷◌, ◌++◌, ◌⊎◌, ⊎_elim, inl, inr, refl, ap, sym, subst, ◌∙◌}
use Rattle.std.specs.List.{IsDistinct}
use Rattle.std.proofs.lemmas.Bool.{or_cases, or_left, or_parts}
use Rattle.std.proofs.lemmas.List.Folds.{list_any-append}
use Rattle.std.proofs.lemmas.Map.Keys.{IsDistinct-push}
use Rattle.cell_refs.specs.declared.areas.Area.{Area}
use Rattle.cell_refs.specs.declared.grid.Cell.{Cell}
use Rattle.cell_refs.specs.Cell.{is_among, same_cell}
use Rattle.cell_refs.proofs.PublicLaws.{same_cell_is, same_cells}
use Rattle.stale_marks.specs.Spreading.{HasSpread, HasSpreadInPart}
use Rattle.stale_marks.specs.Marks.{IsDependent, KeepsMarks}

-- new has this cell beside what old has
abbrev pub Gains : List Cell → List Cell → Cell → Type 0
Gains old new cell = (q : Cell) → is_among new q ≡ cond (same_cell cell q) true (is_among old q)

pub gains-keeps : (old new : List Cell) (cell : Cell) → Gains old new cell → KeepsMarks old new
gains-keeps old new cell gains q h = gains q ∙ either (same_cell cell q) (is_among old q) h
  where
    either : (b c : Bool) → c ≡ true → cond b true c ≡ true
    either true c h = refl
    either false c h = h

pub gains-here : (old new : List Cell) (cell : Cell) → Gains old new cell → is_among new cell ≡ true
gains-here old new cell gains = gains cell ∙ ap (λ b. cond b true (is_among old cell)) (same_cells.refl cell)

-- a cell behind others is among them all
pub among-behind : (cells : List Cell) (cell q : Cell) → is_among (cells ++ cell ∷ []) q ≡ (is_among cells q || same_cell q cell)
among-behind cells cell q = list_any-append (same_cell q) cells (cell ∷ []) ∙ ap (λ b. is_among cells q || b) (alone (same_cell q cell))
  where
    alone : (b : Bool) → (b || false) ≡ b
    alone true = refl
    alone false = refl

-- it is one of the others, or that cell
pub among-either : (cells : List Cell) (cell q : Cell) → is_among (cells ++ cell ∷ []) q ≡ true → (is_among cells q ≡ true) ⊎ (q ≡ cell)
among-either cells cell q h = ⊎_elim (λ before. inl before) (λ last. inr (same_cell_is q cell last)) (or_cases (is_among cells q) (same_cell q cell) (sym (among-behind cells cell q) ∙ h))

regroup : (old added same flipped : Bool) → same ≡ flipped → cond same true (old || added) ≡ (old || (added || flipped))
regroup true added true flipped e = refl
regroup true added false flipped e = refl
regroup false true true flipped e = refl
regroup false true false flipped e = refl
regroup false false true flipped e = e
regroup false false false flipped e = e

-- a cell that wasn't marked is marked and listed
pub spread-more : (table : List (Cell × List Area)) (origin : Cell) (old marks new added : List Cell) (cell : Cell)
    → HasSpread table origin old marks added → IsDependent table origin cell → is_among marks cell ≡ false → Gains marks new cell
    → HasSpread table origin old new (added ++ cell ∷ [])
spread-more table origin old marks new added cell spread dependent absent gains =
    let apart = or_parts (is_among old cell) (is_among added cell) (sym (spread.made cell) ∙ absent) in
    record {
      made = λ q.
          gains q ∙ ap (λ b. cond (same_cell cell q) true b) (spread.made q)
          ∙ regroup (is_among old q) (is_among added q) (same_cell cell q) (same_cell q cell) (same_cells.symm cell q)
          ∙ ap (λ b. is_among old q || b) (sym (among-behind added cell q));
      fresh = λ q among. ⊎_elim (λ before. spread.fresh q before) (λ is. subst (λ d. is_among old d ≡ false) (sym is) apart.0) (among-either added cell q among);
      distinct = IsDistinct-push same_cells added cell spread.distinct apart.1;
      dependents = λ q among. ⊎_elim (λ before. spread.dependents q before) (λ is. subst (λ d. IsDependent table origin d) (sym is) dependent) (among-either added cell q among);
    }

-- so far all is marked
pub spread-in-part : (table : List (Cell × List Area)) (origin : Cell) (old marks added : List Cell) → HasSpread table origin old marks added → HasSpreadInPart old marks added
spread-in-part table origin old marks added spread = record {
  kept = λ q h. spread.made q ∙ or_left (is_among old q) _ h;
  made = λ q h. sym (spread.made q) ∙ h;
  fresh = spread.fresh;
}

-- a cell is listed and not marked
pub spread-unmarked : (table : List (Cell × List Area)) (origin : Cell) (old marks added : List Cell) (cell : Cell)
    → HasSpread table origin old marks added → is_among marks cell ≡ false → HasSpreadInPart old marks (added ++ cell ∷ [])
spread-unmarked table origin old marks added cell spread absent =
    let apart = or_parts (is_among old cell) (is_among added cell) (sym (spread.made cell) ∙ absent) in
    record {
      kept = λ q h. spread.made q ∙ or_left (is_among old q) _ h;
      made = λ q h. ap (λ b. is_among old q || b) (among-behind added cell q) ∙ wider (is_among old q) (is_among added q) (same_cell q cell) (sym (spread.made q) ∙ h);
      fresh = λ q among. ⊎_elim (λ before. spread.fresh q before) (λ is. subst (λ d. is_among old d ≡ false) (sym is) apart.0) (among-either added cell q among);
    }
  where
    wider : (a b c : Bool) → (a || b) ≡ true → (a || (b || c)) ≡ true
    wider true b c h = refl
    wider false true c h = refl
    wider false false c h = cc

distinct_none : IsDistinct same_cell []
unfolding IsDistinct
distinct_none = tt

-- nothing has spread yet
pub spread-none : (table : List (Cell × List Area)) (origin : Cell) (marks added : List Cell) → added ≡ [] → HasSpread table origin marks marks added
spread-none table origin marks added empty = subst (λ xs. HasSpread table origin marks marks xs) (sym empty) (record {
  made = λ q. sym (alone (is_among marks q));
  fresh = λ q among. cc;
  distinct = distinct_none;
  dependents = λ q among. absurd (cc);
})
  where
    alone : (b : Bool) → (b || false) ≡ b
    alone true = refl
    alone false = refl
