-- What was put into a store, and what stays in step with the book.
use Rattle.std.proofs.Common.{◌≡◌, ℕ, ◌+◌, ◌<◌, Bool, true, false, cond, ◌||◌, List, [], ◌∷◌, ◌⊎◌, Option, None, Some, Result, Ok, Err, OnOk, OnErr, length, take, ⊎_elim, inl, inr, refl, ap, sym, subst, ◌∙◌}
use Rattle.std.specs.List.{slice_index_or}
use Rattle.std.proofs.lemmas.Bool.{or_cases, or_left, or_right}
use Rattle.std.proofs.lemmas.List.Folds.{list_any_at, list_any_more}
use Rattle.cell_refs.specs.declared.areas.Area.{Area}
use Rattle.cell_refs.specs.declared.grid.Cell.{Cell}
use Rattle.cell_refs.specs.Cell.{is_among, same_cell}
use Rattle.cell_refs.proofs.PublicLaws.{same_cell_is, same_cells}
use Rattle.cell_store.specs.Store.{GainsTouched, KeepsShown, PutsPresent, StoreState, is_touched, present_at, shown_at}
use Rattle.cell_values.specs.declared.values.Value.{Value}
use Rattle.stale_marks.specs.Marks.{ChangesOnly}
use Rattle.workbook.specs.declared.contents.Content.{Content}
use Rattle.book_sync.specs.Following.{TableFollows}
use Rattle.book_sync.specs.Steps.{AreEmpty, IsInStep, PutsAmong}

not_both : (b : Bool) → b ≡ true → b ≡ false → ⊥
not_both b h k = let e : true ≡ false = sym h ∙ k in cc

-- a cell that isn't among cells is none of them
pub apart-from : (cells : List Cell) (cell q : Cell) → is_among cells cell ≡ true → is_among cells q ≡ false → same_cell q cell ≡ false
apart-from cells cell q here none = elim (same_cell q cell) as (λ b. same_cell q cell ≡ b → b ≡ false) [
  | true ↦ λ same. absurd (not_both (is_among cells q) (subst (λ c. is_among cells c ≡ true) (sym (same_cell_is q cell same)) here) none)
  | false ↦ λ _. refl
] refl

-- the one cell of a list
pub only-one : (cell q : Cell) → is_among (cell ∷ []) q ≡ true → q ≡ cell
only-one cell q h = ⊎_elim (λ same. same_cell_is q cell same) (λ none. absurd (cc)) (or_cases (same_cell q cell) false h)

pub the-one : (cell : Cell) → is_among (cell ∷ []) cell ≡ true
the-one cell = or_left (same_cell cell cell) false (same_cells.refl cell)

-- one cell that was put
pub puts-one : (cells : List Cell) (old new : StoreState) (cell : Cell) (value : Option (Option Value))
    → PutsPresent old new cell value → GainsTouched old new cell → KeepsShown old new → is_among cells cell ≡ true → PutsAmong cells old new
puts-one cells old new cell value puts gains shown here = record {
  others = λ q none. puts q ∙ ap (λ b. cond b value (present_at old q)) (same_cells.symm cell q ∙ apart-from cells cell q here none);
  only = λ q h. ⊎_elim (λ same. inr (subst (λ c. is_among cells c ≡ true) (same_cell_is cell q same) here)) (λ before. inl before) (or_cases (same_cell cell q) (is_touched old q) (sym (gains q) ∙ h));
  kept = λ q h. gains q ∙ or_right (same_cell cell q) (is_touched old q) h;
  shown = shown;
}

-- none was put
pub puts-none : (cells : List Cell) (old new : StoreState) → new ≡ old → PutsAmong cells old new
puts-none cells old new is = record {
  others = λ q _. ap (λ s. present_at s q) is;
  only = λ q h. inl (ap (λ s. is_touched s q) (sym is) ∙ h);
  kept = λ q h. ap (λ s. is_touched s q) is ∙ h;
  shown = λ q. ap (λ s. shown_at s q) is;
}

-- one cell was put, or none
pub puts-either : {E : Type 0} (r : Result (Unit {0}) E) (old new : StoreState) (cell : Cell) (value : Option (Option Value)) → OnOk r (PutsPresent old new cell value) → OnOk r (GainsTouched old new cell)
    → KeepsShown old new → OnErr r (new ≡ old) → PutsAmong (cell ∷ []) old new
puts-either (Ok done) old new cell value puts gains shown refused = puts-one (cell ∷ []) old new cell value puts gains shown (the-one cell)
puts-either (Err e) old new cell value puts gains shown refused = puts-none (cell ∷ []) old new refused

-- more were put
pub puts-more : (cells : List Cell) (a b c : StoreState) → PutsAmong cells a b → PutsAmong cells b c → PutsAmong cells a c
puts-more cells a b c first second = record {
  others = λ q none. second.others q none ∙ first.others q none;
  only = λ q h. ⊎_elim (λ before. first.only q before) (λ among. inr among) (second.only q h);
  kept = λ q h. second.kept q (first.kept q h);
  shown = λ q. second.shown q ∙ first.shown q;
}

-- what was put among these was put among more
pub puts-wider : (cells more : List Cell) (old new : StoreState) → ((q : Cell) → is_among cells q ≡ true → is_among more q ≡ true) → PutsAmong cells old new → PutsAmong more old new
puts-wider cells more old new within puts = record {
  others = λ q none. puts.others q (elim (is_among cells q) as (λ b. is_among cells q ≡ b → b ≡ false) [
    | true ↦ λ e. absurd (not_both (is_among more q) (within q e) none)
    | false ↦ λ _. refl
  ] refl);
  only = λ q h. ⊎_elim (λ before. inl before) (λ among. inr (within q among)) (puts.only q h);
  kept = puts.kept;
  shown = puts.shown;
}

-- so one cell among these
pub puts-within : (cells : List Cell) (cell : Cell) (old new : StoreState) → is_among cells cell ≡ true → PutsAmong (cell ∷ []) old new → PutsAmong cells old new
puts-within cells cell old new here puts = puts-wider (cell ∷ []) cells old new (λ q h. subst (λ c. is_among cells c ≡ true) (sym (only-one cell q h)) here) puts

-- the table still follows off the changed cells
pub follows-still : (book : List (Cell × Content)) (changed : List Cell) (old new : List (Cell × List Area)) (cell : Cell) → is_among changed cell ≡ true
    → ChangesOnly old new cell → TableFollows book changed old → TableFollows book changed new
follows-still book changed old new cell here only follows q none = sym (only q (apart-from changed cell q here none)) ∙ follows q none

-- a cell that was in step still is, after another one was brought in step
pub step-kept : (book : List (Cell × Content)) (old new : List (Cell × List Area)) (before after : StoreState) (cell q : Cell) → same_cell q cell ≡ false
    → ChangesOnly old new cell → PutsAmong (cell ∷ []) before after → IsInStep book old before q → IsInStep book new after q
step-kept book old new before after cell q apart only puts step = record {
  ordered = step.ordered;
  areas = sym (only q apart) ∙ step.areas;
  present = puts.others q (ap (λ b. b || false) apart) ∙ step.present;
  touched = puts.kept q step.touched;
}

-- each changed cell that isn't left is in step, also after the next one
pub steps-next : (book : List (Cell × Content)) (changed left rest : List Cell) (old new : List (Cell × List Area)) (before after : StoreState) (cell : Cell) → left ≡ cell ∷ rest
    → ChangesOnly old new cell → PutsAmong (cell ∷ []) before after → IsInStep book new after cell
    → ((q : Cell) → is_among changed q ≡ true → is_among left q ≡ false → IsInStep book old before q)
    → (q : Cell) → is_among changed q ≡ true → is_among rest q ≡ false → IsInStep book new after q
steps-next book changed left rest old new before after cell is only puts step steps q here none =
    elim (same_cell q cell) as (λ b. same_cell q cell ≡ b → IsInStep book new after q) [
      | true ↦ λ same. subst (IsInStep book new after) (sym (same_cell_is q cell same)) step
      | false ↦ λ apart. step-kept book old new before after cell q apart only puts (steps q here (ap (λ cells. is_among cells q) is ∙ ap (λ b. b || is_among rest q) apart ∙ none))
    ] refl

-- the first of the cells that are left is one of them
pub first-left : (cells left rest : List Cell) (cell : Cell) → left ≡ cell ∷ rest → ((q : Cell) → is_among left q ≡ true → is_among cells q ≡ true) → is_among cells cell ≡ true
first-left cells left rest cell is within = within cell (ap (λ ds. is_among ds cell) is ∙ or_left (same_cell cell cell) (is_among rest cell) (same_cells.refl cell))

-- and so are those behind it
pub rest-left : (cells left rest : List Cell) (cell : Cell) → left ≡ cell ∷ rest → ((q : Cell) → is_among left q ≡ true → is_among cells q ≡ true)
    → (q : Cell) → is_among rest q ≡ true → is_among cells q ≡ true
rest-left cells left rest cell is within q h = within q (ap (λ ds. is_among ds q) is ∙ or_right (same_cell q cell) (is_among rest q) h)

-- ---- cells that have no value yet
emptied : (b : Bool) (before after : Option (Option Value)) → after ≡ cond b (Some None) before → (b ≡ true) ⊎ (before ≡ Some None) → after ≡ Some None
emptied true before after is one = is
emptied false before after is one = ⊎_elim (λ no. absurd (cc)) (λ was. is ∙ was) one

-- one more of the cells is put with no value
pub empty-next : (cells : List Cell) (i : ℕ) (d : Cell) → i < length cells → (old new : StoreState) → PutsPresent old new (slice_index_or cells i d) (Some None)
    → GainsTouched old new (slice_index_or cells i d) → AreEmpty (take i cells) old → AreEmpty (take (i + 1) cells) new
empty-next cells i d below old new puts gains empty = record {
  present = λ q h. emptied (same_cell (slice_index_or cells i d) q) (present_at old q) (present_at new q) (puts q)
      (⊎_elim (λ before. inr (empty.present q before)) (λ last. inl (same_cells.symm (slice_index_or cells i d) q ∙ last)) (parts q h));
  touched = λ q h. gains q ∙ ⊎_elim (λ before. or_right (same_cell (slice_index_or cells i d) q) (is_touched old q) (empty.touched q before))
      (λ last. or_left (same_cell (slice_index_or cells i d) q) (is_touched old q) (same_cells.symm (slice_index_or cells i d) q ∙ last)) (parts q h);
}
  where
    parts : (q : Cell) → is_among (take (i + 1) cells) q ≡ true → (is_among (take i cells) q ≡ true) ⊎ (same_cell q (slice_index_or cells i d) ≡ true)
    parts q h = or_cases (is_among (take i cells) q) (same_cell q (slice_index_or cells i d)) (sym (list_any_more (same_cell q) cells i d below) ∙ h)

-- it is one of them
pub place-among : (cells : List Cell) (i : ℕ) (d : Cell) → i < length cells → is_among cells (slice_index_or cells i d) ≡ true
place-among cells i d below = list_any_at (same_cell (slice_index_or cells i d)) cells i d below (same_cells.refl (slice_index_or cells i d))
