-- One cell more of the cells of a begin: copied, put in and emptied.
use Rattle.std.proofs.Common.{◌≡◌, ℕ, ◌+◌, ◌<◌, Bool, true, false, cond, ◌||◌, List, ◌∷◌, Option, None, Some, length, take, refl, ap, sym, ◌∙◌}
use Rattle.std.specs.List.{slice_index_or}
use Rattle.std.proofs.lemmas.List.Folds.{list_any_more}
use Rattle.cell_refs.specs.declared.areas.Area.{Area}
use Rattle.cell_refs.specs.declared.grid.Cell.{Cell}
use Rattle.cell_refs.specs.Cell.{is_among, same_cell}
use Rattle.cell_refs.proofs.PublicLaws.{same_cells}
use Rattle.cell_store.specs.Store.{PutsPresent, StoreState, present_at}
use Rattle.cell_values.specs.declared.values.Value.{Value}
use Rattle.dep_table.specs.Table.{is_reader}
use Rattle.stale_marks.specs.Marks.{IsClosed}

-- ---- sets
put_left : (b a l : Bool) → (b || (a || l)) ≡ (cond b true a || l)
put_left true a l = refl
put_left false a l = refl

swap : (a b l : Bool) → (a || (b || l)) ≡ (b || (a || l))
swap true true l = refl
swap true false l = refl
swap false b l = refl

-- one more cell is copied
pub copied-more : (cells old new left rest : List Cell) (cell : Cell) → left ≡ cell ∷ rest
    → ((q : Cell) → is_among new q ≡ cond (same_cell cell q) true (is_among old q))
    → ((q : Cell) → is_among cells q ≡ (is_among old q || is_among left q))
    → (q : Cell) → is_among cells q ≡ (is_among new q || is_among rest q)
copied-more cells old new left rest cell is puts before q =
    before q ∙ ap (λ cs. is_among old q || is_among cs q) is
    ∙ swap (is_among old q) (same_cell q cell) (is_among rest q)
    ∙ ap (λ b. b || (is_among old q || is_among rest q)) (same_cells.symm q cell)
    ∙ put_left (same_cell cell q) (is_among old q) (is_among rest q)
    ∙ ap (λ b. b || is_among rest q) (sym (puts q))

put_right : (b a t : Bool) → cond b true (a || t) ≡ (a || (t || b))
put_right true true t = refl
put_right true false true = refl
put_right true false false = refl
put_right false true t = refl
put_right false false true = refl
put_right false false false = refl

-- one more cell is put in
pub inserted-more : (first old new cells : List Cell) (i : ℕ) (d : Cell) → i < length cells
    → ((q : Cell) → is_among new q ≡ cond (same_cell (slice_index_or cells i d) q) true (is_among old q))
    → ((q : Cell) → is_among old q ≡ (is_among first q || is_among (take i cells) q))
    → (q : Cell) → is_among new q ≡ (is_among first q || is_among (take (i + 1) cells) q)
inserted-more first old new cells i d below puts before q =
    puts q ∙ ap (λ b. cond (same_cell (slice_index_or cells i d) q) true b) (before q)
    ∙ put_right (same_cell (slice_index_or cells i d) q) (is_among first q) (is_among (take i cells) q)
    ∙ ap (λ b. is_among first q || (is_among (take i cells) q || b)) (same_cells.symm (slice_index_or cells i d) q)
    ∙ ap (λ b. is_among first q || b) (sym (list_any_more (same_cell q) cells i d below))

-- ---- marks
-- the marks are readers, closed, and have the readers of the cells so far
pub record MarksReaders (table : List (Cell × List Area)) (marks cells : List Cell) : Type 0 where
  pub closed : IsClosed table marks
  pub readers : (q : Cell) → is_among marks q ≡ true → is_reader table q ≡ true
  pub all : (q : Cell) → is_among cells q ≡ true → is_reader table q ≡ true → is_among marks q ≡ true

-- ---- a store
either : (a b : Bool) (x y : Option (Option Value)) → cond b x (cond a x y) ≡ cond (a || b) x y
either true true x y = refl
either true false x y = refl
either false true x y = refl
either false false x y = refl

-- one more cell has no value
pub emptied-more : (first old new : StoreState) (cells : List Cell) (i : ℕ) (d : Cell) → i < length cells → PutsPresent old new (slice_index_or cells i d) (Some None)
    → ((q : Cell) → present_at old q ≡ cond (is_among (take i cells) q) (Some None) (present_at first q))
    → (q : Cell) → present_at new q ≡ cond (is_among (take (i + 1) cells) q) (Some None) (present_at first q)
emptied-more first old new cells i d below puts before q =
    puts q ∙ ap (λ o. cond (same_cell (slice_index_or cells i d) q) (Some None) o) (before q)
    ∙ ap (λ b. cond b (Some None) (cond (is_among (take i cells) q) (Some None) (present_at first q))) (same_cells.symm (slice_index_or cells i d) q)
    ∙ either (is_among (take i cells) q) (same_cell q (slice_index_or cells i d)) (Some None) (present_at first q)
    ∙ ap (λ b. cond b (Some None) (present_at first q)) (sym (list_any_more (same_cell q) cells i d below))
