-- What stands where table, marks and store follow the book.
use Rattle.std.proofs.Common.{◌≡◌, Bool, true, false, List, [], ◌⊎◌, None, Some, Result, Ok, Err, OnOk, ⊎_elim, inl, inr, refl, sym, ◌∙◌}
use Rattle.cell_refs.specs.declared.areas.Area.{Area}
use Rattle.cell_refs.specs.declared.grid.Cell.{Cell}
use Rattle.std.specs.Map.{lookup}
use Rattle.cell_refs.specs.Cell.{is_among, same_cell}
use Rattle.cell_refs.specs.Reaching.{Reaches}
use Rattle.cell_store.specs.Store.{KeepsShown, StoreState, is_touched, present_at, shown_at}
use Rattle.dep_table.specs.Table.{is_reader}
use Rattle.stale_marks.specs.Marks.{AreMarked}
use Rattle.workbook.specs.declared.contents.Content.{Content}
use Rattle.workbook.specs.Book.{cell_precedents, content_at}
use Rattle.workbook.specs.Stale.{is_stale}
use Rattle.book_sync.specs.Following.{FollowsChanged, ShowsWhereClean, TableFollows, formula_areas, present_by_content}
use Rattle.book_sync.specs.Steps.{AreEmpty, IsInStep, PutsAmong}
use Rattle.book_sync.proofs.Marking.{formula_unvalued, marked-stale, same_truth, stale-formula, stale-reaches}

-- what follows from one fact with Ok follows from another that leads to it
pub ok-leads : {E : Type 0} (r : Result (Unit {0}) E) (P Q : Type 0) → (P → Q) → OnOk r P → OnOk r Q
ok-leads (Ok done) P Q leads h = leads h
ok-leads (Err e) P Q leads h = tt

-- what holds holds with Ok
pub ok-anyway : {E : Type 0} (r : Result (Unit {0}) E) (P : Type 0) → P → OnOk r P
ok-anyway (Ok done) P h = h
ok-anyway (Err e) P h = tt

-- where each changed cell is in step, the table follows everywhere
pub follows-all : (book : List (Cell × Content)) (changed : List Cell) (table : List (Cell × List Area)) (store : StoreState) → TableFollows book changed table
    → ((q : Cell) → is_among changed q ≡ true → IsInStep book table store q) → TableFollows book [] table
follows-all book changed table store follows steps q _ = elim (is_among changed q) as (λ b. is_among changed q ≡ b → lookup (same_cell q) table ≡ formula_areas book q) [
  | true ↦ λ here. (steps q here).areas
  | false ↦ λ none. follows q none
] refl

-- the marked cells are the stale ones
pub follows-marked : (book : List (Cell × Content)) (changed marks : List Cell) (table : List (Cell × List Area)) (store : StoreState) → TableFollows book changed table
    → ((q : Cell) → is_among changed q ≡ true → IsInStep book table store q) → AreMarked table marks changed → ((q : Cell) → is_among marks q ≡ true → is_reader table q ≡ true)
    → (q : Cell) → is_among marks q ≡ is_stale book changed q
follows-marked book changed marks table store follows steps marked readers =
    marked-stale book table (follows-all book changed table store follows steps) marks changed (λ c here. (steps c here).ordered) marked readers

-- what isn't put is touched if it was
pub same-touched : (cells : List Cell) (old new : StoreState) → PutsAmong cells old new → (q : Cell) → is_among cells q ≡ false → is_touched new q ≡ is_touched old q
same-touched cells old new puts q none = same_truth (is_touched new q) (is_touched old q)
    (λ h. ⊎_elim (λ before. before) (λ among. absurd (let e : true ≡ false = sym among ∙ none in cc)) (puts.only q h))
    (puts.kept q)

-- where no changed cell is reached, what is present is still shown
pub still-clean : (book : List (Cell × Content)) (changed : List Cell) (old new : StoreState)
    → ((q : Cell) → is_among changed q ≡ false → is_stale book changed q ≡ false → present_at new q ≡ present_at old q) → KeepsShown old new
    → ShowsWhereClean book changed old → ShowsWhereClean book changed new
still-clean book changed old new others shown clean q = either (is_among changed q) refl (is_stale book changed q) refl
  where
    either : (a : Bool) → is_among changed q ≡ a → (b : Bool) → is_stale book changed q ≡ b → (present_at new q ≡ shown_at new q) ⊎ Reaches (cell_precedents book) changed q
    either true here b h = inr (0, here)
    either false none true stale = inr (stale-reaches book changed q stale)
    either false none false fresh = ⊎_elim (λ same. inl (others q none fresh ∙ same ∙ sym (shown q))) (λ r. inr r) (clean q)

module _ (book : List (Cell × Content)) (changed marks : List Cell) (old mid new : StoreState) (is : (q : Cell) → is_among marks q ≡ is_stale book changed q)
    (first : PutsAmong changed old mid) (second : PutsAmong marks mid new) where
  -- what is neither changed nor stale has what it had
  pub others-kept : (q : Cell) → is_among changed q ≡ false → is_stale book changed q ≡ false → present_at new q ≡ present_at old q
  others-kept q unchanged fresh = second.others q (is q ∙ fresh) ∙ first.others q unchanged

  -- and is touched if it was
  pub touched-kept : (q : Cell) → is_among changed q ≡ false → is_stale book changed q ≡ false → is_touched new q ≡ is_touched old q
  touched-kept q unchanged fresh = same-touched marks mid new second q (is q ∙ fresh) ∙ same-touched changed old mid first q unchanged

  -- so what is present is still shown where no changed cell is reached
  pub both-clean : ShowsWhereClean book changed old → ShowsWhereClean book changed new
  both-clean = still-clean book changed old new others-kept (λ q. second.shown q ∙ first.shown q)

  -- each changed cell has what its content says
  pub changed-follows : (table : List (Cell × List Area)) → ((q : Cell) → is_among changed q ≡ true → IsInStep book table mid q) → AreEmpty marks new → FollowsChanged book changed new
  changed-follows table steps empty q here = elim (is_among marks q) as (λ b. is_among marks q ≡ b → present_at new q ≡ present_by_content (content_at book q)) [
    | true ↦ λ marked. empty.present q marked ∙ sym (formula_unvalued (content_at book q) (stale-formula book changed q (sym (is q) ∙ marked)))
    | false ↦ λ none. second.others q none ∙ (steps q here).present
  ] refl

  -- each stale cell has no value
  pub stale-empty : AreEmpty marks new → (q : Cell) → is_stale book changed q ≡ true → present_at new q ≡ Some None
  stale-empty empty q stale = empty.present q (is q ∙ stale)

  -- each changed and each stale cell is touched
  pub both-touched : (table : List (Cell × List Area)) → ((q : Cell) → is_among changed q ≡ true → IsInStep book table mid q) → AreEmpty marks new
      → (q : Cell) → (is_among changed q ≡ true) ⊎ (is_stale book changed q ≡ true) → is_touched new q ≡ true
  both-touched table steps empty q one = ⊎_elim (λ here. second.kept q (steps q here).touched) (λ stale. empty.touched q (is q ∙ stale)) one
