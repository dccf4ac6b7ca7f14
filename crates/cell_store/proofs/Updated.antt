-- What a store shows after an update of one cell.
use Rattle.std.proofs.Common.{◌≡◌, true, false, cond, List, Option, Some, None, is_some, unwrap_or, refl, ap, sym, subst, ◌∙◌}
use Rattle.cell_refs.specs.declared.grid.Cell.{Cell}
use Rattle.cell_refs.specs.Cell.{same_cell}
use Rattle.cell_refs.proofs.PublicLaws.{same_cell_is}
use Rattle.cell_store.specs.Store.{AreInOrder, StoreState, entry_at, is_touched, present_at, shown_at}
use Rattle.cell_store.proofs.Entries.{equal-alike}

-- what holds nothing is None
pub none_from : {X : Type 0} (found : Option X) → false ≡ is_some found → found ≡ None
none_from None h = refl
none_from (Some x) h = cc

-- an untouched cell shows what is present
pub untouched-shows : (store : StoreState) (q : Cell) → is_touched store q ≡ false → shown_at store q ≡ present_at store q
untouched-shows store q untouched = ap (λ found. unwrap_or found (present_at store q)) (none_from (entry_at store.before q) (sym untouched))

-- of a choice that there is, the default doesn't matter
default_hidden : {X : Type 0} (found : Option X) (v w : X) → is_some found ≡ true → unwrap_or found v ≡ unwrap_or found w
default_hidden None v w h = cc
default_hidden (Some x) v w h = refl

-- a touched cell hides what is put at it
pub shown-where_touched : {X : Type 0} (before : Cell → Option X) (old new : Cell → X) (w : X) (cell : Cell) → true ≡ is_some (before cell) → ((q : Cell) → new q ≡ cond (same_cell cell q) w (old q))
    → (q : Cell) → unwrap_or (before q) (new q) ≡ unwrap_or (before q) (old q)
shown-where_touched before old new w cell touched puts q = elim (same_cell cell q) as (λ b. same_cell cell q ≡ b → unwrap_or (before q) (new q) ≡ unwrap_or (before q) (old q)) [
  | true ↦ λ same. default_hidden (before q) (new q) (old q) (subst (λ c. is_some (before c) ≡ true) (same_cell_is cell q same) (sym touched))
  | false ↦ λ apart. ap (unwrap_or (before q)) (puts q ∙ ap (λ b. cond b w (old q)) apart)
] refl

-- what is present of an untouched cell can be noted as what was shown
pub shown-where_noted : {X : Type 0} (old new : Cell → Option X) (present : Cell → X) (w : X) (cell : Cell) → false ≡ is_some (old cell) → w ≡ present cell → ((q : Cell) → new q ≡ cond (same_cell cell q) (Some w) (old q))
    → (q : Cell) → unwrap_or (new q) (present q) ≡ unwrap_or (old q) (present q)
shown-where_noted old new present w cell untouched is notes q = elim (same_cell cell q) as (λ b. same_cell cell q ≡ b → unwrap_or (new q) (present q) ≡ unwrap_or (old q) (present q)) [
  | true ↦ λ same.
      ap (λ found. unwrap_or found (present q)) (notes q ∙ ap (λ b. cond b (Some w) (old q)) same)
      ∙ is ∙ ap present (same_cell_is cell q same)
      ∙ ap (λ found. unwrap_or found (present q)) (sym (subst (λ c. old c ≡ None) (same_cell_is cell q same) (none_from (old cell) untouched)))
  | false ↦ λ apart. ap (λ found. unwrap_or found (present q)) (notes q ∙ ap (λ b. cond b (Some w) (old q)) apart)
] refl

-- an entry that is put at a new cell and taken away again leaves what there was
back_again : {X : Type 0} (old mid new : Cell → Option X) (w : Option X) (cell : Cell) → old cell ≡ None → ((q : Cell) → mid q ≡ cond (same_cell cell q) w (old q)) → ((q : Cell) → new q ≡ cond (same_cell cell q) None (mid q))
    → (q : Cell) → new q ≡ old q
back_again old mid new w cell absent puts takes q = elim (same_cell cell q) as (λ b. same_cell cell q ≡ b → new q ≡ old q) [
  | true ↦ λ same. takes q ∙ ap (λ b. cond b None (mid q)) same ∙ sym (subst (λ c. old c ≡ None) (same_cell_is cell q same) absent)
  | false ↦ λ apart. takes q ∙ ap (λ b. cond b None (mid q)) apart ∙ puts q ∙ ap (λ b. cond b w (old q)) apart
] refl

-- so the entries are the same
pub taken_back : {X : Type 0} (old mid new : List (Cell × X)) (w : Option X) (cell : Cell) → AreInOrder old → AreInOrder new → false ≡ is_some (entry_at old cell)
    → ((q : Cell) → entry_at mid q ≡ cond (same_cell cell q) w (entry_at old q)) → ((q : Cell) → entry_at new q ≡ cond (same_cell cell q) None (entry_at mid q)) → new ≡ old
taken_back old mid new w cell first second absent puts takes =
    equal-alike new old second first (back_again (entry_at old) (entry_at mid) (entry_at new) w cell (none_from (entry_at old cell) absent) puts takes)
