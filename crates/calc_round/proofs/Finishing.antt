-- A cell that gets its value: what else is present, and what stays.
use Rattle.std.proofs.Common.{◌≡◌, Bool, true, false, not, cond, ◌&&◌, Option, None, Some, is_some, refl, ap, sym, subst, ◌∙◌}
use Rattle.std.proofs.lemmas.Bool.{true≢false}
use Rattle.cell_refs.specs.declared.grid.Cell.{Cell}
use Rattle.cell_refs.specs.Cell.{same_cell}
use Rattle.cell_refs.proofs.PublicLaws.{same_cell_is}
use Rattle.cell_store.specs.Gathering.{has_no_value}
use Rattle.cell_store.specs.Store.{KeepsShown, KeepsTouched, PutsPresent, StoreState, present_at}
use Rattle.cell_values.specs.declared.values.Value.{Value}
use Rattle.calc_round.specs.Rounds.{KeepsFinished, is_unfinished}

-- where an unfinished cell got a value, the others that are unfinished are left
value_or : (same : Bool) (v : Value) (o : Option (Option Value)) → has_no_value (cond same (Some (Some v)) o) ≡ (not same && has_no_value o)
value_or true v o = refl
value_or false v o = refl

pub unfinished-after : (old new : StoreState) (cell : Cell) (v : Value) → PutsPresent old new cell (Some (Some v))
    → (q : Cell) → is_unfinished new q ≡ (not (same_cell cell q) && is_unfinished old q)
unfinished-after old new cell v puts q = ap has_no_value (puts q) ∙ value_or (same_cell cell q) v (present_at old q)

-- an unfinished cell is present, with no value
pub unfinished-present : (o : Option (Option Value)) → has_no_value o ≡ true → is_some o ≡ true
unfinished-present None h = cc
unfinished-present (Some value) h = refl

-- nothing changes
pub kept-none : (store : StoreState) → KeepsFinished store store
kept-none store = record { shown = λ q. refl; touched = λ q. refl; values = λ q v h. h }

pub kept-same : (old new : StoreState) → new ≡ old → KeepsFinished old new
kept-same old new same = subst (KeepsFinished old) (sym same) (kept-none old)

-- one change after another
pub kept-then : (first second third : StoreState) → KeepsFinished first second → KeepsFinished second third → KeepsFinished first third
kept-then first second third one other = record {
  shown = λ q. other.shown q ∙ one.shown q;
  touched = λ q. other.touched q ∙ one.touched q;
  values = λ q v h. other.values q v (one.values q v h);
}

-- an unfinished cell gets its value
pub kept-finished : (old new : StoreState) (cell : Cell) (v : Value) → PutsPresent old new cell (Some (Some v)) → is_unfinished old cell ≡ true
    → KeepsShown old new → KeepsTouched old new → KeepsFinished old new
kept-finished old new cell v puts unfinished shown touched = record {
  shown = shown;
  touched = touched;
  values = λ q w h. elim (same_cell cell q) as (λ b. same_cell cell q ≡ b → present_at new q ≡ Some (Some w)) [
    | true ↦ λ same. absurd (true≢false (sym unfinished ∙ ap has_no_value (ap (present_at old) (same_cell_is cell q same) ∙ h)))
    | false ↦ λ other. puts q ∙ ap (λ b. cond b (Some (Some v)) (present_at old q)) other ∙ h
  ] refl;
}
