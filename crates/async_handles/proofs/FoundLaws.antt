-- Which call a cell has after one is opened, ended or served.
use Rattle.std.proofs.Common.{◌≡◌, Bool, true, false, cond, not, Option, None, Some, List, [], ◌∷◌, refl, sym, ap, subst, ◌∙◌, true≢false}
use Rattle.std.specs.Option.{option_map}
use Rattle.std.specs.Ordering.{is_lt}
use Rattle.std.proofs.lemmas.Option.{none-some}
use Rattle.cell_refs.specs.declared.grid.Cell.{Cell}
use Rattle.cell_refs.specs.Cell.{cell_cmp, same_cell}
use Rattle.cell_refs.proofs.PublicLaws.{same_cell_is, same_cells}
use Rattle.async_handles.specs.declared.open_calls.OpenCall.{OpenCall}
use Rattle.async_handles.specs.OpenCalls.{call_at, calls_after_serving, calls_without, cell_of, handle_of, with_call}

-- the new call where the cell is its own, else what was there
found_with : Cell → OpenCall → Option OpenCall → Option OpenCall
found_with x new found = cond (same_cell x (cell_of new)) (Some new) found

-- a call in front of the new one is found before it, as they are of two cells
passed : (x : Cell) (e new : OpenCall) (found after : Option OpenCall) (b : Bool) → same_cell x (cell_of e) ≡ b
    → same_cell (cell_of new) (cell_of e) ≡ false → after ≡ cond (same_cell x (cell_of new)) (Some new) found
    → cond b (Some e) after ≡ cond (same_cell x (cell_of new)) (Some new) (cond b (Some e) found)
passed x e new found after false here other rest = rest
passed x e new found after true here other rest =
    elim (same_cell x (cell_of new)) as (λ b. same_cell x (cell_of new) ≡ b → Some e ≡ cond b (Some new) (Some e)) [
      | true ↦ λ same. absurd (true≢false (sym here ∙ same_cells.congr x (cell_of new) (cell_of e) same ∙ other))
      | false ↦ λ same. refl
    ] refl

-- a cell without a call isn't that of the first
first_other : (x : Cell) (e : OpenCall) (found : Option OpenCall) (b : Bool) → same_cell x (cell_of e) ≡ b → cond b (Some e) found ≡ None → (b ≡ false) × (found ≡ None)
first_other x e found true is free = absurd (none-some e (sym free))
first_other x e found false is free = (refl, free)

-- after a call was opened of a cell that had none
pub call_at-with : (calls : List OpenCall) (new : OpenCall) (x : Cell) → call_at calls (cell_of new) ≡ None
    → call_at (with_call calls new) x ≡ cond (same_cell x (cell_of new)) (Some new) (call_at calls x)
call_at-with [] new x free = refl
call_at-with (e ∷ calls) new x free =
    let other = first_other (cell_of new) e (call_at calls (cell_of new)) (same_cell (cell_of new) (cell_of e)) refl free in
    elim (is_lt (cell_cmp (cell_of new) (cell_of e))) as (λ b. call_at (cond b (new ∷ e ∷ calls) (e ∷ with_call calls new)) x
    ≡ cond (same_cell x (cell_of new)) (Some new) (call_at (e ∷ calls) x)) [
      | true ↦ refl
      | false ↦ passed x e new (call_at calls x) (call_at (with_call calls new) x) (same_cell x (cell_of e)) refl other.0 (call_at-with calls new x other.1)
    ]

-- a call of another cell is found as before
kept : (x y : Cell) (e : OpenCall) (found after : Option OpenCall) (b : Bool) → same_cell y (cell_of e) ≡ b
    → after ≡ cond (same_cell x y) None found
    → cond (not b) (cond (same_cell x (cell_of e)) (Some e) after) after ≡ cond (same_cell x y) None (cond (same_cell x (cell_of e)) (Some e) found)
kept x y e found after true here rest =
    let at : y ≡ cell_of e = same_cell_is y (cell_of e) here in
    rest ∙ subst (λ c. cond (same_cell x y) None found ≡ cond (same_cell x y) None (cond (same_cell x c) (Some e) found)) at
    (elim (same_cell x y) as (λ b. cond b None found ≡ cond b None (cond b (Some e) found)) [ true ↦ refl | false ↦ refl ])
kept x y e found after false here rest =
    elim (same_cell x (cell_of e)) as (λ b. same_cell x (cell_of e) ≡ b → cond b (Some e) after ≡ cond (same_cell x y) None (cond b (Some e) found)) [
      | true ↦ λ same. elim (same_cell x y) as (λ b. same_cell x y ≡ b → Some e ≡ cond b None (Some e)) [
        | true ↦ λ there. absurd (true≢false (sym same ∙ same_cells.congr x y (cell_of e) there ∙ here))
        | false ↦ λ there. refl
      ] refl
      | false ↦ λ same. rest
    ] refl

-- after the call of a cell was ended
pub call_at-without : (calls : List OpenCall) (y x : Cell) → call_at (calls_without calls y) x ≡ cond (same_cell x y) None (call_at calls x)
call_at-without [] y x =
    let none : Option OpenCall = None in
    elim (same_cell x y) as (λ b. none ≡ cond b none none) [ true ↦ refl | false ↦ refl ]
call_at-without (e ∷ calls) y x =
    let rest = call_at-without calls y x in
    elim (same_cell y (cell_of e)) as (λ b. same_cell y (cell_of e) ≡ b → call_at (cond (not b) (e ∷ calls_without calls y) (calls_without calls y)) x
    ≡ cond (same_cell x y) None (call_at (e ∷ calls) x)) [
      | true ↦ λ here. kept x y e (call_at calls x) (call_at (calls_without calls y) x) true here rest
      | false ↦ λ here. kept x y e (call_at calls x) (call_at (calls_without calls y) x) false here rest
    ] refl

-- a call in front, served or not, gives one handle
same_handles : (b : Bool) (e f : OpenCall) (found after : Option OpenCall) → e.call.handle ≡ f.call.handle
    → option_map (λ (entry : OpenCall). entry.call.handle) after ≡ option_map (λ (entry : OpenCall). entry.call.handle) found
    → option_map (λ (entry : OpenCall). entry.call.handle) (cond b (Some e) after) ≡ option_map (λ (entry : OpenCall). entry.call.handle) (cond b (Some f) found)
same_handles true e f found after same rest = ap Some same
same_handles false e f found after same rest = rest

-- after a call was served
pub handle_of-serving : (calls : List OpenCall) (x : Cell) → handle_of (calls_after_serving calls) x ≡ handle_of calls x
handle_of-serving [] x = refl
handle_of-serving (e ∷ calls) x =
    elim e.is_served as (λ b. handle_of (cond b (e ∷ calls_after_serving calls) ((record e { is_served = true }) ∷ calls)) x ≡ handle_of (e ∷ calls) x) [
      | true ↦ same_handles (same_cell x (cell_of e)) e e (call_at calls x) (call_at (calls_after_serving calls) x) refl (handle_of-serving calls x)
      | false ↦ same_handles (same_cell x (cell_of e)) (record e { is_served = true }) e (call_at calls x) (call_at calls x) refl refl
    ]
