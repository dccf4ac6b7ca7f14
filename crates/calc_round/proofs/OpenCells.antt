-- The cells that have open calls, when a call is opened or ended.
use Rattle.std.proofs.Common.{◌≡◌, Bool, true, false, not, cond, ◌||◌, ◌&&◌, Option, None, Some, is_some, List, [], ◌∷◌, refl, ap, sym, ◌∙◌}
use Rattle.std.specs.Option.{option_map}
use Rattle.cell_refs.specs.declared.grid.Cell.{Cell}
use Rattle.cell_refs.specs.Cell.{same_cell}
use Rattle.cell_refs.proofs.PublicLaws.{same_cell_is}
use Rattle.async_handles.specs.declared.open_calls.OpenCall.{OpenCall}
use Rattle.async_handles.specs.OpenCalls.{call_at, calls_without, cell_of, handle_of, with_call}
use Rattle.async_handles.proofs.PublicLaws.{call_at-with, call_at-without}
use Rattle.calc_round.specs.Rounds.{has_call}

-- where nothing is there
pub absent-none : {X : Type 0} (o : Option X) → is_some o ≡ false → o ≡ None
absent-none None h = refl
absent-none (Some x) h = cc

-- the call of a cell is of that cell
found_here : (q : Cell) (first entry : OpenCall) (rest : Option OpenCall) (b : Bool) → same_cell q (cell_of first) ≡ b → (rest ≡ Some entry → cell_of entry ≡ q)
    → cond b (Some first) rest ≡ Some entry → cell_of entry ≡ q
found_here q first entry rest true same later h =
    let is : first ≡ entry = cc in
    ap cell_of (sym is) ∙ sym (same_cell_is q (cell_of first) same)
found_here q first entry rest false other later h = later h

pub call-home : (calls : List OpenCall) (q : Cell) (entry : OpenCall) → call_at calls q ≡ Some entry → cell_of entry ≡ q
call-home [] q entry h = cc
call-home (first ∷ calls) q entry h =
    found_here q first entry (call_at calls q) (same_cell q (cell_of first)) refl (call-home calls q entry) h

-- ---- a call is opened
some_either : (b : Bool) (entry : OpenCall) (o : Option OpenCall) → is_some (cond b (Some entry) o) ≡ (b || is_some o)
some_either true entry o = refl
some_either false entry o = refl

pub has-opened : (calls : List OpenCall) (entry : OpenCall) → has_call calls (cell_of entry) ≡ false → (q : Cell)
    → has_call (with_call calls entry) q ≡ (same_cell q (cell_of entry) || has_call calls q)
has-opened calls entry free q =
    ap is_some (call_at-with calls entry q (absent-none (call_at calls (cell_of entry)) free)) ∙ some_either (same_cell q (cell_of entry)) entry (call_at calls q)

-- ---- a call is ended
some_unless : (b : Bool) (o : Option OpenCall) → is_some (cond b None o) ≡ (not b && is_some o)
some_unless true o = refl
some_unless false o = refl

pub has-ended : (calls : List OpenCall) (cell q : Cell) → has_call (calls_without calls cell) q ≡ (not (same_cell q cell) && has_call calls q)
has-ended calls cell q = ap is_some (call_at-without calls cell q) ∙ some_unless (same_cell q cell) (call_at calls q)

-- a call that is open after another was ended was open, and is of another cell
ended_cases : (b : Bool) (entry : OpenCall) (o : Option OpenCall) → cond b None o ≡ Some entry → (b ≡ false) × (o ≡ Some entry)
ended_cases true entry o h = cc
ended_cases false entry o h = (refl, h)

pub still-open : (calls : List OpenCall) (cell q : Cell) (entry : OpenCall) → call_at (calls_without calls cell) q ≡ Some entry
    → (same_cell q cell ≡ false) × (call_at calls q ≡ Some entry)
still-open calls cell q entry h = ended_cases (same_cell q cell) entry (call_at calls q) (sym (call_at-without calls cell q) ∙ h)

-- a cell without a call has no handle
pub free-handle : (calls : List OpenCall) (q : Cell) → has_call calls q ≡ false → handle_of calls q ≡ None
free-handle calls q free = ap (option_map (λ (entry : OpenCall). entry.call.handle)) (absent-none (call_at calls q) free)
