-- The open asynchronous calls of a session.
use Rattle.std.specs.Prelude.{◌≡◌, ℕ, Bool, true, not, if◌then◌else◌, List, [], ◌∷◌, Option, Some, None}
use Rattle.std.specs.List.{list_any, find, filter, AllByRecursion}
use Rattle.std.specs.Option.{option_map}
use Rattle.std.specs.Ordering.{is_lt}
use Rattle.std.specs.declared.cmp.Ordering.TheVariants.{Less}
use Rattle.cell_refs.specs.declared.grid.Cell.{Cell}
use Rattle.cell_refs.specs.declared.handles.Handle.{Handle}
use Rattle.cell_refs.specs.Cell.{cell_cmp, same_cell}
use Rattle.cell_refs.specs.Handle.{same_handle}
use Rattle.async_handles.specs.declared.open_calls.OpenCall.{OpenCall}

-- the session, the open calls in cell order, and how many more can be issued without memory being taken
pub record OpenCalls : Type 0 where
  pub session : ℕ
  pub calls : List OpenCall
  pub spare : ℕ

-- the cell that asked
abbrev pub cell_of : OpenCall → Cell
cell_of entry = entry.call.handle.cell

-- each of these calls is of a cell behind this one
abbrev pub AreBehind : Cell → List OpenCall → Type 0
AreBehind cell calls = AllByRecursion (λ entry. cell_cmp cell (cell_of entry) ≡ Less) calls

-- the calls stand in cell order, at most one for each cell
abbrev pub IsInCellOrder : List OpenCall → Type 0
IsInCellOrder [] = Unit {0}
IsInCellOrder (entry ∷ others) = AreBehind (cell_of entry) others × IsInCellOrder others

-- each call is of this session
abbrev pub AreOfSession : ℕ → List OpenCall → Type 0
AreOfSession session calls = AllByRecursion (λ entry. entry.call.handle.session ≡ session) calls

-- the calls stand in cell order, at most one for each cell, and each is of the session
pub record AreOpenCalls (handles : OpenCalls) : Type 0 where
  pub order : IsInCellOrder handles.calls
  pub session : AreOfSession handles.session handles.calls

-- the open call of a cell
abbrev pub call_at : List OpenCall → Cell → Option OpenCall
call_at calls cell = find (λ entry. same_cell cell (cell_of entry)) calls

-- whether a handle is live: an open call has it
abbrev pub is_live : List OpenCall → Handle → Bool
is_live calls handle = list_any (λ entry. same_handle entry.call.handle handle) calls

-- calls with one more, in its place in cell order
abbrev pub with_call : List OpenCall → OpenCall → List OpenCall
with_call [] new = new ∷ []
with_call (entry ∷ others) new =
    if is_lt (cell_cmp (cell_of new) (cell_of entry)) then new ∷ entry ∷ others
    else entry ∷ with_call others new

-- calls without that of a cell
abbrev pub calls_without : List OpenCall → Cell → List OpenCall
calls_without calls cell = filter (λ entry. not (same_cell cell (cell_of entry))) calls

-- the call of the least cell that wasn't served
abbrev pub first_unserved : List OpenCall → Option OpenCall
first_unserved calls = find (λ entry. not entry.is_served) calls

-- calls, of which the first that wasn't served is served now
abbrev pub calls_after_serving : List OpenCall → List OpenCall
calls_after_serving [] = []
calls_after_serving (entry ∷ others) =
    if entry.is_served then entry ∷ calls_after_serving others
    else (record entry { is_served = true }) ∷ others

-- the call of the least cell
abbrev pub first_call : List OpenCall → Option OpenCall
first_call [] = None
first_call (entry ∷ others) = Some entry

-- the live handle of a cell
abbrev pub handle_of : List OpenCall → Cell → Option Handle
handle_of calls cell = option_map (λ entry. entry.call.handle) (call_at calls cell)
