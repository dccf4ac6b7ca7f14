-- A recalculation: what is present means, which cells are left, and what stays as it was.
use Rattle.std.specs.Prelude.{◌≡◌, ◌+◌, ◌≤◌, ℕ, Bool, true, not, ◌||◌, ◌&&◌, Some, is_some, List, length, nat_eq, vec_capacity}
use Rattle.std.specs.List.{IsDistinct, list_any}
use Rattle.std.specs.Map.{lookup}
use Rattle.addin_types.specs.declared.registrations.Registration.{Registration}
use Rattle.async_handles.specs.declared.open_calls.OpenCall.{OpenCall}
use Rattle.async_handles.specs.OpenCalls.{call_at, cell_of}
use Rattle.cell_refs.specs.declared.grid.Cell.{Cell}
use Rattle.cell_refs.specs.Cell.{is_among, same_cell}
use Rattle.cell_store.specs.Gathering.{has_no_value}
use Rattle.cell_store.specs.Store.{KeepsShown, KeepsTouched, StoreState, is_touched, present_at}
use Rattle.cell_values.specs.declared.topics.Topic.{Topic}
use Rattle.cell_values.specs.declared.values.Value.{Value}
use Rattle.workbook.specs.declared.contents.Content.{Content}
use Rattle.workbook.specs.Book.{IsInOrder, cell_precedents, content_at, is_formula}
use Rattle.workbook.specs.Circular.{is_circular}
use Rattle.workbook.specs.Meaning.{Setting, Val, Asks, asks_call, is_open, meaning}
use Rattle.workbook.specs.Registry.{registration_of}
use Rattle.calc_round.specs.declared.open_work.OpenWork.{OpenWork}

-- what cells are evaluated over where topics have these values, asynchronous calls these results by cell and site, and
-- names these registrations
abbrev pub round_setting : (List ℕ → List Value → Value) → (Topic → Value) → (Cell → List (ℕ × Value))
    → List (List ℕ × Registration) → Setting
round_setting answer snapshot results functions = record {
  snapshot = snapshot;
  accepted = λ cell site. lookup (nat_eq site) (results cell);
  registered = registration_of functions;
  answer = answer;
}

-- whether a cell is present without a value
abbrev pub is_unfinished : StoreState → Cell → Bool
is_unfinished store cell = has_no_value (present_at store cell)

-- whether a cell names an unfinished one
abbrev pub names_unfinished : List (Cell × Content) → StoreState → Cell → Bool
names_unfinished book store cell = list_any (is_unfinished store) (cell_precedents book cell)

-- the cells with content are present, each with its meaning or, where it has a formula, unfinished
pub record PresentMeans (setting : Setting) (book : List (Cell × Content)) (store : StoreState) : Type 0 where
  pub content : (q : Cell) → is_some (present_at store q) ≡ is_some (content_at book q)
  pub value : (q : Cell) (v : Value) → present_at store q ≡ Some (Some v) → meaning setting book q ≡ Val v
  pub formula : (q : Cell) → is_unfinished store q ≡ true → is_formula book q ≡ true

-- whether a cell has an open call
abbrev pub has_call : List OpenCall → Cell → Bool
has_call calls cell = is_some (call_at calls cell)

-- an open call is one of this recalculation, for which its cell asks; the cell is an unfinished and touched entry of the
-- chain
pub record IsAsked (setting : Setting) (book : List (Cell × Content)) (store : StoreState) (entries : List Cell)
    (round : ℕ) (opened : OpenCall) : Type 0 where
  pub in_round : opened.call.handle.round ≡ round
  pub asks : meaning setting book (cell_of opened) ≡ Asks opened.call.handle.site opened.call.name opened.call.args
  pub entry : (is_among entries (cell_of opened) && is_unfinished store (cell_of opened)) ≡ true
  pub touched : is_touched store (cell_of opened) ≡ true

-- what is present has its meaning; the pending cells are unfinished and touched entries of the chain, each once, and have
-- no open call; each open call is asked for; each unfinished cell is circular, pending, or has an open call
pub record IsWorking (setting : Setting) (book : List (Cell × Content)) (store : StoreState)
    (entries pending : List Cell) (calls : List OpenCall) (round : ℕ) : Type 0 where
  pub means : PresentMeans setting book store
  pub ordered : IsInOrder book
  pub entries_once : IsDistinct same_cell entries
  pub pending_once : IsDistinct same_cell pending
  pub pending_open : (q : Cell) → is_among pending q ≡ true
      → (is_among entries q && (is_unfinished store q && not (has_call calls q))) ≡ true
  pub touched : (q : Cell) → is_among pending q ≡ true → is_touched store q ≡ true
  pub asked : (q : Cell) (entry : OpenCall) → call_at calls q ≡ Some entry
      → IsAsked setting book store entries round entry
  pub left : (q : Cell) → is_unfinished store q ≡ true
      → (is_circular book q || (is_among pending q || has_call calls q)) ≡ true

-- there is room for the cells that are to be looked at, also when those of the open calls are to be too, and for the calls
-- that they may ask for
abbrev pub HasRoom : OpenWork → Type 0
HasRoom work =
    (length work.waiting.items + length work.calls.calls ≤ vec_capacity work.waiting)
    × (length work.waiting.items ≤ work.calls.spare)

-- what is present has its meaning; each cell that asks has an open call, and each cell that waits, asks or is circular is
-- unfinished
pub record IsWorkedOut (setting : Setting) (book : List (Cell × Content)) (store : StoreState)
    (calls : List OpenCall) : Type 0 where
  pub means : PresentMeans setting book store
  pub asked : (q : Cell) → asks_call (meaning setting book q) ≡ true → has_call calls q ≡ true
  pub left : (q : Cell) → is_unfinished store q ≡ true
      → (is_circular book q || is_open (meaning setting book q)) ≡ true

-- the sheet shows what it showed, the same cells are touched, and a value stays
pub record KeepsFinished (old new : StoreState) : Type 0 where
  pub shown : KeepsShown old new
  pub touched : KeepsTouched old new
  pub values : (q : Cell) (v : Value) → present_at old q ≡ Some (Some v)
      → present_at new q ≡ Some (Some v)

-- the same cells stand in the chain, in whatever order
abbrev pub HasSameCells : List Cell → List Cell → Type 0
HasSameCells old new = (q : Cell) → is_among new q ≡ is_among old q
