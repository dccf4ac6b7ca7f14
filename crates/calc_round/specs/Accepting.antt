-- A recalculation in which one more value of an asynchronous call is accepted.
use Rattle.std.specs.Prelude.{◌≡◌, ℕ, true, false, not, ◌&&◌, List, [], ◌∷◌, ◌++◌}
use Rattle.async_handles.specs.declared.open_calls.OpenCall.{OpenCall}
use Rattle.async_handles.specs.OpenCalls.{calls_without}
use Rattle.cell_refs.specs.declared.grid.Cell.{Cell}
use Rattle.cell_refs.specs.Cell.{same_cell}
use Rattle.cell_store.specs.Store.{StoreState}
use Rattle.cell_values.specs.declared.topics.Topic.{Topic}
use Rattle.topic_source.specs.Source.{SourceState}
use Rattle.workbook.specs.declared.contents.Content.{Content}
use Rattle.workbook.specs.Meaning.{Setting}
use Rattle.calc_round.specs.Readings.{ReadsFollow}
use Rattle.calc_round.specs.Rounds.{IsWorking, has_call}

-- two settings are the same but for the accepted values of one cell
pub record DifferAtCell (earlier later : Setting) (cell : Cell) : Type 0 where
  pub accepted : (q : Cell) (site : ℕ) → same_cell cell q ≡ false
      → earlier.accepted q site ≡ later.accepted q site
  pub snapshot : (topic : Topic) → earlier.snapshot topic ≡ later.snapshot topic
  pub registered : (name : List ℕ) → earlier.registered name ≡ later.registered name
  pub answer : earlier.answer ≡ later.answer

-- a source noted what it noted, but nothing for one cell
pub record ForgetsReader (old new : SourceState) (cell : Cell) : Type 0 where
  pub noted : (topic : Topic) (q : Cell)
      → new.has_read topic q ≡ (not (same_cell cell q) && old.has_read topic q)
  pub served : (topic : Topic) → new.is_served topic ≡ old.is_served topic

-- where the accepted values of a cell with an open call change, the call is open no longer, and the cell is to be looked
-- at, the bookkeeping is in order
abbrev pub WorksOnAfterAccepting : Setting → Setting → List (Cell × Content) → Cell → Type 0
WorksOnAfterAccepting earlier later book cell =
    (store : StoreState) (entries pending : List Cell) (calls : List OpenCall) (round : ℕ)
    → has_call calls cell ≡ true → IsWorking earlier book store entries pending calls round
    → IsWorking later book store entries (pending ++ cell ∷ []) (calls_without calls cell) round

-- and where its readings are forgotten too, the readings are in order
abbrev pub ReadsOnAfterAccepting : Setting → Setting → List (Cell × Content) → Cell → Type 0
ReadsOnAfterAccepting earlier later book cell =
    (store : StoreState) (entries pending : List Cell) (calls : List OpenCall) (round : ℕ)
    → has_call calls cell ≡ true → IsWorking earlier book store entries pending calls round
    → (old new : SourceState) → ForgetsReader old new cell
    → ReadsFollow earlier old book store → ReadsFollow later new book store
