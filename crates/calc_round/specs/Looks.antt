-- For the crate's own functions: a look at one cell, its job and its place in the chain.
use Rattle.std.specs.Prelude.{◌≡◌, ◌≢◌, ◌+◌, ◌-◌, ◌≤◌, ℕ, true, Option, None, Some, List, [], ◌++◌, length, option_map, vec_capacity}
use Rattle.std.specs.List.{IsDistinct, filter_map}
use Rattle.addin_types.specs.declared.registrations.Registration.{Registration}
use Rattle.async_handles.specs.declared.open_calls.OpenCall.{OpenCall}
use Rattle.async_handles.specs.OpenCalls.{OpenCalls, cell_of, with_call}
use Rattle.cell_chain.specs.CellOrder.{CellOrder}
use Rattle.cell_eval.specs.declared.jobs.Job.{Job}
use Rattle.cell_refs.specs.declared.grid.Cell.{Cell}
use Rattle.cell_refs.specs.Cell.{is_among, same_cell}
use Rattle.cell_store.specs.Gathering.{AreGathered}
use Rattle.cell_store.specs.Store.{PutsPresent, StoreState, present_at}
use Rattle.cell_values.specs.declared.topics.Topic.{Topic}
use Rattle.cell_values.specs.declared.values.Value.{Value}
use Rattle.command_log.specs.Log.{LogParts, results_of}
use Rattle.formula_parse.specs.Tree.{areas_named, sites_named}
use Rattle.workbook.specs.declared.contents.Content.{Content}
use Rattle.workbook.specs.declared.contents.Content.TheVariants as contents
use Rattle.workbook.specs.Book.{BookState, content_at}
use Rattle.workbook.specs.Evaluation.{Answer, Val, Asks}
use Rattle.workbook.specs.Meaning as meanings
use Rattle.workbook.specs.Meaning.{Setting, meaning}
use Rattle.workbook.specs.Registry.{registration_of}
use Rattle.calc_round.specs.declared.answered.Answered.{Answered}
use Rattle.calc_round.specs.declared.answered.Answered.TheVariants as answered
use Rattle.calc_round.specs.declared.looked.Looked.{Looked}
use Rattle.calc_round.specs.declared.looked.Looked.TheVariants as looks
use Rattle.calc_round.specs.declared.open_work.OpenWork.{OpenWork}
use Rattle.calc_round.specs.Rounds.{HasSameCells, names_unfinished, round_setting}

-- what the cells of a book are evaluated over, with the accepted values of a log
abbrev pub setting_for : (List ℕ → List Value → Value) → (Topic → Value) → LogParts → BookState → Setting
setting_for answer snapshot log book = round_setting answer snapshot (results_of log) book.functions

-- ---- jobs
-- what a job comes to, as an answer
abbrev pub answer_as : Answered → Answer
answer_as (answered.Value v) = Val v
answer_as (answered.Asks site name args) = Asks site name args

-- a name with its registration, where it is registered
abbrev pub registration_entry : List (List ℕ × Registration) → List ℕ → Option (List ℕ × Registration)
registration_entry functions name = option_map (λ registration. (name, registration)) (registration_of functions name)

-- the registered ones among names, with their registrations
abbrev pub registered_among : List (List ℕ × Registration) → List (List ℕ) → List (List ℕ × Registration)
registered_among functions names = filter_map (registration_entry functions) names

-- the job of a cell: its formula over what is present at the cells that it names, with the accepted values of the cell and
-- the registrations of the names that it calls, and with no topic
pub record IsJobOf (book : BookState) (accepted : Cell → List (ℕ × Value)) (store : StoreState) (cell : Cell) (job : Job)
    : Type 0 where
  pub home : job.cell ≡ cell
  pub tree : content_at book.contents cell ≡ Some (contents.Formula job.tree)
  pub inputs : AreGathered (present_at store) (areas_named job.tree cell.sheet) job.inputs
  pub topics : job.topics ≡ []
  pub results : job.results ≡ accepted cell
  pub functions : job.functions ≡ registered_among book.functions (sites_named job.tree)

-- ---- places in the chain
-- the chain has the same cells, each once where each stood once, and the same are due
pub record IsReordered (old new : CellOrder) : Type 0 where
  pub due : new.due ≡ old.due
  pub cells : HasSameCells old.entries new.entries
  pub once : IsDistinct same_cell old.entries → IsDistinct same_cell new.entries

-- another cell that stands in the chain, if there is one
abbrev pub IsOther : List Cell → Cell → Option Cell → Type 0
IsOther entries cell None = Unit {0}
IsOther entries cell (Some other) = (is_among entries other ≡ true) × (cell ≢ other)

-- ---- looks
-- the cell got its meaning as its value, and nothing else is present otherwise
abbrev pub Finishes : Setting → List (Cell × Content) → StoreState → StoreState → Cell → Type 0
Finishes setting book old new cell =
    (v : Value) × (meaning setting book cell ≡ meanings.Val v)
    × PutsPresent old new cell (Some (Some v))

-- the call for which the cell asks was opened in this recalculation, and no other
pub record OpensCall (setting : Setting) (book : List (Cell × Content)) (round : ℕ) (old new : OpenCalls) (cell : Cell)
    : Type 0 where
  pub entry : OpenCall
  pub home : cell_of entry ≡ cell
  pub in_round : entry.call.handle.round ≡ round
  pub asks : meaning setting book cell
      ≡ meanings.Asks entry.call.handle.site entry.call.name entry.call.args
  pub opened : new ≡ record old { calls = with_call old.calls entry; spare = old.spare - 1 }

-- what a look at a cell did: it finished the cell, opened its call, or changed neither values nor calls, as the cell names
-- an unfinished one
abbrev pub LookDoes : Setting → List (Cell × Content) → ℕ → StoreState → StoreState → OpenCalls → OpenCalls → Cell
    → Looked → Type 0
LookDoes setting book round store store' calls calls' cell looks.Finished =
    Finishes setting book store store' cell × (calls' ≡ calls)
LookDoes setting book round store store' calls calls' cell looks.Asked =
    OpensCall setting book round calls calls' cell × (store' ≡ store)
LookDoes setting book round store store' calls calls' cell looks.Waits =
    (names_unfinished book store cell ≡ true) × (store' ≡ store) × (calls' ≡ calls)

-- ---- room
-- there is room for the cells that wait or are due and for the cells of open calls, and for the calls of the former
abbrev pub HasRoomBeside : List Cell → OpenWork → Type 0
HasRoomBeside due work =
    (length (work.waiting.items ++ due) + length work.calls.calls ≤ vec_capacity work.waiting)
    × (length (work.waiting.items ++ due) ≤ work.calls.spare)
