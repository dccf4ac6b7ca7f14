-- What a recalculating book keeps of the state that it stands for, at rest and in a recalculation.
use Rattle.std.specs.Prelude.{◌≡◌, ℕ, Bool, false, not, ◌&&◌, ◌||◌, Option, List, []}
use Rattle.std.specs.Option.{option_map}
use Rattle.book_sync.specs.Following.{ShowsWhereClean, TableFollows}
use Rattle.calc_book.specs.CalcState.{CalcState}
use Rattle.calc_book.specs.declared.calc_books.CalcBook.{CalcBook}
use Rattle.calc_round.specs.Readings.{ReadsFollow}
use Rattle.calc_round.specs.Rounds.{HasRoom, IsWorkedOut, IsWorking, round_setting}
use Rattle.cell_refs.specs.declared.grid.Cell.{Cell}
use Rattle.cell_refs.specs.Cell.{is_among}
use Rattle.cell_store.specs.Store.{shown_at}
use Rattle.cell_values.specs.declared.topics.Topic.{Topic}
use Rattle.cell_values.specs.declared.values.Value.{Value}
use Rattle.command_log.specs.Log.{LogParts, results_of}
use Rattle.topic_source.specs.Source.{SourceState}
use Rattle.workbook.specs.declared.contents.Content.{Content}
use Rattle.workbook.specs.Agreement.{IsAlikeBesideChanged}
use Rattle.workbook.specs.Book.{IsInOrder, content_at, is_formula}
use Rattle.workbook.specs.Meaning.{Setting, asks_call, meaning, shown_value}
use Rattle.workbook.specs.Reads.{cell_reads}
use Rattle.workbook.specs.Stale.{is_stale}

-- what the sheet shows of a cell of a book: nothing where it has no content
abbrev pub shown_in : Setting → List (Cell × Content) → Cell → Option (Option Value)
shown_in setting book cell =
    option_map (λ content. shown_value (meaning setting book cell)) (content_at book cell)

-- what is kept at all times: the book, the changed cells, the formula cells as the chain, and the sheet, of which no cell
-- asks for a call
pub record Holds (b : CalcBook) (s : CalcState) : Type 0 where
  pub session : b.work.calls.session ≡ s.session
  pub book : b.book.contents ≡ s.book
  pub functions : b.book.functions ≡ s.functions
  pub ordered : IsInOrder s.book
  pub completed : IsInOrder s.completed
  pub changed : (cell : Cell) → is_among b.changed.keys cell ≡ is_among s.changed cell
  pub chain : (cell : Cell) → is_among b.chain.entries cell ≡ is_formula s.book cell
  pub shown : (cell : Cell) → shown_at b.store cell ≡ shown_in s.setting s.completed cell
  pub closed : (cell : Cell) → asks_call (meaning s.setting s.completed cell) ≡ false

-- no recalculation runs: off the changed cells the table follows the book, which has there the contents of the last
-- completed recalculation; what doesn't reach a changed cell is present as it is shown; and no call is open
pub record AtRest (b : CalcBook) (s : CalcState) : Type 0 where
  pub holds : Holds b s
  pub table : TableFollows s.book s.changed b.table
  pub clean : ShowsWhereClean s.book s.changed b.store
  pub others : (cell : Cell) → is_among s.changed cell ≡ false
      → content_at s.completed cell ≡ content_at s.book cell
  pub calls : b.work.calls.calls ≡ []

-- in this setting all beside what is changed is as it was in the last completed recalculation
abbrev pub IsAlikeNow : Setting → CalcState → Type 0
IsAlikeNow now s = IsAlikeBesideChanged s.setting now s.completed s.book s.changed

-- a recalculation of this number runs in this setting: the table follows the book, the marks are the stale cells, what
-- is present has its meaning, and what has no value yet is to be looked at, asks for an open call, or is circular; what
-- doesn't reach a changed cell is present as it is shown, and is as it was
pub record InRound (now : Setting) (round : ℕ) (b : CalcBook) (s : CalcState) : Type 0 where
  pub holds : Holds b s
  pub table : TableFollows s.book [] b.table
  pub marked : (cell : Cell) → is_among b.marks cell ≡ is_stale s.book s.changed cell
  pub working : IsWorking now s.book b.store b.chain.entries b.work.waiting.items b.work.calls.calls round
  pub idle : b.chain.due ≡ []
  pub room : HasRoom b.work
  pub clean : ShowsWhereClean s.book s.changed b.store
  pub alike : IsAlikeNow now s

-- one runs in which all that can be evaluated has been: what is left is circular, asks for an open call, or waits for one
pub record IsSettled (now : Setting) (round : ℕ) (b : CalcBook) (s : CalcState) : Type 0 where
  pub running : InRound now round b s
  pub worked : IsWorkedOut now s.book b.store b.work.calls.calls

-- the setting of a book with these answers of added functions, these values of topics, and the accepted values of a log
abbrev pub setting_over : (List ℕ → List Value → Value) → SourceState → LogParts → CalcBook → Setting
setting_over answer source log b = round_setting answer source.snapshot (results_of log) b.book.functions

-- ---- who reads which topic
-- whether a cell reads a topic that is served
abbrev pub reads_served : Setting → List (Cell × Content) → SourceState → Topic → Cell → Bool
reads_served setting book source topic cell = cell_reads setting book cell topic && source.is_served topic

-- the source has noted who reads which served topic, and no more
abbrev pub NotesReaders : Setting → List (Cell × Content) → SourceState → Type 0
NotesReaders setting book source = (topic : Topic) (cell : Cell)
    → source.has_read topic cell ≡ reads_served setting book source topic cell

-- whether what a cell has read is forgotten at a begin: the cell is stale or changed
abbrev pub is_forgotten : CalcState → Cell → Bool
is_forgotten s cell = is_stale s.book s.changed cell || is_among s.changed cell

-- the source has noted who read which served topic in the last completed recalculation, but of the forgotten cells nothing
abbrev pub NotesCleanReaders : SourceState → CalcState → Type 0
NotesCleanReaders source s = (topic : Topic) (cell : Cell)
    → source.has_read topic cell
    ≡ (reads_served s.setting s.completed source topic cell && not (is_forgotten s cell))

-- in a recalculation: what the source has noted is read, and each cell that has a value has been noted
abbrev pub ReadsInRound : Setting → SourceState → CalcBook → Type 0
ReadsInRound now source b = ReadsFollow now source b.book.contents b.store

-- ---- some state
-- it stands for some state at rest
abbrev pub Rests : CalcBook → Type 0
Rests b = (s : CalcState) × AtRest b s

-- it stands for some state in a recalculation of this number in this setting
abbrev pub Runs : Setting → ℕ → CalcBook → Type 0
Runs now round b = (s : CalcState) × InRound now round b s

-- it stands for some state in some recalculation
abbrev pub IsRunning : CalcBook → Type 0
IsRunning b = (now : Setting) × (round : ℕ) × Runs now round b
