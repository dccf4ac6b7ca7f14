-- For the tests: a source in which each topic has one value, and a book with such a source and a log.
use Rattle.std.specs.Prelude.{◌≡◌, ◌≤◌, ℕ, ℤ, true, false, ◌&&◌, List, [], nat_eq}
use Rattle.std.specs.List.{list_any}
use Rattle.std.specs.Map.{lookup}
use Rattle.addin_types.specs.Samples.{sample_answer}
use Rattle.calc_book.specs.CalcState.{CalcState}
use Rattle.calc_book.specs.Keeping.{AtRest, InRound, IsSettled, NotesReaders, ReadsInRound, setting_over}
use Rattle.calc_book.specs.declared.calc_books.CalcBook.{CalcBook}
use Rattle.cell_refs.specs.declared.grid.Cell.{Cell}
use Rattle.cell_refs.specs.Cell.{is_among, same_cell}
use Rattle.cell_values.specs.declared.topics.Topic.{Topic}
use Rattle.cell_values.specs.declared.values.Value.TheVariants as values
use Rattle.cell_values.specs.Topic.{same_topic}
use Rattle.command_log.specs.Log.{LogParts, results_of}
use Rattle.topic_source.specs.Source.{SourceState, no_standing}
use Rattle.workbook.specs.Meaning.{Setting}
use Rattle.workbook.specs.Registry.{registration_of}

-- a source in which each topic has this value, after these readings
abbrev pub feed_state : ℤ → List (Topic × Cell) → SourceState
feed_state value readings = record {
  snapshot = λ topic. values.Num value;
  is_served = λ topic. true;
  has_read = λ topic cell. list_any (λ e. same_topic e.0 topic && same_cell e.1 cell) readings;
  standing = no_standing;
}

-- a book with registered functions alone
pub record IsNew (book : CalcBook) : Type 0 where
  pub state : Setting → CalcState
  pub rest : (setting : Setting) → AtRest book (state setting)
  pub setting : (setting : Setting) → (state setting).setting ≡ setting
  pub completed : (setting : Setting) → (state setting).completed ≡ []

-- a source has noted who read which topic in the last completed recalculation, which had the accepted values of a log; and
-- what a reader that isn't changed has read has the value that it had
pub record IsInStep (source : SourceState) (log : LogParts) (s : CalcState) : Type 0 where
  pub answer : s.setting.answer ≡ sample_answer
  pub registered : (name : List ℕ) → s.setting.registered name ≡ registration_of s.functions name
  pub accepted : (cell : Cell) (site : ℕ) → s.setting.accepted cell site ≡ lookup (nat_eq site) (results_of log cell)
  pub notes : NotesReaders s.setting s.completed source
  pub alike : (topic : Topic) (cell : Cell) → source.has_read topic cell ≡ true
      → is_among s.changed cell ≡ false → s.setting.snapshot topic ≡ source.snapshot topic

-- a book at rest, the source of its topics, and a log with room for so many entries
pub record Stands (book : CalcBook) (log : LogParts) (left : ℕ) (value : ℤ) (readings : List (Topic × Cell)) : Type 0 where
  pub state : CalcState
  pub rest : AtRest book state
  pub step : IsInStep (feed_state value readings) log state
  pub room : left ≤ log.room

-- the setting of such a book
abbrev pub sample_setting : CalcBook → LogParts → ℤ → Setting
sample_setting book log value = setting_over sample_answer (feed_state value []) log book

-- a book in a recalculation
pub record IsUnderWay (book : CalcBook) (log : LogParts) (left : ℕ) (value : ℤ) (readings : List (Topic × Cell)) : Type 0 where
  pub state : CalcState
  pub running : InRound (sample_setting book log value) 1 book state
  pub reads : ReadsInRound (sample_setting book log value) (feed_state value readings) book
  pub room : left ≤ log.room

-- one in which all that can be was evaluated
pub record IsWorked (book : CalcBook) (log : LogParts) (left : ℕ) (value : ℤ) (readings : List (Topic × Cell)) : Type 0 where
  pub way : IsUnderWay book log left value readings
  pub settled : IsSettled (sample_setting book log value) 1 book way.state
