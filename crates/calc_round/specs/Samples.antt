-- For the tests: a book of which nothing was evaluated, and a source whose topics have values.
use Rattle.std.specs.Prelude.{◌≡◌, ℕ, true, false, ◌&&◌, Option, None, Some, List, [], ◌∷◌}
use Rattle.std.specs.List.{IsDistinct, list_any}
use Rattle.std.specs.Option.{option_map}
use Rattle.addin_types.specs.Samples.{sample_answer}
use Rattle.cell_chain.specs.CellOrder.{CellOrder}
use Rattle.cell_refs.specs.declared.grid.Cell.{Cell}
use Rattle.cell_refs.specs.Cell.{is_among, same_cell}
use Rattle.cell_store.specs.Store.{StoreState, is_touched, present_at}
use Rattle.cell_values.specs.declared.topics.Topic.{Topic}
use Rattle.cell_values.specs.declared.values.Value.{Value}
use Rattle.cell_values.specs.declared.values.Value.TheVariants as values
use Rattle.cell_values.specs.Topic.{same_topic}
use Rattle.command_log.specs.Log.{LogParts}
use Rattle.topic_source.specs.Source.{SourceState, no_standing}
use Rattle.workbook.specs.declared.contents.Content.{Content}
use Rattle.workbook.specs.Book.{BookState, IsInOrder, by_content, content_at, is_formula}
use Rattle.calc_round.specs.declared.open_work.OpenWork.{OpenWork}
use Rattle.calc_round.specs.Looks.{setting_for}
use Rattle.calc_round.specs.Readings.{ReadsFollow}
use Rattle.calc_round.specs.Rounds.{HasRoom, IsWorking, is_unfinished}

-- what is present of a content before any evaluation: the value of a constant, and none of a formula
abbrev pub first_value : Content → Option Value
first_value content = by_content Some (λ tree. None) (Some content)

-- each cell with content has its first value, and the formula cells are the entries of the chain, none of which is due
pub record IsUnevaluated (book : List (Cell × Content)) (store : StoreState) (chain : CellOrder) : Type 0 where
  pub ordered : IsInOrder book
  pub present : (q : Cell) → present_at store q ≡ option_map first_value (content_at book q)
  pub cells : (q : Cell) → is_among chain.entries q ≡ is_formula book q
  pub once : IsDistinct same_cell chain.entries
  pub idle : chain.due ≡ []
  pub touched : (q : Cell) → is_unfinished store q ≡ true → is_touched store q ≡ true

-- the first recalculation of a book is under way, over the sample functions, and nothing is due between two calls
pub record IsUnderWay (book : BookState) (log : LogParts) (store : StoreState) (chain : CellOrder) (work : OpenWork)
    (source : SourceState) : Type 0 where
  pub working : IsWorking (setting_for sample_answer source.snapshot log book) book.contents store chain.entries
      work.waiting.items work.calls.calls 1
  pub reads : ReadsFollow (setting_for sample_answer source.snapshot log book) source book.contents store
  pub idle : chain.due ≡ []
  pub room : HasRoom work

-- no cell was noted for any topic
abbrev pub IsUnread : SourceState → Type 0
IsUnread source = (topic : Topic) (cell : Cell) → source.has_read topic cell ≡ false

-- the first string of a topic as a value
abbrev pub first_string : List (List ℕ) → Value
first_string [] = values.Blank
first_string (string ∷ strings) = values.Text string

-- a source in which each topic has its first string as its value, after these readings
abbrev pub echo_state : List (Topic × Cell) → SourceState
echo_state readings = record {
  snapshot = λ topic. first_string topic.strings;
  is_served = λ topic. true;
  has_read = λ topic cell. list_any (λ e. same_topic e.0 topic && same_cell e.1 cell) readings;
  standing = no_standing;
}
