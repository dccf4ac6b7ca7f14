-- Which cells were noted as the readers of which topics, in a recalculation.
use Rattle.std.specs.Prelude.{◌≡◌, true, Some, List}
use Rattle.cell_refs.specs.declared.grid.Cell.{Cell}
use Rattle.cell_store.specs.Store.{StoreState, present_at}
use Rattle.cell_values.specs.declared.topics.Topic.{Topic}
use Rattle.cell_values.specs.declared.values.Value.{Value}
use Rattle.topic_source.specs.Source.{SourceState}
use Rattle.workbook.specs.declared.contents.Content.{Content}
use Rattle.workbook.specs.Reads.{cell_reads}
use Rattle.workbook.specs.Meaning.{Setting}

-- each cell that was noted for a topic reads it, and it is served; where a cell that reads a served topic has its value,
-- it was noted
pub record ReadsFollow (setting : Setting) (source : SourceState) (book : List (Cell × Content)) (store : StoreState)
    : Type 0 where
  pub sound : (topic : Topic) (cell : Cell) → source.has_read topic cell ≡ true
      → cell_reads setting book cell topic ≡ true
  pub served : (topic : Topic) (cell : Cell) → source.has_read topic cell ≡ true
      → source.is_served topic ≡ true
  pub complete : (topic : Topic) (cell : Cell) (v : Value) → present_at store cell ≡ Some (Some v)
      → cell_reads setting book cell topic ≡ true
      → source.is_served topic ≡ true → source.has_read topic cell ≡ true
