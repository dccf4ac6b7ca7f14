-- For the crate's own functions: what one evaluation notes of the topics that it reads.
use Rattle.std.specs.Prelude.{◌≡◌, Bool, true, ◌&&◌, ◌||◌}
use Rattle.cell_refs.specs.declared.grid.Cell.{Cell}
use Rattle.cell_refs.specs.Cell.{same_cell}
use Rattle.cell_values.specs.declared.topics.Topic.{Topic}
use Rattle.topic_source.specs.Source.{SourceState}

-- this cell is noted for each of the read topics that is served, beside what was noted
abbrev pub NotesTopics : SourceState → SourceState → Cell → (Topic → Bool) → Type 0
NotesTopics old new reader is_read = (topic : Topic) (cell : Cell)
    → new.has_read topic cell
    ≡ ((old.is_served topic && (is_read topic && same_cell reader cell)) || old.has_read topic cell)

-- what was noted stays, and whatever is noted more is this cell for read topics that are served
pub record NotesSome (old new : SourceState) (reader : Cell) (is_read : Topic → Bool) : Type 0 where
  pub kept : (topic : Topic) (cell : Cell) → old.has_read topic cell ≡ true → new.has_read topic cell ≡ true
  pub among : (topic : Topic) (cell : Cell) → new.has_read topic cell ≡ true
      → ((old.is_served topic && (is_read topic && same_cell reader cell)) || old.has_read topic cell) ≡ true
